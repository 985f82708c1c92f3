use Rattle.std.proofs.lemmas.Grind.{common_steps}
use Rattle.std.proofs.Common.{◌≡◌, arith}
use Rattle.foyer_format_layout.proofs.PageLaws.{page_up-even}
use Rattle.foyer_format_layout.specs.Page.{page_up}
use Rattle.foyer_core_flusher.proofs.filled.new_pages.Goals as goal

pub returns-in_err-pages-clause-memory : goal.returns-in_err-pages-clause-memory
returns-in_err-pages-clause-memory g c =
    let even : page_up c.args.room ≡ c.args.room = page_up-even c.args.room c.requires in
    grind (arith, even)

pub returns-clause-room : goal.returns-clause-room
returns-clause-room g c =
    let even : page_up c.args.room ≡ c.args.room = page_up-even c.args.room c.requires in
    grind (arith, common_steps, even)

use Rattle.std.proofs.Common.{rules}
use Rattle.foyer_format_layout.specs.Page.{page_up}
use Rattle.foyer_device_page.proofs.io.bytes.raw.Raw.new.Goals as goal

pub returns-clause-zeros : goal.returns-clause-zeros
unfolding page_up
returns-clause-zeros g c = search rules depth 1

pub returns-then-capacity-clause-beyond : goal.returns-then-capacity-clause-beyond
unfolding page_up
returns-then-capacity-clause-beyond g c = search rules depth 1

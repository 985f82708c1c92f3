use Rattle.std.proofs.Common.{sym}
use Rattle.foyer_format_buffer.proofs.EntriesLemmas.{shown}
use Rattle.foyer_format_buffer.proofs.entries.Buffer.written.Goals as goal

pub returns : goal.returns
returns g c =
    let i = c.self.inside in
    sym (shown c.args.self.now i.pages.bytes i.entry_infos.items i.pages.written i.max_entry_size c.self.view_is c.self.invariant.0 c.self.invariant.1 i.pages.within c.self.invariant.3).size

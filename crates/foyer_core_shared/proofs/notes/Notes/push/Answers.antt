use Rattle.std.proofs.Common.{ap, ◌∙◌}
use Rattle.foyer_core_shared.specs.Chunks.{all_of}
use Rattle.foyer_core_shared.proofs.ChunkLemmas.{one_more}
use Rattle.foyer_core_shared.proofs.notes.Notes.push.Goals as goal

pub returns : goal.returns
returns g c =
    let old = c.args.self.now in
    ap (all_of old.full.items) c.push_reserved.ensures.items ∙ one_more old.full.items old.last.items c.args.note

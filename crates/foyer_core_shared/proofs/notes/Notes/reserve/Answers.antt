use Rattle.std.proofs.Common.{◌≡◌, [], ◌∷◌, ◌++◌, ◌∙◌}
use Rattle.foyer_core_shared.specs.Chunks.{all_of}
use Rattle.foyer_core_shared.proofs.ChunkLemmas.{chunk_full}
use Rattle.foyer_core_shared.proofs.notes.Notes.reserve.Goals as goal

pub returns-clause-same : goal.returns-clause-same
returns-clause-same g c =
    let old = c.args.self.now in
    let full = c.push_reserved.ensures.items in
    let none : c.replace-last.new.dest.items ≡ [] = (λ i. (c.replace-last.ensures.after i).items) ∙ c.in_ok-next.ensures.items in
    (λ i. all_of (full i) (none i)) ∙ (λ i. all_of (c.reserve.ensures.items i ++ c.replace-last.ensures.value i ∷ []) []) ∙ chunk_full old.full.items old.last

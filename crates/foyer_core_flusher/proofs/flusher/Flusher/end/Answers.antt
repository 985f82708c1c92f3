use Rattle.std.proofs.Common.{◌≡◌, Option, Some, map, sym, ap, subst, ◌∙◌}
use Rattle.foyer_block_index.specs.Removal.{without_marks}
use Rattle.foyer_core_model.specs.Flush.{invalidated_unless}
use Rattle.foyer_core_flusher.specs.FlusherSteps.{HasEnded}
use Rattle.foyer_core_blocks.specs.Addresses.{invalid_of}
use Rattle.foyer_block_manager.specs.BlockSets.{Stands}
use Rattle.foyer_core_blocks.specs.Standing.{sets_of}
use Rattle.foyer_core_flusher.specs.Seen.{seen}
use Rattle.foyer_core_flusher.specs.declared.batch.Batch.{Batch}
use Rattle.foyer_core_flusher.proofs.WroteLemmas.{ended}
use Rattle.foyer_core_flusher.proofs.flusher.Flusher.end.Goals as goal

pub returns-clause-done : goal.returns-clause-done
returns-clause-done g c = λ m s sound f it stands.
    let self = c.args.self.now in
    let batch = c.in-Some.batch in
    let is : self.batch ≡ Some batch = cc in
    let gone = c.remove_marks.ensures ∙ ap (without_marks c.args.index.now.slots) c.as_slice.ensures.value in
    let sets = subst (λ xs. Stands c.invalidate_unless.new.manager (record (sets_of it) { stats = invalidated_unless it.place it.filling batch.logged (map invalid_of xs) it.stats })) c.as_slice-2.ensures.value
    (c.invalidate_unless.ensures.invalidated (sets_of it) (stands.manager).sets) in
    subst (λ (o : Option (Batch g.row.K.Denot g.row.V.Denot g.row.P.Denot g.row.A.Denot)). HasEnded m s sound f it batch.pieces.items batch.waits.items
    (record (seen self) { batch = o }) c.remove_marks.new.self.slots c.invalidate_unless.new.manager) (sym c.take.ensures.after)
    (ended m s sound f it (seen self) c.args.index.now.slots c.args.manager.now stands batch is
    c.remove_marks.new.self.slots c.invalidate_unless.new.manager gone c.invalidate_unless.ensures.same sets)

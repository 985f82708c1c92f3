use Rattle.std.proofs.Common.{IsOk, sym, subst, ◌∙◌}
use Rattle.foyer_block_index.specs.Index.{HasRoomFor}
use Rattle.foyer_block_index.specs.Committing.{PiecesHeld}
use Rattle.foyer_core_flusher.proofs.CommitLemmas.{held_settled, room_settled}
use Rattle.foyer_core_flusher.proofs.committing.commit.Goals as goal

pub returns-clause-overwrites : goal.returns-clause-overwrites
returns-clause-overwrites g c = λ held.
    let slots = c.args.index.now.slots in
    let went : IsOk c.commit_batch.result =
    c.commit_batch.ensures.overwrites (subst (λ es. PiecesHeld slots es c.args.sources.now) (sym (c.deref.ensures.value ∙ c.settle.ensures)) (held_settled slots c.args.block c.args.filling c.args.records.items c.args.sources.now held)) in
    c.ok.ensures.variant ∙ went

pub returns-clause-room : goal.returns-clause-room
returns-clause-room g c = λ room.
    let rooms = c.args.index.now.rooms in
    let went : IsOk c.commit_batch.result =
    c.commit_batch.ensures.room (subst (HasRoomFor rooms) (sym (c.deref.ensures.value ∙ c.settle.ensures)) (room_settled rooms c.args.block c.args.filling c.args.records.items room)) in
    c.ok.ensures.variant ∙ went

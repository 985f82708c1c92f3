use Rattle.std.proofs.Common.{sym, ap, subst, ◌∙◌}
use Rattle.foyer_block_index.specs.Index.{HasRoomFor}
use Rattle.foyer_block_index.specs.Insertion.{inserted_all, AllHeld}
use Rattle.foyer_block_index.proofs.Reordered.{inserted_reordered, held_moved, room_moved}
use Rattle.foyer_block_index.proofs.Rooms.{not_refused}
use Rattle.foyer_block_index.proofs.indexer.Indexer.insert_all.Goals as goal

pub returns-in_err-enter_all-clause-overwrites : goal.returns-in_err-enter_all-clause-overwrites
returns-in_err-enter_all-clause-overwrites g c = λ held.
    let there : AllHeld c.args.self.now.slots c.deref.result.now =
    subst (AllHeld c.args.self.now.slots) (sym c.deref.ensures.value) (held_moved c.args.batch.items c.arrange.new.batch.items c.arrange.ensures.moved c.args.self.now.slots held) in
    absurd (not_refused c.enter_all.result _ c.in_err-enter_all.was (c.enter_all.ensures.overwrites there))

pub returns-in_err-enter_all-clause-room : goal.returns-in_err-enter_all-clause-room
returns-in_err-enter_all-clause-room g c = λ some.
    let there : HasRoomFor c.args.self.now.rooms c.deref.result.now =
    subst (HasRoomFor c.args.self.now.rooms) (sym c.deref.ensures.value) (room_moved c.args.batch.items c.arrange.new.batch.items c.arrange.ensures.moved c.args.self.now.rooms some) in
    absurd (not_refused c.enter_all.result _ c.in_err-enter_all.was (c.enter_all.ensures.room there))

pub returns-clause-inserted : goal.returns-clause-inserted
returns-clause-inserted g c =
    c.in_ok-enter_all.ensures.inserted ∙ ap (inserted_all c.args.self.now.slots) c.deref.ensures.value
    ∙ inserted_reordered c.args.self.now.slots c.arrange.new.batch.items c.args.batch.items c.arrange.ensures.hashes

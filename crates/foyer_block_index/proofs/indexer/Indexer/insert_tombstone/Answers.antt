use Rattle.std.proofs.Common.{◌≡◌, ◌<◌, IfOk, OnOk, OnErr, subst, sym, ◌∙◌}
use Rattle.std.specs.FinMap as map
use Rattle.foyer_block_index.specs.declared.indexer.Index.TheVariants.{Tombstone}
use Rattle.foyer_block_index.specs.Insertion.{displaced, inserted}
use Rattle.foyer_block_index.specs.Index.{IndexState, KeepsIndex, HasRoomAt}
use Rattle.foyer_block_index.specs.Shards.{map_of, state_of}
use Rattle.foyer_block_index.proofs.Filling.{filled_entered}
use Rattle.foyer_block_index.proofs.Rooms.{refused_keeps, has_room_at}
use Rattle.foyer_block_index.proofs.indexer.Indexer.insert_tombstone.Goals as goal

pub returns-clause-inserted : goal.returns-clause-inserted
returns-clause-inserted g c = subst (λ (s : IndexState). OnOk c.enter.result (map_of c.enter.new.shards.items ≡ inserted s.slots c.args.hash (Tombstone c.args.sequence))) c.self.view_is
    c.enter.ensures.inserted

pub returns-clause-answer : goal.returns-clause-answer
returns-clause-answer g c = subst (λ (s : IndexState). IfOk c.enter.result (λ answer. answer ≡ displaced (map.get s.slots c.args.hash) (Tombstone c.args.sequence))) c.self.view_is
    c.enter.ensures.answer

pub returns-clause-err : goal.returns-clause-err
returns-clause-err g c = subst (λ (s : IndexState). OnErr c.enter.result (KeepsIndex s (state_of c.enter.new.shards.items))) c.self.view_is
    (refused_keeps c.enter.result c.self.inside.shards.items c.enter.new.shards.items c.args.hash c.enter.ensures.err c.enter.ensures.len c.enter.ensures.succeeds c.enter.ensures.room)

pub returns-clause-room : goal.returns-clause-room
returns-clause-room g c = λ some.
    c.enter.ensures.succeeds (has_room_at c.self.inside.shards.items c.args.hash (subst (λ (s : IndexState). HasRoomAt s.rooms c.args.hash) (sym c.self.view_is) some))

pub invariant_of-self : goal.invariant_of-self
invariant_of-self g c = (
  subst (λ n. 0 < n) (sym c.enter.ensures.len) c.self.invariant.0,
  c.self.invariant.1 ∙ sym c.enter.ensures.len,
  c.self.invariant.2,
  c.self.invariant.3,
  filled_entered c.enter.result c.self.inside.shards.items c.enter.new.shards.items c.args.hash (Tombstone c.args.sequence) c.enter.ensures.len c.enter.ensures.inserted c.enter.ensures.err
      c.enter.ensures.places c.self.invariant.4,
)

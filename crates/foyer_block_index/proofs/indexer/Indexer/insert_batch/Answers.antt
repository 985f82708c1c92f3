use Rattle.std.proofs.Common.{◌≡◌, ℕ, [], List, length, ap, sym, subst, ◌∙◌}
use Rattle.foyer_block_index.specs.declared.indexer.HashedEntryAddress.{HashedEntryAddress}
use Rattle.foyer_block_index.specs.Index.{IndexState, HasRoomFor, KeepsIndex}
use Rattle.foyer_block_index.specs.Insertion.{AllHeld}
use Rattle.foyer_block_index.specs.Shards.{Shard, map_of, state_of, AreCountsOf, PiecesSeated, AreFilled, AreFilledBut}
use Rattle.foyer_block_index.proofs.Filling.{filled_kept, filled_seated, filled_but}
use Rattle.foyer_block_index.proofs.Rooms.{keeps_index, written_back, counts_of, refused_without_room}
use Rattle.foyer_block_index.proofs.Seating.{all_seated}
use Rattle.foyer_block_index.proofs.indexer.Indexer.insert_batch.Goals.{in-Ok, in-Err+else-not-holds_all}
use Rattle.foyer_block_index.proofs.indexer.Indexer.insert_batch.Goals as goal

pub enter_all-answers-requires-clause-seated : goal.enter_all-answers-requires-clause-seated
enter_all-answers-requires-clause-seated g c =
    elim c.match-reserve.branch [
      | in-Ok w ↦
          let shards : c.match-reserve.self-inside.shards.items ≡ w.seat_all.new.shards.items = ap (λ s. s.shards.items) w.self-inside-is in
          let batch : c.deref_mut-2.result.now ≡ w.deref-in-Ok.result.now = c.deref_mut-2.ensures.value ∙ sym w.deref-in-Ok.ensures.value in
          subst (λ (l : List Shard). PiecesSeated l c.deref_mut-2.result.now []) (sym shards)
          (subst (λ (l : List HashedEntryAddress). PiecesSeated w.seat_all.new.shards.items l []) (sym batch) w.seat_all.ensures.seated)
      | in-Err+else-not-holds_all w ↦
          let shards : c.match-reserve.self-inside.shards.items ≡ c.reserve.new.shards.items = ap (λ s. s.shards.items) w.self-inside-is in
          let held : AllHeld (map_of w.deref-in-Err.result.now) w.deref-in-Err-2.result.now = w.holds_all.ensures.0 w.if-not-holds_all.false in
          let batch : w.deref-in-Err-2.result.now ≡ c.deref_mut-2.result.now = w.deref-in-Err-2.ensures.value ∙ sym c.deref_mut-2.ensures.value in
          subst (λ (l : List Shard). PiecesSeated l c.deref_mut-2.result.now []) (sym shards)
          (all_seated c.reserve.new.shards.items c.deref_mut-2.result.now (subst (AllHeld (map_of c.reserve.new.shards.items)) batch
          (subst (λ (l : List Shard). AllHeld (map_of l) w.deref-in-Err-2.result.now) w.deref-in-Err.ensures.value held)))
    ]

pub enter_all-answers-requires-clause-filled : goal.enter_all-answers-requires-clause-filled
enter_all-answers-requires-clause-filled g c =
    let reserved : AreFilled c.reserve.new.shards.items =
    filled_kept c.self.inside.shards.items c.reserve.new.shards.items c.reserve.ensures.len c.reserve.ensures.unchanged c.reserve.ensures.places c.self.invariant.4 in
    elim c.match-reserve.branch [
      | in-Ok w ↦
          let shards : c.match-reserve.self-inside.shards.items ≡ w.seat_all.new.shards.items = ap (λ s. s.shards.items) w.self-inside-is in
          let batch : c.deref_mut-2.result.now ≡ w.deref-in-Ok.result.now = c.deref_mut-2.ensures.value ∙ sym w.deref-in-Ok.ensures.value in
          subst (λ (l : List Shard). AreFilledBut l c.deref_mut-2.result.now [] 0) (sym shards)
          (subst (λ (l : List HashedEntryAddress). AreFilledBut w.seat_all.new.shards.items l [] 0) (sym batch)
          (filled_seated c.reserve.new.shards.items w.seat_all.new.shards.items w.deref-in-Ok.result.now [] w.seat_all.ensures.len w.seat_all.ensures.same w.seat_all.ensures.places reserved))
      | in-Err+else-not-holds_all w ↦
          let shards : c.match-reserve.self-inside.shards.items ≡ c.reserve.new.shards.items = ap (λ s. s.shards.items) w.self-inside-is in
          subst (λ (l : List Shard). AreFilledBut l c.deref_mut-2.result.now [] 0) (sym shards) (filled_but c.reserve.new.shards.items c.deref_mut-2.result.now [] 0 reserved)
    ]

pub returns-then-not-holds_all-clause-err : goal.returns-then-not-holds_all-clause-err
returns-then-not-holds_all-clause-err g c = subst (λ (s : IndexState). KeepsIndex s (state_of c.reserve.new.shards.items)) c.self.view_is
    (keeps_index c.self.inside.shards.items c.reserve.new.shards.items c.reserve.ensures.unchanged c.reserve.ensures.len c.reserve.ensures.kept)

pub reserve-requires-clause-counted : goal.reserve-requires-clause-counted
reserve-requires-clause-counted g c =
    let counted : length c.deref_mut.result.now ≡ length c.self.inside.shards.items = ap (λ (l : List ℕ). length l) c.deref_mut.ensures.value ∙ c.self.invariant.1 in
    let counts : length c.count.new.counts ≡ length c.deref_mut.result.now = c.count.auto.counts in
    let same : c.deref-2.result.now ≡ c.count.new.counts =
    c.deref-2.ensures.value ∙ written_back c.self.inside.counts.len c.count.new.counts c.self.inside.counts.items
    (counts ∙ ap (λ (l : List ℕ). length l) c.deref_mut.ensures.value ∙ sym c.self.inside.counts.ok.0) in
    let batch : c.deref.result.now ≡ c.deref-3.result.now = c.deref.ensures.value ∙ sym c.deref-3.ensures.value in
    counts_of (length c.self.inside.shards.items) c.deref-2.result.now c.count.new.counts c.deref-3.result.now (sym counted) same (subst (AreCountsOf (length c.deref_mut.result.now) c.count.new.counts) batch c.count.ensures)

pub returns-then-not-holds_all-clause-room : goal.returns-then-not-holds_all-clause-room
returns-then-not-holds_all-clause-room g c = λ some.
    absurd (refused_without_room c.reserve.result c.in-Err.refused c.args.self.now c.self.inside.shards.items c.deref-3.result.now c.self.view_is c.reserve.ensures.fits c.in-Err.is
    (subst (HasRoomFor c.args.self.now.rooms) (sym c.deref-3.ensures.value) some))

use Rattle.std.proofs.Common.{◌≡◌, ℕ, [], List, length, ap, sym, subst, ◌∙◌}
use Rattle.foyer_block_index.specs.Index.{IndexState, KeepsIndex}
use Rattle.foyer_block_index.specs.Insertion.{AllHeld}
use Rattle.foyer_block_index.specs.Shards.{Shard, map_of, state_of, PiecesSeated, AreFilled, AreFilledBut}
use Rattle.foyer_block_index.proofs.Filling.{filled_kept, filled_seated, filled_but}
use Rattle.foyer_block_index.proofs.Rooms.{keeps_index, written_back, counts_of, refused_without_room}
use Rattle.foyer_block_index.proofs.Seating.{all_seated}
use Rattle.foyer_block_index.proofs.indexer.Indexer.enter_all.Goals.{in-Ok, in-Err+else-not-holds_all}
use Rattle.foyer_block_index.proofs.indexer.Indexer.enter_all.Goals as goal

pub insert_all-requires-clause-seated : goal.insert_all-requires-clause-seated
insert_all-requires-clause-seated g c =
    elim c.match-reserve.branch [
      | in-Ok w ↦
          let shards : c.match-reserve.self-inside.shards.items ≡ w.seat_all.new.shards.items = ap (λ s. s.shards.items) w.self-inside-is in
          subst (λ (l : List Shard). PiecesSeated l c.args.entries.now []) (sym shards) w.seat_all.ensures.seated
      | in-Err+else-not-holds_all w ↦
          let shards : c.match-reserve.self-inside.shards.items ≡ c.reserve.new.shards.items = ap (λ s. s.shards.items) w.self-inside-is in
          let held : AllHeld (map_of w.deref-in-Err.result.now) c.args.entries.now = w.holds_all.ensures.0 w.if-not-holds_all.false in
          subst (λ (l : List Shard). PiecesSeated l c.args.entries.now []) (sym shards)
          (all_seated c.reserve.new.shards.items c.args.entries.now (subst (λ (l : List Shard). AllHeld (map_of l) c.args.entries.now) w.deref-in-Err.ensures.value held))
    ]

pub insert_all-requires-clause-filled : goal.insert_all-requires-clause-filled
insert_all-requires-clause-filled g c =
    let reserved : AreFilled c.reserve.new.shards.items =
    filled_kept c.self.inside.shards.items c.reserve.new.shards.items c.reserve.ensures.len c.reserve.ensures.unchanged c.reserve.ensures.places c.self.invariant.4 in
    elim c.match-reserve.branch [
      | in-Ok w ↦
          let shards : c.match-reserve.self-inside.shards.items ≡ w.seat_all.new.shards.items = ap (λ s. s.shards.items) w.self-inside-is in
          subst (λ (l : List Shard). AreFilledBut l c.args.entries.now [] 0) (sym shards)
          (filled_seated c.reserve.new.shards.items w.seat_all.new.shards.items c.args.entries.now [] w.seat_all.ensures.len w.seat_all.ensures.same w.seat_all.ensures.places reserved)
      | in-Err+else-not-holds_all w ↦
          let shards : c.match-reserve.self-inside.shards.items ≡ c.reserve.new.shards.items = ap (λ s. s.shards.items) w.self-inside-is in
          subst (λ (l : List Shard). AreFilledBut l c.args.entries.now [] 0) (sym shards) (filled_but c.reserve.new.shards.items c.args.entries.now [] 0 reserved)
    ]

pub returns-then-not-holds_all-clause-err : goal.returns-then-not-holds_all-clause-err
returns-then-not-holds_all-clause-err g c = subst (λ (s : IndexState). KeepsIndex s (state_of c.reserve.new.shards.items)) c.self.view_is
    (keeps_index c.self.inside.shards.items c.reserve.new.shards.items c.reserve.ensures.unchanged c.reserve.ensures.len c.reserve.ensures.kept)

pub reserve-requires-clause-counted : goal.reserve-requires-clause-counted
reserve-requires-clause-counted g c =
    let counted : length c.deref_mut.result.now ≡ length c.self.inside.shards.items = ap (λ (l : List ℕ). length l) c.deref_mut.ensures.value ∙ c.self.invariant.1 in
    let counts : length c.count.new.counts ≡ length c.deref_mut.result.now = c.count.auto.counts in
    let same : c.deref.result.now ≡ c.count.new.counts =
    c.deref.ensures.value ∙ written_back c.self.inside.counts.len c.count.new.counts c.self.inside.counts.items
    (counts ∙ ap (λ (l : List ℕ). length l) c.deref_mut.ensures.value ∙ sym c.self.inside.counts.ok.0) in
    counts_of (length c.self.inside.shards.items) c.deref.result.now c.count.new.counts c.args.entries.now (sym counted) same c.count.ensures

pub returns-then-not-holds_all-clause-room : goal.returns-then-not-holds_all-clause-room
returns-then-not-holds_all-clause-room g c = λ some.
    absurd (refused_without_room c.reserve.result c.in-Err.refused c.args.self.now c.self.inside.shards.items c.args.entries.now c.self.view_is c.reserve.ensures.fits c.in-Err.is some)

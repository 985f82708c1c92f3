use Rattle.std.proofs.Common.{◌≡◌, ℕ, List, length, ap, sym, subst, ◌∙◌}
use Rattle.foyer_block_index.specs.Committing.{PiecesHeld}
use Rattle.foyer_block_index.specs.Index.{IndexState, KeepsIndex}
use Rattle.foyer_block_index.specs.Shards.{Shard, map_of, state_of, PiecesSeated}
use Rattle.foyer_block_index.proofs.Rooms.{keeps_index, written_back, counts_of, refused_without_room}
use Rattle.foyer_block_index.proofs.Seating.{pieces_seated}
use Rattle.foyer_block_index.proofs.indexer.Indexer.commit_batch.Goals.{in-Ok, in-Err+else-not-holds_pieces}
use Rattle.foyer_block_index.proofs.indexer.Indexer.commit_batch.Goals as goal

pub commit_all-requires-clause-seated : goal.commit_all-requires-clause-seated
commit_all-requires-clause-seated g c =
    elim c.match-reserve.branch [
      | in-Ok w ↦
          let shards : c.match-reserve.self-inside.shards.items ≡ w.seat_all.new.shards.items = ap (λ s. s.shards.items) w.self-inside-is in
          subst (λ (l : List Shard). PiecesSeated l c.args.batch.now c.args.sources.now) (sym shards) w.seat_all.ensures.seated
      | in-Err+else-not-holds_pieces w ↦
          let shards : c.match-reserve.self-inside.shards.items ≡ c.reserve.new.shards.items = ap (λ s. s.shards.items) w.self-inside-is in
          let held : PiecesHeld (map_of w.deref-in-Err.result.now) c.args.batch.now c.args.sources.now = w.holds_pieces.ensures.0 w.if-not-holds_pieces.false in
          subst (λ (l : List Shard). PiecesSeated l c.args.batch.now c.args.sources.now) (sym shards)
          (pieces_seated c.reserve.new.shards.items c.args.batch.now c.args.sources.now
          (subst (λ (l : List Shard). PiecesHeld (map_of l) c.args.batch.now c.args.sources.now) w.deref-in-Err.ensures.value held))
    ]

pub returns-then-not-holds_pieces-clause-err : goal.returns-then-not-holds_pieces-clause-err
returns-then-not-holds_pieces-clause-err g c = subst (λ (s : IndexState). KeepsIndex s (state_of c.reserve.new.shards.items)) c.self.view_is
    (keeps_index c.self.inside.shards.items c.reserve.new.shards.items c.reserve.ensures.unchanged c.reserve.ensures.len c.reserve.ensures.kept)

pub reserve-requires-clause-counted : goal.reserve-requires-clause-counted
reserve-requires-clause-counted g c =
    let counted : length c.deref_mut.result.now ≡ length c.self.inside.shards.items = ap (λ (l : List ℕ). length l) c.deref_mut.ensures.value ∙ c.self.invariant.1 in
    let counts : length c.count.new.counts ≡ length c.deref_mut.result.now = c.count.auto.counts in
    let same : c.deref.result.now ≡ c.count.new.counts =
    c.deref.ensures.value ∙ written_back c.self.inside.counts.len c.count.new.counts c.self.inside.counts.items
    (counts ∙ ap (λ (l : List ℕ). length l) c.deref_mut.ensures.value ∙ sym c.self.inside.counts.ok.0) in
    counts_of (length c.self.inside.shards.items) c.deref.result.now c.count.new.counts c.args.batch.now (sym counted) same c.count.ensures

pub returns-then-not-holds_pieces-clause-room : goal.returns-then-not-holds_pieces-clause-room
returns-then-not-holds_pieces-clause-room g c = λ some.
    absurd (refused_without_room c.reserve.result c.in-Err.refused c.args.self.now c.self.inside.shards.items c.args.batch.now c.self.view_is c.reserve.ensures.fits c.in-Err.is some)

use Rattle.std.proofs.Common.{◌≡◌, ℕ, [], ◌<◌, ◌≤◌, length, slice_index_or}
use Rattle.foyer_block_index.specs.declared.indexer.HashedEntryAddress.{HashedEntryAddress}
use Rattle.foyer_block_index.specs.Shards.{map_of, Seated, AreFilledBut}
use Rattle.foyer_block_index.proofs.Batches.{Midway}
use Rattle.foyer_block_index.proofs.shards.enter_all.Given as goal

abbrev pub invariant-loop-i : goal.invariant-loop-i
invariant-loop-i g l = record {
  len : length l.shards.items ≡ length l.fn.shards.items;
  seated : (k : ℕ) (d : HashedEntryAddress) → l.i ≤ k → k < length l.batch → Seated l.shards.items (slice_index_or l.batch k d).hash;
  rest : (k : ℕ) (d : HashedEntryAddress) → l.i ≤ k → slice_index_or l.batch k d ≡ slice_index_or l.fn.batch k d;
  filled : AreFilledBut l.shards.items l.fn.batch [] l.i;
  midway : Midway (map_of l.fn.shards.items) l.fn.batch (map_of l.shards.items) l.batch l.answers l.i;
}

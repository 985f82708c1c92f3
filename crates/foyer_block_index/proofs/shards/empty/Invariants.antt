use Rattle.std.proofs.Common.{◌≡◌, ℕ, Some, [], length, slice_get}
use Rattle.foyer_block_index.specs.Shards.{Shard}
use Rattle.foyer_block_index.proofs.shards.empty.Given as goal

abbrev pub invariant-loop : goal.invariant-loop
invariant-loop g l = record {
  len : length l.made.items ≡ l.counter;
  none : (k : ℕ) (s : Shard) → slice_get l.made.items k ≡ Some s → s.entries ≡ [];
}

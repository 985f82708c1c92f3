use Rattle.std.proofs.Common.{◌≡◌, ◌<◌, ℕ, Some, [], slice_get}
use Rattle.foyer_block_index.specs.Shards.{Shard}
use Rattle.foyer_block_index.proofs.shards.clear.Given as goal

abbrev pub invariant-loop-shard : goal.invariant-loop-shard
invariant-loop-shard g l = (k : ℕ) (s : Shard) → k < l.shard-index → slice_get l.shards k ≡ Some s → s.entries ≡ []

use Rattle.std.proofs.Common.{◌≡◌, ◌<◌, ◌≤◌, ℕ, length, take, slice_index}
use Rattle.foyer_block_index.specs.Index.{belonging}
use Rattle.foyer_block_index.specs.Shards.{map_of, room, AddsNoPlace}
use Rattle.foyer_block_index.proofs.shards.reserve.Given as goal

abbrev pub invariant-loop-entry : goal.invariant-loop-entry
invariant-loop-entry g l = record {
  len : length l.shards.items ≡ length l.fn.shards.items;
  same : map_of l.shards.items ≡ map_of l.fn.shards.items;
  places : AddsNoPlace l.fn.shards.items l.shards.items;
  kept : (s : ℕ) → room l.fn.shards.items s ≤ room l.shards.items s;
  room : (s : ℕ) → s < length l.fn.shards.items → 0 < belonging (length l.fn.shards.items) s (take l.entry-index l.batch) → slice_index l.counts s ≤ room l.shards.items s;
}

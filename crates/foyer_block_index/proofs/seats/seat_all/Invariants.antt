use Rattle.std.proofs.Common.{◌≡◌, ℕ, ◌-◌, ◌<◌, ◌≤◌, None, length, drop, slice_index_or, vec_capacity}
use Rattle.foyer_block_index.specs.declared.indexer.HashedEntryAddress.{HashedEntryAddress}
use Rattle.foyer_block_index.specs.Index.{belonging}
use Rattle.foyer_block_index.specs.Shards.{map_of, room, source_at, Seated, AddsPlacesOf}
use Rattle.foyer_block_index.proofs.seats.seat_all.Given as goal

-- the records so far have their places, and there is room for the others
abbrev pub invariant-each_part : goal.invariant-each_part
invariant-each_part g l = record {
  seats : 0 < vec_capacity l.seats;
  memory : 0 < vec_capacity l.news;
  reach : l.from ≤ length l.batch;
  same : map_of l.shards.items ≡ map_of l.fn.shards.items;
  len : length l.shards.items ≡ length l.fn.shards.items;
  seated : (k : ℕ) (d : HashedEntryAddress) → k < l.from → source_at l.sources k ≡ None → Seated l.shards.items (slice_index_or l.batch k d).hash;
  places : AddsPlacesOf l.fn.shards.items l.shards.items l.batch l.sources;
  room : (i : ℕ) → i < length l.fn.shards.items → belonging (length l.fn.shards.items) i (drop l.from l.batch) ≤ room l.shards.items i;
}

abbrev pub decreases-each_part : goal.decreases-each_part
decreases-each_part g l = length l.batch - l.from

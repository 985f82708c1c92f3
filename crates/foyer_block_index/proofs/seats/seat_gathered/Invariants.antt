use Rattle.std.proofs.Common.{◌≡◌, ℕ, ◌+◌, ◌-◌, ◌<◌, ◌≤◌, length, drop, slice_index_or, vec_capacity}
use Rattle.foyer_block_index.specs.declared.seats.Seat.{Seat}
use Rattle.foyer_block_index.specs.Shards.{map_of, room, Seated}
use Rattle.foyer_block_index.specs.Seats.{seats_in, AddsSeats}
use Rattle.foyer_block_index.proofs.seats.seat_gathered.Given as goal

-- the seats so far have their places, and there is room for the others
abbrev pub invariant-each_run : goal.invariant-each_run
invariant-each_run g l = record {
  memory : 0 < vec_capacity l.news;
  reach : l.from ≤ length l.seats;
  same : map_of l.shards.items ≡ map_of l.fn.shards.items;
  len : length l.shards.items ≡ length l.fn.shards.items;
  kept : (hash : ℕ) → Seated l.fn.shards.items hash → Seated l.shards.items hash;
  seated : (k : ℕ) (d : Seat) → k < l.from → Seated l.shards.items (slice_index_or l.seats k d).hash;
  places : AddsSeats l.fn.shards.items l.shards.items l.seats;
  room : (i : ℕ) → i < length l.fn.shards.items → room l.fn.shards.items i + seats_in i (drop l.from l.seats) ≤ room l.shards.items i + seats_in i l.seats;
}

abbrev pub decreases-each_run : goal.decreases-each_run
decreases-each_run g l = length l.seats - l.from

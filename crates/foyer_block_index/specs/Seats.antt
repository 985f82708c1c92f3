-- The seats of a batch: hashes that are to have a place, each with the number of its shard.
use Rattle.std.specs.Prelude.{◌≡◌, ℕ, ◌<◌, ◌≤◌, ◌%◌, ◌==◌, ◌⊎◌, None, Option, List, slice_index_or}
use Rattle.std.specs.List.{All, Contains, count_by}
use Rattle.foyer_block_index.specs.declared.indexer.EntryAddress.{EntryAddress}
use Rattle.foyer_block_index.specs.declared.indexer.HashedEntryAddress.{HashedEntryAddress}
use Rattle.foyer_block_index.specs.declared.seats.Seat.{Seat}
use Rattle.foyer_block_index.specs.Shards.{Shard, Has, Placed, IsOwnPending, source_at}

-- the seat of a hash in a shard
abbrev pub seat : ℕ → ℕ → Seat
seat number hash = record { shard = number; hash = hash }

-- how many of the seats are in a shard
abbrev pub seats_in : ℕ → List Seat → ℕ
seats_in number seats = count_by (λ s. s.shard == number) seats

-- each seat is that of a record of a batch without a source, in its own of n shards
abbrev pub AreSeatsOf : ℕ → List HashedEntryAddress → List (Option EntryAddress) → List Seat → Type 0
AreSeatsOf n es sources seats = All (λ s. IsOwnPending n s.shard es sources s.hash) seats

-- each record without a source from `from` up to `end` has its seat
abbrev pub Gathered : ℕ → List HashedEntryAddress → List (Option EntryAddress) → List Seat → ℕ → ℕ → Type 0
Gathered n es sources seats from end =
    (k : ℕ) (d : HashedEntryAddress) → from ≤ k → k < end → source_at sources k ≡ None
    → Contains seats (seat ((slice_index_or es k d).hash % n) (slice_index_or es k d).hash)

-- each seat from `from` up to `end` is in the shard of that number, and its hash has its place in that shard or is among the new ones
abbrev pub RunTaken : ℕ → Shard → List Seat → List ℕ → ℕ → ℕ → Type 0
RunTaken number shard seats news from end =
    (k : ℕ) (d : Seat) → from ≤ k → k < end
    → ((slice_index_or seats k d).shard ≡ number) × (Has shard (slice_index_or seats k d).hash ⊎ Contains news (slice_index_or seats k d).hash)

-- each seat from `from` up to `end` is in the shard of that number, and its hash has its place in that shard
abbrev pub RunSeated : ℕ → Shard → List Seat → ℕ → ℕ → Type 0
RunSeated number shard seats from end =
    (k : ℕ) (d : Seat) → from ≤ k → k < end
    → ((slice_index_or seats k d).shard ≡ number) × Has shard (slice_index_or seats k d).hash

-- no other place is new than those of the seats, each in its own shard
abbrev pub AddsSeats : List Shard → List Shard → List Seat → Type 0
AddsSeats old new seats = (i hash : ℕ) → Placed new i hash → Placed old i hash ⊎ Contains seats (seat i hash)

-- The shards of the index, as the map that they are together.
use Rattle.std.specs.Prelude.{◌≡◌, ℕ, suc, ◌+◌, ◌<◌, ◌≤◌, ◌%◌, ◌==◌, if◌then◌else◌, length, nat_eq}
use Rattle.std.specs.Prelude.{Option, None, IsSome, unwrap_or, option_and_then, IsSomeAnd, slice_index, slice_index_or, ◌⊎◌}
use Rattle.std.specs.Prelude.{List, [], ◌∷◌, ◌++◌, filter, map, slice_get}
use Rattle.std.specs.List.{HoldsAt}
use Rattle.std.specs.Option.{option_map}
use Rattle.std.specs.FinMap as finite
use Rattle.foyer_block_index.specs.declared.indexer.HashedEntryAddress.{HashedEntryAddress}
use Rattle.foyer_block_index.specs.declared.indexer.Index.{Index}
use Rattle.foyer_block_index.specs.declared.indexer.EntryAddress.{EntryAddress}
use Rattle.foyer_block_index.specs.Entries.{ShardState, hashes, held_in, pairs}
use Rattle.foyer_block_index.specs.Index.{IndexMap, IndexState, belonging}
use Rattle.foyer_block_index.specs.Probe.{HasPlace}

-- one shard
abbrev pub Shard : Type 0
Shard = ShardState

-- how many entries a shard takes without growing
abbrev pub spare_of : Shard → ℕ
spare_of shard = shard.spare

-- what a shard has at a hash
abbrev pub held_at : Shard → ℕ → Option Index
held_at shard hash = held_in shard.entries hash

-- a shard has a place for a hash, be it vacant
abbrev pub Has : Shard → ℕ → Type 0
Has shard hash = HasPlace (hashes shard.entries) hash

-- a shard has this at one hash, and else what it had
abbrev pub ChangesAt : Shard → Shard → ℕ → Option Index → Type 0
ChangesAt old new hash held =
    (q : ℕ) → held_at new q ≡ (if nat_eq hash q then held else held_at old q)

-- a shard has at each hash what it had
abbrev pub HoldsSame : Shard → Shard → Type 0
HoldsSame old new = (q : ℕ) → held_at new q ≡ held_at old q

-- the entries of shards, of which the first is the i-th of n: of each shard those that belong there
abbrev pub entries_from : ℕ → ℕ → List Shard → List (ℕ × Index)
entries_from n i [] = []
entries_from n i (shard ∷ shards) =
    filter (λ e. e.0 % n == i) (pairs shard.entries) ++ entries_from n (suc i) shards

-- what the shards have together
abbrev pub map_of : List Shard → IndexMap
map_of shards = finite.from_entries (entries_from (length shards) 0 shards)

-- the index that the shards are
abbrev pub state_of : List Shard → IndexState
state_of shards = record { slots = map_of shards; rooms = map spare_of shards }

-- what a hash has in its shard
abbrev pub found : List Shard → ℕ → Option Index
found shards hash =
    option_and_then (λ shard. held_at shard hash) (slice_get shards (hash % length shards))

-- how many entries a shard takes without growing
abbrev pub room : List Shard → ℕ → ℕ
room shards i = unwrap_or (option_map spare_of (slice_get shards i)) 0

-- the room of each shard is as before, except that the shard of the hash may have lost one place
abbrev pub TakesOnePlace : List Shard → List Shard → ℕ → Type 0
TakesOnePlace old new hash =
    (i : ℕ) → room old i ≤ room new i + (if hash % length old == i then 1 else 0)

-- of n shards each in which an entry of a batch belongs is counted: how many do
abbrev pub AreCountsOf : ℕ → List ℕ → List HashedEntryAddress → Type 0
AreCountsOf n counts es = (i : ℕ) → i < n → 0 < belonging n i es → slice_index counts i ≡ belonging n i es

-- each of n shards takes what belongs there of a batch without growing
abbrev pub HasRoom : ℕ → List Shard → List HashedEntryAddress → Type 0
HasRoom n shards es = (i : ℕ) → i < n → belonging n i es ≤ room shards i

-- the shard of a hash has a place for it
abbrev pub Seated : List Shard → ℕ → Type 0
Seated shards hash = IsSomeAnd (slice_get shards (hash % length shards)) (λ shard. Has shard hash)

-- the source of a batch's k-th record, if it has one
abbrev pub source_at : List (Option EntryAddress) → ℕ → Option EntryAddress
source_at sources k = unwrap_or (slice_get sources k) None

-- the hash of each record of a batch without a source has its place
abbrev pub PiecesSeated : List Shard → List HashedEntryAddress → List (Option EntryAddress) → Type 0
PiecesSeated shards es sources =
    (k : ℕ) (d : HashedEntryAddress) → k < length es → source_at sources k ≡ None → Seated shards (slice_index_or es k d).hash

-- a shard at that place has a place for a hash
abbrev pub Placed : List Shard → ℕ → ℕ → Type 0
Placed shards i hash = IsSomeAnd (slice_get shards i) (λ shard. Has shard hash)

-- the shards have the places that they had, and no other
abbrev pub AddsNoPlace : List Shard → List Shard → Type 0
AddsNoPlace old new = (i hash : ℕ) → Placed new i hash → Placed old i hash

-- the only place that may be new is that of the hash in its own shard, and it is new only if `done` holds
abbrev pub AddsPlaceOf : List Shard → List Shard → ℕ → Type 0 → Type 0
AddsPlaceOf old new hash done = (i other : ℕ) → Placed new i other → Placed old i other ⊎ ((other ≡ hash) × (hash % length old ≡ i) × done)

-- a hash is that of a record without a source among those of a batch from the k-th on
abbrev pub IsPending : List HashedEntryAddress → List (Option EntryAddress) → ℕ → ℕ → Type 0
IsPending es sources from hash =
    (k : ℕ) × (from ≤ k) × (k < length es) × (source_at sources k ≡ None) × HoldsAt (λ e. e.hash ≡ hash) es k

-- such a hash that belongs in the i-th of n shards
abbrev pub IsOwnPending : ℕ → ℕ → List HashedEntryAddress → List (Option EntryAddress) → ℕ → Type 0
IsOwnPending n i es sources hash = (hash % n ≡ i) × IsPending es sources 0 hash

-- no other place is new than those of a batch's records without a source, each in its own shard
abbrev pub AddsPlacesOf : List Shard → List Shard → List HashedEntryAddress → List (Option EntryAddress) → Type 0
AddsPlacesOf old new es sources = (i hash : ℕ) → Placed new i hash → Placed old i hash ⊎ IsOwnPending (length old) i es sources hash

-- each place is in the shard of its hash, and each hash that has a place has something, except hashes still to come of a batch
abbrev pub AreFilledBut : List Shard → List HashedEntryAddress → List (Option EntryAddress) → ℕ → Type 0
AreFilledBut shards es sources from =
    (i hash : ℕ) → Placed shards i hash → (hash % length shards ≡ i) × (IsSome (finite.get (map_of shards) hash) ⊎ IsPending es sources from hash)

-- each place is in the shard of its hash, and its hash has something
abbrev pub AreFilled : List Shard → Type 0
AreFilled shards = (i hash : ℕ) → Placed shards i hash → (hash % length shards ≡ i) × IsSome (finite.get (map_of shards) hash)

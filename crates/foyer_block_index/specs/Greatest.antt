-- What a hash has after insertions of addresses in any order.
use Rattle.std.specs.Prelude.{◌≡◌, ◌≢◌, ℕ, ◌<◌, ◌≤◌, ◌⊎◌, List, [], ◌∷◌}
use Rattle.std.specs.List.{AllByRecursion}
use Rattle.foyer_block_index.specs.declared.indexer.EntryAddress.{EntryAddress}
use Rattle.foyer_block_index.specs.declared.indexer.HashedEntryAddress.{HashedEntryAddress}
use Rattle.foyer_block_index.specs.declared.indexer.Index.{Index}
use Rattle.foyer_block_index.specs.declared.indexer.Index.TheVariants.{Address, Tombstone}

-- nothing in the list is of the hash
abbrev pub IsAbsent : List HashedEntryAddress → ℕ → Type 0
IsAbsent es hash = AllByRecursion (λ e. e.hash ≢ hash) es

-- the address is in the list under the hash; of that hash nothing before it has a greater sequence,
-- and nothing behind it one as great
abbrev pub IsNewest : List HashedEntryAddress → ℕ → EntryAddress → Type 0
IsNewest [] hash address = ⊥
IsNewest (e ∷ es) hash address =
    ((e ≡ record { hash = hash; address = address })
    × AllByRecursion (λ later. later.hash ≡ hash → later.address.sequence < address.sequence) es)
    ⊎ (IsNewest es hash address × (e.hash ≡ hash → e.address.sequence ≤ address.sequence))

-- what a hash has is the newest address of the list
abbrev pub HoldsNewest : List HashedEntryAddress → ℕ → Index → Type 0
HoldsNewest es hash (Address address) = IsNewest es hash address
HoldsNewest es hash (Tombstone sequence) = ⊥

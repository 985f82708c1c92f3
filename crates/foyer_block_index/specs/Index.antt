-- What the index has for a hash, and the index as a map with its room.
use Rattle.std.specs.Prelude.{◌≡◌, ℕ, ◌<◌, ◌≤◌, ◌%◌, ◌==◌, Option, Some, None, ◌⊎◌, List, length, slice_index, option_and_then, refl}
use Rattle.std.proofs.Common.{inl, inr}
use Rattle.std.specs.Ordering.{nat_cmp}
use Rattle.std.specs.Coded.{Coded, code_by, coded×, coded⊎, coded_ℕ, coded_list}
use Rattle.std.specs.FinMap as map
use Rattle.std.specs.List.{count_by}
use Rattle.foyer_block_index.specs.declared.indexer.EntryAddress.{EntryAddress}
use Rattle.foyer_block_index.specs.declared.indexer.HashedEntryAddress.{HashedEntryAddress}
use Rattle.foyer_block_index.specs.declared.indexer.Index.{Index}
use Rattle.foyer_block_index.specs.declared.indexer.Index.TheVariants.{Address, Tombstone}

abbrev pub sequence_of : Index → ℕ
sequence_of (Address address) = address.sequence
sequence_of (Tombstone sequence) = sequence

abbrev pub address_of : Index → Option EntryAddress
address_of (Address address) = Some address
address_of (Tombstone sequence) = None

-- an address and what it has in numbers
abbrev pub Numbers : Type 0
Numbers = ℕ × (ℕ × (ℕ × (ℕ × ℕ)))

abbrev pub numbers_code : Coded Numbers
numbers_code = coded× coded_ℕ (coded× coded_ℕ (coded× coded_ℕ (coded× coded_ℕ coded_ℕ)))

abbrev pub numbers_of : Index → Numbers ⊎ ℕ
numbers_of (Address a) = inl (a.block, (a.offset, (a.len, (a.sequence, a.filling))))
numbers_of (Tombstone sequence) = inr sequence

abbrev pub index_of : Numbers ⊎ ℕ → Index
index_of (inl n) =
    Address (record {
      block = n.0;
      offset = n.1.0;
      len = n.1.1.0;
      sequence = n.1.1.1.0;
      filling = n.1.1.1.1;
    })
index_of (inr sequence) = Tombstone sequence

abbrev pub index_of-numbers_of : (index : Index) → index_of (numbers_of index) ≡ index
index_of-numbers_of (Address a) = refl
index_of-numbers_of (Tombstone sequence) = refl

abbrev pub index_code : Coded Index
index_code =
    code_by (Numbers ⊎ ℕ) (coded⊎ numbers_code coded_ℕ) numbers_of index_of index_of-numbers_of

-- what each hash has
abbrev pub IndexMap : Type 0
IndexMap = map.FinMap nat_cmp Index

abbrev pub index_map_code : Coded IndexMap
index_map_code = map.code coded_ℕ index_code

-- the address of a hash
abbrev pub address_at : IndexMap → ℕ → Option EntryAddress
address_at m hash = option_and_then address_of (map.get m hash)

-- An index: what each hash has, and how many entries each of its shards takes without growing. A hash is in the shard of its
-- number modulo the count of shards.
pub record IndexState : Type 0 where
  pub slots : IndexMap
  pub rooms : List ℕ

abbrev pub index_state_code : Coded IndexState
index_state_code =
    code_by (IndexMap × List ℕ) (coded× index_map_code (coded_list coded_ℕ)) (λ s. (s.slots, s.rooms))
    (λ p. record { slots = p.0; rooms = p.1 }) (λ _. refl)

-- how many of a batch belong in the i-th of n shards
abbrev pub belonging : ℕ → ℕ → List HashedEntryAddress → ℕ
belonging n i es = count_by (λ e. e.hash % n == i) es

-- the shard of the hash takes one more without growing
abbrev pub HasRoomAt : List ℕ → ℕ → Type 0
HasRoomAt rooms hash = 0 < slice_index rooms (hash % length rooms)

-- each shard takes what belongs there of a batch without growing
abbrev pub HasRoomFor : List ℕ → List HashedEntryAddress → Type 0
HasRoomFor rooms es = (i : ℕ) → i < length rooms → belonging (length rooms) i es ≤ slice_index rooms i

-- no shard has less room than before
abbrev pub KeepsRooms : List ℕ → List ℕ → Type 0
KeepsRooms old new = (length new ≡ length old) × ((i : ℕ) → slice_index old i ≤ slice_index new i)

-- what a refused insertion leaves: each hash has what it had, and no shard has less room
abbrev pub KeepsIndex : IndexState → IndexState → Type 0
KeepsIndex old new = (new.slots ≡ old.slots) × KeepsRooms old.rooms new.rooms

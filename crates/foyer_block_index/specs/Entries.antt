-- The entries of a shard, and what they have for a hash.
use Rattle.std.specs.Prelude.{ℕ, Bool, true, false, Option, Some, None, List, [], ◌∷◌, ◌++◌, map, nat_eq}
use Rattle.std.specs.Map.{lookup}
use Rattle.foyer_block_index.specs.declared.shard.Entry.{Entry}
use Rattle.foyer_block_index.specs.declared.shard.Slot.{Slot}
use Rattle.foyer_block_index.specs.declared.shard.Slot.TheVariants.{Vacant, Address, Tombstone}
use Rattle.foyer_block_index.specs.declared.indexer.Index.{Index}
use Rattle.foyer_block_index.specs.declared.indexer.Index.TheVariants as index

-- what a slot has
abbrev pub held_by : Slot → Option Index
held_by Vacant = None
held_by (Address address) = Some (index.Address address)
held_by (Tombstone sequence) = Some (index.Tombstone sequence)

abbrev pub is_vacant : Slot → Bool
is_vacant Vacant = true
is_vacant (Address address) = false
is_vacant (Tombstone sequence) = false

-- the hashes of entries
abbrev pub hashes : List Entry → List ℕ
hashes es = map (λ e. e.hash) es

-- a hash with what it has, if it has something
abbrev pub pair_of : ℕ → Option Index → List (ℕ × Index)
pair_of hash None = []
pair_of hash (Some held) = (hash, held) ∷ []

-- the hashes that have something, with what they have
abbrev pub pairs : List Entry → List (ℕ × Index)
pairs [] = []
pairs (e ∷ es) = pair_of e.hash (held_by e.slot) ++ pairs es

-- what a hash has
abbrev pub held_in : List Entry → ℕ → Option Index
held_in es hash = lookup (nat_eq hash) (pairs es)

-- a shard: its entries, and how many more it takes without growing
pub record ShardState : Type 0 where
  pub entries : List Entry
  pub spare : ℕ

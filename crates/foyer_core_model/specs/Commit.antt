-- The commit of a block's records: one fold gives the index, the puts and their number.
use Rattle.std.specs.Prelude.{ℕ, Bool, true, if◌then◌else◌, List, [], ◌∷◌, length, Option, Some}
use Rattle.foyer_core_model.specs.Numbers.{put}
use Rattle.foyer_core_model.specs.Record.{Address, Slot, Indexed, Source, Given, Reread, Record}
use Rattle.foyer_core_model.specs.Index.{holds, inserted}

-- the address of a record that stands at an offset of a block
abbrev pub address_of : {C : Type 0} → (block filling : ℕ) → ℕ × Record C → Address
address_of block filling p =
    record { block = block; offset = p.0; len = length (p.1).bytes; sequence = (p.1).sequence; filling = filling }

-- A piece's record is inserted; a reinsertion enters only over the very address that it was read from.
abbrev pub taken_in : {C : Type 0} → Source C → Option Slot → Address → Option Slot
taken_in (Given c) slot a = inserted slot (Indexed a)
taken_in (Reread over) slot a = if holds over slot then Some (Indexed a) else slot

-- whether the commit of a record is a put
abbrev pub is_put : {C : Type 0} → Source C → Option Slot → Bool
is_put (Given c) slot = true
is_put (Reread over) slot = holds over slot

-- the index after the commit of one record
abbrev pub committed_one : {C : Type 0} → (block filling : ℕ) → ℕ × Record C → (ℕ → Option Slot) → ℕ → Option Slot
committed_one block filling p m = put m (p.1).hash (taken_in (p.1).source (m (p.1).hash) (address_of block filling p))

-- the index after a commit, and the records that are puts, in order
pub record Commit (C : Type 0) : Type 0 where
  pub index : ℕ → Option Slot
  pub puts : List (Record C)

-- a commit with one record in front
abbrev pub with_put : {C : Type 0} → Bool → Record C → Commit C → Commit C
with_put b r c = record { index = c.index; puts = if b then r ∷ c.puts else c.puts }

-- the commit of these records of a block, one after the other
abbrev pub commit_of : {C : Type 0} → (block filling : ℕ) → List (ℕ × Record C) → (ℕ → Option Slot) → Commit C
commit_of block filling [] m = record { index = m; puts = [] }
commit_of block filling (p ∷ ps) m =
    with_put (is_put (p.1).source (m (p.1).hash)) p.1 (commit_of block filling ps (committed_one block filling p m))

-- Records, their addresses, and what bytes are as a record.
use Rattle.std.specs.Prelude.{ℕ, List}

-- the place of a record, and the filling of its block in which it stands
pub record Address : Type 0 where
  pub block : ℕ
  pub offset : ℕ
  pub len : ℕ
  pub sequence : ℕ
  pub filling : ℕ

-- what the index holds for a hash: the address of a record, or the mark of a delete
pub data Slot : Type 0 where
  Indexed : Address → Slot
  Mark : (sequence : ℕ) → Slot

-- what bytes are, as the record of a hash and a sequence: no such record at all, one in a compression that isn't
-- supported, one whose key or value doesn't decode, or one that holds this content
pub data Outcome (C : Type 0) : Type 0 where
  NoRecord : Outcome C
  NotSupported : Outcome C
  Undecodable : Outcome C
  Holds : C → Outcome C

-- what an index in a block says of a record: its offset counts from the index
pub record IndexEntry : Type 0 where
  pub hash : ℕ
  pub sequence : ℕ
  pub offset : ℕ
  pub len : ℕ

-- the source of a record on its way to a block: a piece with this content, or, for a reinsertion, the address that it was read from
pub data Source (C : Type 0) : Type 0 where
  Given : C → Source C
  Reread : Address → Source C

-- a record on its way to a block
pub record Record (C : Type 0) : Type 0 where
  pub hash : ℕ
  pub sequence : ℕ
  pub bytes : List ℕ
  pub source : Source C

-- How far a block is filled, with entries of a type E.
use Rattle.std.specs.Prelude.{ℕ, ◌+◌, ◌<◌, ◌≤◌, List, [], ◌⊎◌}

-- of a block and of a blob's index, in bytes
pub record Sizes : Type 0 where
  pub block : ℕ
  pub index : ℕ

-- How far a filling of a block has come: its present blob begins at blob, the next data stand at this offset of the
-- blob, and its index lists these.
pub record Position (E : Type 0) : Type 0 where
  pub blob : ℕ
  pub at : ℕ
  pub listed : List E

-- where its data end in the block
abbrev pub tail_of : {E : Type 0} → Position E → ℕ
tail_of f = f.blob + f.at

-- of a block into which nothing was written
abbrev pub fresh : {E : Type 0} → Sizes → Position E
fresh s = record { blob = 0; at = s.index; listed = [] }

-- the next blob begins where the data of the blob before it end
abbrev pub next_blob : {E : Type 0} → Sizes → Position E → Position E
next_blob s f = record { blob = tail_of f; at = s.index; listed = [] }

-- where later writes of a filling may fall: at or after its tail, or into the index of its present blob
abbrev pub MayWrite : {E : Type 0} → (index_size : ℕ) → Position E → ℕ → Type 0
MayWrite index_size f o = (tail_of f ≤ o) ⊎ ((f.blob ≤ o) × (o < f.blob + index_size))

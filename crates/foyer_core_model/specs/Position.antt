-- How far a block is filled, and what a batch puts into it.
use Rattle.std.specs.Prelude.{ℕ, List, [], ◌∷◌, ◌++◌, map}
use Rattle.foyer_format_layout.specs.Position as layout
use Rattle.foyer_core_model.specs.Record.{IndexEntry, Record}

-- how far a filling of a block has come
abbrev pub Position : Type 0
Position = layout.Position IndexEntry

-- Records that are written together, each with its offset in the block, and the index that lists them: their data
-- stand at blob + at, the index at the blob's start.
pub record Part (C : Type 0) : Type 0 where
  pub blob : ℕ
  pub at : ℕ
  pub content : List ℕ
  pub index : List ℕ
  pub records : List (ℕ × Record C)

-- what a batch puts into one block, and how far the block is filled then
pub record BlockLayout (C : Type 0) : Type 0 where
  pub parts : List (Part C)
  pub end : Position

-- the records of these parts, each with its offset
abbrev pub records_in : {C : Type 0} → List (Part C) → List (ℕ × Record C)
records_in [] = []
records_in (p ∷ ps) = p.records ++ records_in ps

-- the records of a batch, in order
abbrev pub records_of : {C : Type 0} → List (BlockLayout C) → List (Record C)
records_of [] = []
records_of (s ∷ ss) = map (λ p. p.1) (records_in s.parts) ++ records_of ss

-- the position at which the last block of a batch ends, if the batch has one
abbrev pub last_end : {C : Type 0} → Position → List (BlockLayout C) → Position
last_end f [] = f
last_end f (s ∷ ss) = last_end s.end ss

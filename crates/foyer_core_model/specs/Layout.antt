-- What the placing of a batch must keep: the four facts that the laws need of a splitter.
use Rattle.std.specs.Prelude.{◌≡◌, ◌≢◌, ℕ, ◌+◌, ◌<◌, ◌≤◌, List, [], ◌∷◌, ◌++◌, length}
use Rattle.foyer_core_model.specs.Record.{Record}
use Rattle.foyer_format_layout.specs.Position.{MayWrite}
use Rattle.foyer_format_layout.specs.BlockBytes.{Write, all_laid, read, AllWithin}
use Rattle.foyer_core_model.specs.Position.{Position, Part, BlockLayout, records_in, records_of, last_end}
use Rattle.foyer_core_model.specs.Rules.{Rules, first_position, Splitting}
use Rattle.foyer_core_model.specs.Widths.{RecordsHaveWidths}

-- these records stand at their offsets
abbrev pub AllStand : {C : Type 0} → (ℕ → ℕ) → List (ℕ × Record C) → Type 0
AllStand g [] = Unit {0}
AllStand g (p ∷ ps) = (read g p.0 (length (p.1).bytes) ≡ (p.1).bytes) × AllStand g ps

-- no byte of these records' pages has it
abbrev pub AllOutside : {C : Type 0} → (ℕ → ℕ) → (ℕ → Type 0) → List (ℕ × Record C) → Type 0
AllOutside page_up P [] = Unit {0}
AllOutside page_up P (p ∷ ps) = ((o : ℕ) → p.0 ≤ o → o < p.0 + page_up (length (p.1).bytes) → P o → ⊥) × AllOutside page_up P ps

-- each record stands at or behind an offset
abbrev pub AllBehind : {C : Type 0} → ℕ → List (ℕ × Record C) → Type 0
AllBehind n [] = Unit {0}
AllBehind n (p ∷ ps) = (n ≤ p.0) × AllBehind n ps

-- the writes of these parts, in their order
abbrev pub writes_in : {C : Type 0} → Rules C → List (Part C) → List Write
writes_in rules [] = []
writes_in rules (p ∷ ps) = rules.writes_of p ++ writes_in rules ps

-- What goes into one block. Its writes fall only into bytes that may still be written in the filling. The bytes that may be written
-- afterwards are among these. After the writes, over any bytes, each record stands at its offset, behind the first index. No later write
-- falls into the record's pages.
pub record KeepsBlock {C : Type 0} (rules : Rules C) (f : Position) (s : BlockLayout C) : Type 0 where
  pub within : AllWithin (MayWrite rules.index_size f) (writes_in rules s.parts)
  pub shrinks : (o : ℕ) → MayWrite rules.index_size s.end o → MayWrite rules.index_size f o
  pub stand : (g : ℕ → ℕ) → AllStand (all_laid (writes_in rules s.parts) g) (records_in s.parts)
  pub outside : AllOutside rules.page_up (MayWrite rules.index_size s.end) (records_in s.parts)
  pub behind : AllBehind rules.index_size (records_in s.parts)

-- block after block, the first from f on, the others from nothing
abbrev pub KeepsBlocks : {C : Type 0} → Rules C → Position → List (BlockLayout C) → Type 0
KeepsBlocks rules f [] = Unit {0}
KeepsBlocks rules f (s ∷ ss) = KeepsBlock rules f s × KeepsBlocks rules (first_position rules) ss

-- a batch has at least one block and holds all of its records in order
pub record KeepsBatch {C : Type 0} (rules : Rules C) (f : Position) (records : List (Record C)) (blocks : List (BlockLayout C)) : Type 0 where
  pub some : blocks ≢ []
  pub all : records_of blocks ≡ records
  pub placed : KeepsBlocks rules f blocks

-- what is demanded of a way of placing
abbrev pub KeepsRecords : {C : Type 0} → Rules C → Splitting C → Type 0
KeepsRecords {C} rules Splits =
    (f : Position) (records : List (Record C)) (blocks : List (BlockLayout C)) → Splits f records blocks → KeepsBatch rules f records blocks

-- the record isn't empty, and fits into a block into which nothing was written
abbrev pub FitsBlock : {C : Type 0} → Rules C → List ℕ → Type 0
FitsBlock rules bytes = (0 < length bytes) × (rules.index_size + rules.page_up (length bytes) ≤ rules.block_size)

-- each record does
abbrev pub AllFitBlock : {C : Type 0} → Rules C → List (Record C) → Type 0
AllFitBlock rules [] = Unit {0}
AllFitBlock rules (r ∷ rs) = FitsBlock rules r.bytes × AllFitBlock rules rs

-- A position from which a batch may begin. It is that of an empty block, or the one that a batch of records that can be listed has left.
pub data MayBegin {C : Type 0} (rules : Rules C) (Splits : Splitting C) : Position → Type 0 where
  empty_block : MayBegin rules Splits (first_position rules)
  after_batch : {f : Position} {records : List (Record C)} {blocks : List (BlockLayout C)}
      → MayBegin rules Splits f → RecordsHaveWidths records → AllFitBlock rules records → Splits f records blocks
      → MayBegin rules Splits (last_end f blocks)

-- from there on, records of 64-bit hashes and sequences that fit into a block can always be laid out
abbrev pub PlacesAll : {C : Type 0} → Rules C → Splitting C → Type 0
PlacesAll {C} rules Splits =
    (f : Position) (records : List (Record C)) → MayBegin rules Splits f → RecordsHaveWidths records → AllFitBlock rules records
    → (blocks : List (BlockLayout C)) × Splits f records blocks

-- The model's state of the core: maps are functions from numbers, queues are lists.
use Rattle.std.specs.Prelude.{ℕ, Bool, false, List, Option}
use Rattle.foyer_core_model.specs.Kind.{Kind}
use Rattle.foyer_core_model.specs.Record.{Address, Slot, Record}
use Rattle.foyer_format_layout.specs.BlockBytes.{Write}
use Rattle.foyer_core_model.specs.Position.{Position, BlockLayout}

-- bytes of a filling of a block that became invalid
pub record Invalidated : Type 0 where
  pub block : ℕ
  pub filling : ℕ
  pub bytes : ℕ

-- what waits in a flusher's queue: a piece with its estimated size; a mark, with the bytes that it made invalid; a wait with its id; a record to be reinserted, with the address that it was read from
pub data Submission (C : Type 0) : Type 0 where
  Piece : (hash sequence size : ℕ) → C → Submission C
  Remove : (hash sequence : ℕ) → (invalidated : List Invalidated) → Submission C
  Await : (id : ℕ) → Submission C
  Reinsert : (hash : ℕ) → List ℕ → Address → Submission C

-- the block of a batch that is being written: the writes that aren't reported yet, and the records of all its parts
pub record Writing (C : Type 0) : Type 0 where
  pub block : ℕ
  pub left : List Write
  pub records : List (ℕ × Record C)

-- what one flush writes
pub record Batch (C : Type 0) : Type 0 where
  pub blocks : List (BlockLayout C)  -- those not yet issued
  pub continues_own_block : Bool  -- whether the first of them is the flusher's own block
  pub writing : Option (Writing C)
  pub marks : List (ℕ × ℕ)  -- hashes with sequences
  pub invalidated : List Invalidated  -- what the marks made invalid
  pub pieces : List (ℕ × C)  -- to be given back at the end, with their sequences
  pub waits : List ℕ
  pub logged : Option Bool  -- whether the log took the marks, once it has answered

-- what a flusher has
pub record Flusher (C : Type 0) : Type 0 where
  pub queue : List (Submission C)
  pub buffer : List (Record C)  -- what was received since the batch before
  pub marks : List (ℕ × ℕ)
  pub invalidated : List Invalidated
  pub waits : List ℕ
  pub batch : Option (Batch C)
  pub own : Option ℕ  -- the block that it goes on with
  pub ready : Option ℕ  -- a block that it got while it waited for one
  pub context : Position  -- where its splitter goes on

-- which of the four sets a block is in
pub data BlockSet : Type 0 where
  Clean : BlockSet
  Writes : (flusher : ℕ) → BlockSet
  Evictable : BlockSet
  Reclaims : BlockSet

-- what pickers know of a block
pub record Stats : Type 0 where
  pub invalid : ℕ  -- bytes
  pub access : ℕ
  pub probation : Bool

-- of a block that was just cleaned
abbrev pub no_stats : Stats
no_stats = record { invalid = 0; access = 0; probation = false }

-- How far a reclaim is: it reads the index at a place; or a record, with those to be read next and the place of the
-- index behind them; or it has listed all; or its block is being cleaned.
pub data Stage : Type 0 where
  AtIndex : (place : ℕ) → Stage
  AtRecord : (hash : ℕ) → Address → (rest : List (ℕ × Address)) → (place : ℕ) → Stage
  AllListed : Stage
  ToClean : Stage

-- the reclaim of a block
pub record Reclaim : Type 0 where
  pub stage : Stage
  pub listed : List (ℕ × Address)  -- hashes with addresses
  pub requeued : List (ℕ × Address)  -- those queued for reinsertion, the last one first

-- how far a destroy is: while it cleans, the blocks whose clean has yet to come, and the first fault of those that came
pub data Destroy : Type 0 where
  NoDestroy : Destroy
  Begun : Destroy
  Cleaning : (left : List ℕ) → (first_fault : Option Kind) → Destroy

-- all that the core has
pub record State (C : Type 0) : Type 0 where
  pub index : ℕ → Option Slot
  pub next : ℕ  -- the sequence that is drawn next
  pub steps : ℕ  -- how many steps were applied
  pub closed : Bool
  pub flushers : ℕ → Flusher C
  pub place : ℕ → BlockSet
  pub clean : List ℕ  -- the clean blocks, the one that has been clean longest first
  pub waiting : List ℕ  -- the flushers that wait for a block, the one that began last at the end
  pub filling : ℕ → ℕ  -- how often a block was handed out or destroyed
  pub stats : ℕ → Stats
  pub reclaims : ℕ → Option Reclaim  -- of a block
  pub destroy : Destroy

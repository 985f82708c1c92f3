-- The replies of the core. Each choice that a step makes stands in its reply.
use Rattle.std.specs.Prelude.{ℕ, Bool, List, Option}
use Rattle.foyer_format_layout.specs.BlockBytes.{Write}
use Rattle.foyer_core_model.specs.Position.{BlockLayout}
pub use Rattle.foyer_core_model.specs.Kind.{Kind, Io, Memory, Parse, Closed, Unsupported, SequenceEnd}
use Rattle.foyer_core_model.specs.Step.{Age, Ticket, Step}

-- what a step answers
pub data Reply (C : Type 0) : Type 0 where
  NotNow : Step C → Reply C
  Refused : Kind → Step C → Reply C
  Ignored : C → Reply C
  Queued : (sequence : ℕ) → Reply C
  Dropped : (returned : C) → (sequence : ℕ) → Reply C  -- under this sequence the hash is deleted
  Deleted : (sequence : ℕ) → Reply C
  Done : Reply C
  Answer : Bool → Reply C
  Miss : Reply C
  Throttled : Reply C
  Read : Ticket → Reply C  -- issues a read
  Entry : C → Age → Reply C
  Empty : Reply C
  Received : (returned : Option C) → Reply C
  Began : List (BlockLayout C) → (marks : List (ℕ × ℕ)) → Reply C  -- how the batch is placed
  Written : (block : ℕ) → List Write → Reply C  -- issues these writes
  NoBlock : Reply C
  Next : Reply C
  Committed : (puts : ℕ) → Reply C
  Failed : Reply C
  Ended : (pieces : List (ℕ × C)) → (waits : List ℕ) → Reply C  -- the pieces with their sequences
  Picked : (block : ℕ) → (answers : List (Option ℕ)) → (probation : List ℕ) → Reply C  -- issues a read of its first index; the pickers' answers, and what they put on probation
  Scans : (block offset len : ℕ) → (verdicts : List Bool) → Reply C  -- issues a read; the filter's verdicts on what was listed
  Listed : (verdicts : List Bool) → Reply C
  Cleans : (block : ℕ) → Reply C  -- issues a clean
  Destroying : (sequence : ℕ) → Reply C
  Cleared : (blocks : List ℕ) → Reply C  -- issues a clean of each of these
  Destroyed : (first_fault : Option Kind) → Reply C  -- of the cleans, if one failed

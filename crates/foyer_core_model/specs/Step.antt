-- The steps of the core.
use Rattle.std.specs.Prelude.{ℕ, Bool, List, Option}
use Rattle.foyer_core_model.specs.Kind.{Kind}
use Rattle.foyer_core_model.specs.Record.{Address}

-- what a read gave
pub data ReadResult : Type 0 where
  Bytes : List ℕ → ReadResult
  Fault : ReadResult

-- of a piece that is handed in, or of an entry that is handed out
pub data Age : Type 0 where
  Fresh : Age
  Young : Age
  Old : Age

-- what a load reads
pub record Ticket : Type 0 where
  pub hash : ℕ
  pub address : Address

-- what the core is asked
pub data Step (C : Type 0) : Type 0 where
  Enqueue : (hash size : ℕ) → Age → C → Step C
  Delete : (hash : ℕ) → Step C
  Wait : (flusher id : ℕ) → Step C
  MayContains : (hash : ℕ) → Step C
  LoadBegin : (hash : ℕ) → (is_throttled : Bool) → Step C
  LoadEnd : Ticket → ReadResult → Step C
  Receive : (flusher : ℕ) → Step C
  FlushBegin : (flusher : ℕ) → Step C
  FlushBlock : (flusher : ℕ) → Step C
  FlushWrote : (flusher : ℕ) → (is_ok : Bool) → Step C
  LogWrote : (flusher : ℕ) → (is_ok : Bool) → Step C
  FlushEnd : (flusher : ℕ) → Step C
  ReclaimBegin : Step C
  ReclaimRead : (block : ℕ) → ReadResult → Step C
  ReclaimForget : (block : ℕ) → Step C
  ReclaimCleaned : (block : ℕ) → (is_ok : Bool) → Step C
  ReclaimIdle : Step C
  DestroyBegin : Step C
  DestroyClear : Step C
  DestroyCleaned : (block : ℕ) → (fault : Option Kind) → Step C
  Close : Step C

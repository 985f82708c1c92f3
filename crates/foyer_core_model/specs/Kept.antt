-- The block of the last commit of a hash, unless a reclaim of it began or a destroy cleared the index since. That is the cause that a
-- miss may have.
use Rattle.std.specs.Prelude.{ℕ, ◌==◌, if◌then◌else◌, List, [], ◌∷◌, Option, Some, None}
use Rattle.foyer_core_model.specs.Numbers.{put}
use Rattle.foyer_core_model.specs.Record.{Record}
use Rattle.foyer_core_model.specs.State.{Writing, Batch, State}
use Rattle.foyer_core_model.specs.Step.{Step, FlushWrote, ReclaimBegin, DestroyClear}
use Rattle.foyer_core_model.specs.Reply.{Reply, Committed, Picked, Cleared}
use Rattle.foyer_core_model.specs.Flush.{commit_in}

-- these records were put into a block
abbrev pub with_kept : {C : Type 0} → (block : ℕ) → List (Record C) → (ℕ → Option ℕ) → ℕ → Option ℕ
with_kept b [] kept = kept
with_kept b (r ∷ rs) kept = with_kept b rs (put kept r.hash (Some b))

-- what is kept when the block that is written is committed
abbrev pub kept_in : {C : Type 0} → State C → Option (Writing C) → (ℕ → Option ℕ) → ℕ → Option ℕ
kept_in old None kept = kept
kept_in old (Some w) kept = with_kept w.block (commit_in old w).puts kept

-- the same of a flusher's batch
abbrev pub kept_of : {C : Type 0} → State C → Option (Batch C) → (ℕ → Option ℕ) → ℕ → Option ℕ
kept_of old None kept = kept
kept_of old (Some batch) kept = kept_in old batch.writing kept

-- not in this block
abbrev pub unless : ℕ → Option ℕ → Option ℕ
unless b None = None
unless b (Some c) = if c == b then None else Some c

-- a commit keeps its block, a reclaim that begins takes it, a destroy takes all
abbrev pub kept_after : {C : Type 0} → State C → Reply C → Step C → (ℕ → Option ℕ) → ℕ → Option ℕ
kept_after old (Committed n) (FlushWrote f ok) kept = kept_of old (old.flushers f).batch kept
kept_after old (Picked b answers probation) ReclaimBegin kept = λ h. unless b (kept h)
kept_after old (Cleared bs) DestroyClear kept = λ h. None
kept_after old reply step kept = kept

-- Which steps are in turn.
use Rattle.std.specs.Prelude.{◌≡◌, ◌≢◌, ℕ, ◌<◌, Bool, true, false, [], length, Option, Some, None, ◌⊎◌}
use Rattle.foyer_core_model.specs.Ids.{is_id_in}
use Rattle.foyer_core_model.specs.State.{Writing, Batch, Stage, AtIndex, AtRecord, AllListed, ToClean, Reclaim, Destroy, NoDestroy, Begun, Cleaning, State}
use Rattle.foyer_core_model.specs.Rules.{Rules}
use Rattle.foyer_core_model.specs.Step.{ReadResult, Bytes, Fault, Step, Enqueue, Delete, Wait, MayContains, LoadBegin, LoadEnd, Receive, FlushBegin, FlushBlock, FlushWrote, LogWrote, FlushEnd, ReclaimBegin, ReclaimRead, ReclaimForget, ReclaimCleaned, ReclaimIdle, DestroyBegin, DestroyClear, DestroyCleaned, Close}
use Rattle.foyer_core_model.specs.Load.{HasLength}
use Rattle.foyer_core_model.specs.Receive.{HasReceived}
use Rattle.foyer_core_model.specs.Reclaim.{MayReclaim}
use Rattle.foyer_core_model.specs.Destroy.{IsIdle}

-- a block of the batch is yet to be issued, and none is being written
abbrev pub WantsBlock : {C : Type 0} → Option (Batch C) → Type 0
WantsBlock None = ⊥
WantsBlock (Some batch) = (batch.blocks ≢ []) × (batch.writing ≡ None)

-- a block of the batch is being written
abbrev pub IsWriting : {C : Type 0} → Option (Batch C) → Type 0
IsWriting None = ⊥
IsWriting {C} (Some batch) = (w : Writing C) × (batch.writing ≡ Some w)

-- the log hasn't answered in this batch
abbrev pub IsUnlogged : {C : Type 0} → Option (Batch C) → Type 0
IsUnlogged None = ⊥
IsUnlogged (Some batch) = batch.logged ≡ None

-- every block is done, or the batch has failed; and the log has answered if there is one
abbrev pub IsWritten : {C : Type 0} → (has_log : Bool) → Option (Batch C) → Type 0
IsWritten has_log None = ⊥
IsWritten has_log (Some batch) =
    (batch.blocks ≡ []) × (batch.writing ≡ None) × ((has_log ≡ false) ⊎ ((ok : Bool) × (batch.logged ≡ Some ok)))

module _ {C : Type 0} (rules : Rules C) where
  -- a read was issued, and its bytes are as many as that
  abbrev pub IsScan : Stage → ReadResult → Type 0
  IsScan (AtIndex place) Fault = Unit {0}
  IsScan (AtIndex place) (Bytes bs) = length bs ≡ rules.index_size
  IsScan (AtRecord h a rest place) Fault = Unit {0}
  IsScan (AtRecord h a rest place) (Bytes bs) = length bs ≡ a.len
  IsScan AllListed came = ⊥
  IsScan ToClean came = ⊥

  -- a reclaim runs and waits for this read
  abbrev pub ReadsFor : Option Reclaim → ReadResult → Type 0
  ReadsFor None came = ⊥
  ReadsFor (Some r) came = IsScan r.stage came

-- the reclaim of the block is at this stage
abbrev pub IsAt : Stage → Option Reclaim → Type 0
IsAt stage None = ⊥
IsAt stage (Some r) = r.stage ≡ stage

-- the block's clean has yet to come
abbrev pub AwaitsClean : ℕ → Destroy → Type 0
AwaitsClean b NoDestroy = ⊥
AwaitsClean b Begun = ⊥
AwaitsClean b (Cleaning left failed) = is_id_in b left ≡ true

-- A destroy has begun, and nothing is queued, buffered, kept, in a batch or reclaimed.
abbrev pub MayClear : {C : Type 0} → State C → Type 0
MayClear old = (old.destroy ≡ Begun) × ((f : ℕ) → IsIdle (old.flushers f)) × ((b : ℕ) → old.reclaims b ≡ None)

module _ {C : Type 0} (rules : Rules C) (old : State C) where
  -- A step that names a flusher or a block that isn't there, or that brings bytes of another length than its read was
  -- issued, is out of turn.
  abbrev pub InTurn : Step C → Type 0
  InTurn (Enqueue h n age c) = Unit {0}
  InTurn (Delete h) = Unit {0}
  InTurn (Wait f i) = f < rules.flushers
  InTurn (MayContains h) = Unit {0}
  InTurn (LoadBegin h throttled) = Unit {0}
  InTurn (LoadEnd t came) = (t.address.block < rules.blocks) × HasLength rules old t came
  InTurn (Receive f) = f < rules.flushers
  InTurn (FlushBegin f) = (f < rules.flushers) × ((old.flushers f).batch ≡ None) × HasReceived (old.flushers f)
  InTurn (FlushBlock f) = (f < rules.flushers) × WantsBlock (old.flushers f).batch
  InTurn (FlushWrote f ok) = (f < rules.flushers) × IsWriting (old.flushers f).batch
  InTurn (LogWrote f ok) = (f < rules.flushers) × (rules.has_log ≡ true) × IsUnlogged (old.flushers f).batch
  InTurn (FlushEnd f) = (f < rules.flushers) × IsWritten rules.has_log (old.flushers f).batch
  InTurn ReclaimBegin = MayReclaim rules old
  InTurn (ReclaimRead b came) = (b < rules.blocks) × ReadsFor rules (old.reclaims b) came
  InTurn (ReclaimForget b) = (b < rules.blocks) × IsAt AllListed (old.reclaims b)
  InTurn (ReclaimCleaned b ok) = (b < rules.blocks) × IsAt ToClean (old.reclaims b)
  InTurn ReclaimIdle = Unit {0}
  InTurn DestroyBegin = old.destroy ≡ NoDestroy
  InTurn DestroyClear = MayClear old
  InTurn (DestroyCleaned b ok) = (b < rules.blocks) × AwaitsClean b old.destroy
  InTurn Close = Unit {0}

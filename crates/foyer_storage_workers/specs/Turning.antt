-- What a turn of a flusher came to.
use Rattle.std.specs.Prelude.{◌≡◌, ℕ, Bool, true, false, Option, Some, None}
use Rattle.foyer_core_shared.specs.Sessions.{SessionState}
use Rattle.foyer_core_shared.specs.declared.brief.ReplyBrief.{ReplyBrief}
use Rattle.foyer_core_shared.specs.declared.brief.ReplyBrief.TheVariants as replied
use Rattle.foyer_core_shared.specs.declared.brief.StepBrief.TheVariants as asked
use Rattle.foyer_storage_engine.specs.declared.bell.BellClosed.{BellClosed}
use Rattle.foyer_storage_workers.specs.declared.workers.turn.Turn.{Turn}
use Rattle.foyer_storage_workers.specs.declared.workers.turn.Turn.TheVariants as turn

-- a batch began
abbrev pub begins : ReplyBrief → Bool
begins (replied.Began blocks marks) = true
begins other = false

-- the newest step asks this flusher to begin a batch, and none began
pub record IsIdle (flusher : ℕ) (session : SessionState) : Type 0 where
  pub answer : ReplyBrief
  pub newest : session.newest ≡ Some (record { step = asked.FlushBegin flusher; reply = answer })
  pub none : begins answer ≡ false

abbrev pub turn_as : (is_busy : Bool) → (closed : Option BellClosed) → Turn
turn_as true closed = turn.Busy
turn_as false None = turn.Idle
turn_as false (Some by) = turn.Drained (record { closed = by })

-- A turn was idle if no batch began; and the flusher is drained if its bell had been closed before that, as this shows.
abbrev pub IsTurnOf : (flusher : ℕ) → (closed : Option BellClosed) → SessionState → Turn → Type 0
IsTurnOf flusher closed session turn.Busy = Unit {0}
IsTurnOf flusher closed session turn.Idle = IsIdle flusher session × (closed ≡ None)
IsTurnOf flusher closed session (turn.Drained shown) = IsIdle flusher session × (closed ≡ Some shown.closed)

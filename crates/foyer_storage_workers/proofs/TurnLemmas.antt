-- What a turn of a flusher came to, what a hold took, and what a reclaim read.
use Rattle.std.proofs.Common.{◌≡◌, ℕ, Bool, true, false, [], ◌∷◌, Option, Some, None, inl, inr, refl}
use Rattle.foyer_device_page.specs.declared.error.ErrorKind.{ErrorKind}
use Rattle.foyer_device_page.specs.declared.error.ErrorKind.TheVariants as kind
use Rattle.foyer_core_access.specs.Reclaims.{part_in}
use Rattle.foyer_core_access.specs.declared.reclaims.Part.{Part}
use Rattle.foyer_core_shared.specs.Briefs.{reply_brief}
use Rattle.foyer_core_shared.specs.Reply.{Reply}
use Rattle.foyer_core_shared.specs.Reply.TheVariants as reply
use Rattle.foyer_core_shared.specs.Sessions.{SessionState}
use Rattle.foyer_core_shared.specs.Step.{Step}
use Rattle.foyer_storage_engine.specs.declared.bell.BellClosed.{BellClosed}
use Rattle.foyer_storage_workers.specs.Receiving.{EndsOrGoesOn, IsReceived, hold_end_of, refused_end}
use Rattle.foyer_storage_workers.specs.Releasing.{IsBegunAs}
use Rattle.foyer_storage_workers.specs.Turning.{IsIdle, IsTurnOf, begins, turn_as}
use Rattle.foyer_storage_workers.specs.WorkerSteps.{AreReadFrom, ReportsRead, part_of, reads_on}
use Rattle.foyer_storage_workers.specs.declared.workers.batch.Begun.TheVariants as begun

pub turn_was : (is_busy : Bool) (closed : Option BellClosed) (flusher : ℕ) (session : SessionState) → (is_busy ≡ false → IsIdle flusher session)
    → IsTurnOf flusher closed session (turn_as is_busy closed)
turn_was true closed flusher session idle = tt
turn_was false None flusher session idle = (idle refl, refl)
turn_was false (Some by) flusher session idle = (idle refl, refl)

module _ {K V P A : Type 0} where
  -- if a batch is said not to have begun, none did
  pub not_begun : (answer : Reply K V P A) (flusher : ℕ) (has_log : Bool) (session : SessionState) → IsBegunAs answer flusher has_log session begun.No
      → begins (reply_brief answer) ≡ false
  not_begun (reply.Began blocks marks) flusher false session did = let no : begun.No ≡ begun.Unlogged = did.0 refl in absurd cc
  not_begun (reply.Began blocks marks) flusher true session did = let logged = did.1 refl in let no : begun.No ≡ begun.Logged logged.0 = logged.1 in absurd cc
  not_begun (reply.Received None) flusher has_log session did = refl
  not_begun (reply.Received (Some back)) flusher has_log session did = refl
  not_begun answer flusher has_log session did = refl

  -- the part that a reply has read next is that of its brief
  pub part_is : (answer : Reply K V P A) → part_in answer ≡ part_of (reply_brief answer)
  part_is (reply.Scan block offset len verdicts) = refl
  part_is (reply.Received None) = refl
  part_is (reply.Received (Some back)) = refl
  part_is answer = refl

  -- and if it has none, the brief doesn't read on
  pub reads_none : (answer : Reply K V P A) → None ≡ part_in answer → reads_on (reply_brief answer) ≡ false
  reads_none (reply.Scan block offset len verdicts) none = absurd cc
  reads_none (reply.Received None) none = refl
  reads_none (reply.Received (Some back)) none = refl
  reads_none answer none = refl

  -- a take that was refused ends a hold so
  refused_as : (keeps is_busy : Bool) (flusher : ℕ) (old new : SessionState) (cause : ErrorKind) (back : Step K V P A) → IsReceived keeps flusher old new (reply.Refused cause back)
      → EndsOrGoesOn {K = K} {V = V} {P = P} {A = A} flusher new (Some (refused_end is_busy cause))
  refused_as keeps b f old new kind.Memory back got = tt
  refused_as keeps b f old new cause back (inl got) = (reply_brief {K = K} {V = V} {P = P} {A = A} (reply.Refused cause back), got, refl)
  refused_as keeps b f old new cause back (inr un) = absurd cc

  -- and any other as its reply says
  pub ends_as : (keeps wants_flush is_busy : Bool) (flusher : ℕ) (old new : SessionState) (answer : Reply K V P A) → IsReceived keeps flusher old new answer
      → EndsOrGoesOn flusher new (hold_end_of wants_flush is_busy answer)
  ends_as keeps w b f old new (reply.Received None) (inl got) = got
  ends_as keeps w b f old new (reply.Received (Some piece)) (inl got) = got
  ends_as keeps w b f old new (reply.Refused cause back) got = refused_as keeps b f old new cause back got
  ends_as keeps w b f old new answer (inl got) = (reply_brief answer, got, refl)
  ends_as keeps w b f old new answer (inr un) = absurd cc

-- a part is read on, and then what is behind it
pub read_on : (A : Type 0) (block : ℕ) (bytes_at : ℕ → ℕ → ℕ) (session at : SessionState) (part next : Part)
    → ReportsRead A block bytes_at part at (Some next) → AreReadFrom A block bytes_at session next → AreReadFrom A block bytes_at session part
read_on A block bytes_at session at part next reports from = (next ∷ from.0, ((at, reports), from.1))

pub read_last : (A : Type 0) (block : ℕ) (bytes_at : ℕ → ℕ → ℕ) (session : SessionState) (part : Part)
    → ReportsRead A block bytes_at part session None → AreReadFrom A block bytes_at session part
read_last A block bytes_at session part reports = ([], reports)

-- What a flusher's worker has released, and appended to the log of deletes.
use Rattle.std.specs.Prelude.{◌≡◌, ℕ, Bool, true, false, Option, Some, None}
use Rattle.std.specs.declared.vec.Vec.{Vec}
use Rattle.foyer_block_index.specs.declared.tombstone.Tombstone.{Tombstone}
use Rattle.foyer_core_shared.specs.Briefs.{outcome_of, reply_brief}
use Rattle.foyer_core_shared.specs.Reply.{Reply}
use Rattle.foyer_core_shared.specs.Reply.TheVariants as reply
use Rattle.foyer_core_shared.specs.Sessions.{SessionState}
use Rattle.foyer_core_shared.specs.declared.brief.ReplyBrief.{ReplyBrief}
use Rattle.foyer_core_shared.specs.declared.brief.StepBrief.TheVariants as asked
use Rattle.foyer_storage_workers.specs.declared.workers.appending.Appended.{Appended}
use Rattle.foyer_storage_workers.specs.declared.workers.batch.BatchEnd.{BatchEnd}
use Rattle.foyer_storage_workers.specs.declared.workers.batch.Begun.{Begun}
use Rattle.foyer_storage_workers.specs.declared.workers.batch.Begun.TheVariants as begun

-- What the reply to a batch's end hands back was given: just these pieces were released, each by its own number, and just these waits answered.
abbrev pub IsEndedAs : {K V P A : Type 0} → Reply K V P A → Option (BatchEnd K V P A) → Type 0
IsEndedAs {K} {V} {P} {A} (reply.Ended pieces waits) did = (end : BatchEnd K V P A) × (did ≡ Some end) × (end.released.pieces ≡ pieces) × (end.answered.ids ≡ waits)
IsEndedAs other did = did ≡ None

-- the newest step reports what came of an append of these marks
pub record ReportsAppend {A : Type 0} (flusher : ℕ) (session : SessionState) (appended : Appended A) : Type 0 where
  pub answer : ReplyBrief
  pub newest : session.newest ≡ Some (record { step = asked.LogWrote flusher (outcome_of appended.outcome); reply = answer })

-- just these marks were appended to the log, and the outcome reported
abbrev pub IsLogged : {A : Type 0} → (flusher : ℕ) → Vec Tombstone A → SessionState → Begun A → Type 0
IsLogged {A} flusher marks session did = (appended : Appended A) × (did ≡ begun.Logged appended) × (appended.marks ≡ marks) × ReportsAppend flusher session appended

-- What the reply to a batch's beginning asked was done: an engine with a log had its marks appended.
abbrev pub IsBegunAs : {K V P A : Type 0} → Reply K V P A → (flusher : ℕ) → (has_log : Bool) → SessionState → Begun A → Type 0
IsBegunAs (reply.Began blocks marks) flusher has_log session did = (has_log ≡ false → did ≡ begun.Unlogged) × (has_log ≡ true → IsLogged flusher marks session did)
IsBegunAs other flusher has_log session did = did ≡ begun.No

-- The newest step asks to end a flusher's batch, and what its reply hands back was released and answered.
pub record HasEnded {K V P : Type 0} (A : Type 0) (flusher : ℕ) (session : SessionState) (did : Option (BatchEnd K V P A)) : Type 0 where
  pub answer : Reply K V P A
  pub newest : session.newest ≡ Some (record { step = asked.FlushEnd flusher; reply = reply_brief answer })
  pub given : IsEndedAs answer did

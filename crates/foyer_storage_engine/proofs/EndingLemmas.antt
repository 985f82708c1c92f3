-- What a step that isn't refused leaves in its session, and how a destroy ends.
use Rattle.std.proofs.Common.{◌≡◌, ◌⊎◌, ◌∙◌, ℕ, Bool, true, false, None, Some, Option, Result, Ok, Err, ap, inl, inr, refl}
use Rattle.std.specs.Result.{IfErr, OnOk}
use Rattle.foyer_core_shared.specs.Reply.{Reply}
use Rattle.foyer_core_shared.specs.Reply.TheVariants as reply
use Rattle.foyer_core_shared.specs.Step.{Step}
use Rattle.foyer_core_shared.specs.Step.TheVariants as step
use Rattle.foyer_device_page.specs.declared.error.Error.{Error}
use Rattle.foyer_device_page.specs.declared.error.ErrorKind.{ErrorKind}
use Rattle.foyer_device_page.specs.declared.error.ErrorKind.TheVariants as kind
use Rattle.foyer_core_shared.specs.Briefed.{IsNotedIn}
use Rattle.foyer_core_shared.specs.Briefs.{reply_brief}
use Rattle.foyer_core_shared.specs.Sessions.{SessionState}
use Rattle.foyer_storage_engine.specs.Ending.{AsksToWait, BringsClean, EndsWithClean, ended_as, is_refused}

module _ {K V P A : Type 0} where
  unrefused : (answer : Reply K V P A) → ((k : ErrorKind) (back : Step K V P A) → answer ≡ reply.Refused k back → ⊥) → is_refused (reply_brief answer) ≡ false
  unrefused (reply.NotNow back) isnt = refl
  unrefused (reply.Refused why back) isnt = absurd (isnt why back refl)
  unrefused (reply.Ignored piece) isnt = refl
  unrefused (reply.Queued sequence) isnt = refl
  unrefused (reply.Dropped piece sequence) isnt = refl
  unrefused (reply.Deleted sequence) isnt = refl
  unrefused reply.Done isnt = refl
  unrefused (reply.Answer answer) isnt = refl
  unrefused reply.Miss isnt = refl
  unrefused reply.Throttled isnt = refl
  unrefused (reply.Read ticket) isnt = refl
  unrefused (reply.Entry key value age) isnt = refl
  unrefused reply.Empty isnt = refl
  unrefused (reply.Received None) isnt = refl
  unrefused (reply.Received (Some back)) isnt = refl
  unrefused (reply.Began blocks marks) isnt = refl
  unrefused (reply.Write block writes) isnt = refl
  unrefused reply.NoBlock isnt = refl
  unrefused reply.Next isnt = refl
  unrefused (reply.Committed puts) isnt = refl
  unrefused reply.Failed isnt = refl
  unrefused (reply.Ended pieces waits) isnt = refl
  unrefused (reply.Picked block answers probation) isnt = refl
  unrefused (reply.Scan block offset len verdicts) isnt = refl
  unrefused (reply.Listed verdicts) isnt = refl
  unrefused (reply.Clean block) isnt = refl
  unrefused (reply.Destroying sequence) isnt = refl
  unrefused reply.Cleared isnt = refl
  unrefused (reply.Destroyed first) isnt = refl

  pub asked_to_wait : (keeps : Bool) (old new : SessionState) (flusher id : ℕ) (answer : Reply K V P A)
      → (IsNotedIn {K = K} {V = V} {P = P} {A = A} old new (step.Wait flusher id) answer ⊎ ((keeps ≡ true) × (answer ≡ reply.Refused kind.Memory (step.Wait flusher id)) × (new ≡ old)))
      → ((k : ErrorKind) (back : Step K V P A) → answer ≡ reply.Refused k back → ⊥) → AsksToWait flusher id new
  asked_to_wait keeps old new flusher id answer (inl noted) isnt = record { answer = reply_brief answer; newest = noted.newest; taken = unrefused answer isnt }
  asked_to_wait keeps old new flusher id answer (inr none) isnt = absurd (isnt kind.Memory (step.Wait flusher id) none.1)

-- a destroy is answered as its last clean
pub ends_with : (came : ℕ → Result (Unit {0}) Error → Type 0) (block : ℕ) (session : SessionState) (ended : Option (Result (Unit {0}) Error)) (answered : Result (Unit {0}) Error)
    → BringsClean came block session ended → answered ≡ ended_as ended → EndsWithClean came block session answered
ends_with came block session ended answered brings is =
    record { outcome = brings.outcome; answer = brings.answer; newest = brings.newest; did = brings.did; said = is ∙ ap ended_as brings.said }

pub refused_or : (answered : Result (Unit {0}) Error) (Q : Error → Type 0) {P : Type 0} → P → IfErr answered (λ e. Q e ⊎ P)
refused_or (Ok done) Q p = tt
refused_or (Err e) Q p = inr p

pub unbegun_or : (answered : Result (Unit {0}) Error) (Q R : Error → Type 0) {P : Type 0} → P → IfErr answered (λ e. Q e ⊎ (R e ⊎ P))
unbegun_or (Ok done) Q R p = tt
unbegun_or (Err e) Q R p = inr (inr p)

pub well_or : (answered : Result (Unit {0}) Error) {P : Type 0} → P → OnOk answered P
well_or (Ok done) p = p
well_or (Err e) p = tt

-- What a told event says of the pieces that its deed moves.
use Rattle.std.proofs.Common.{◌≡◌, ℕ, suc, ◌+◌, ◌==◌, if◌then◌else◌, Bool, true, false, true≢false, List, [], ◌∷◌, Some, None, length, map, refl, sym, ap, ◌∙◌, subst}
use Rattle.std.proofs.lemmas.Bool.{or_left}
use Rattle.foyer_core_model.specs.World.{World, Applies}
use Rattle.foyer_core_model.specs.Step as model_step
use Rattle.foyer_core_model.specs.Reply as model_reply
use Rattle.foyer_core_model.specs.State.{State}
use Rattle.foyer_core_written.specs.Written.{HasLost, passed_after, passed_at, queued_at, queues_at, returned_at, returns_at}
use Rattle.foyer_core_rights.specs.Deeds as deeds
use Rattle.foyer_core_rights.specs.Deeds.{Deed, events_in, after_deed}
use Rattle.foyer_core_laws.specs.Content.{Content, Meaning, content_of, contents_of}
use Rattle.foyer_core_laws.specs.CoreRules.{machine}
use Rattle.foyer_core_laws.specs.Sizes.{AreValid}
use Rattle.foyer_core_laws.specs.Settings.{Settings}
use Rattle.foyer_core_steps.specs.Asked.{known_age, step_of, went_well}
use Rattle.foyer_core_steps.specs.Replied.{IsReply}
use Rattle.foyer_core_steps.specs.declared.step.Step.{Step}
use Rattle.foyer_core_steps.specs.declared.step.Step.TheVariants as steps
use Rattle.foyer_core_steps.specs.declared.reply.Reply.{Reply}
use Rattle.foyer_core_steps.specs.declared.reply.Reply.TheVariants as replies
use Rattle.foyer_core_told.specs.declared.event.Told.{Told}
use Rattle.foyer_core_told.specs.declared.event.Told.TheVariants as told
use Rattle.foyer_core_told.specs.declared.queued.Moving.{Moving}
use Rattle.foyer_core_told.specs.declared.queued.Moving.TheVariants as moving
use Rattle.foyer_core_told.specs.ToldRuns.{Tells}
use Rattle.foyer_core_told.specs.ToldQueued.{is_ended, is_loss, lost_in, moving_of, passed_by, passed_in, queued_by, queued_in, returned_by, returned_in}

-- as many contents as pieces
as_many : {X : Type 0} (content_in : X → Content) (ps : List (ℕ × Content)) (pieces : List X) → contents_of ps ≡ map content_in pieces → length ps ≡ length pieces
as_many {X} content_in ps pieces same = sym (one ps) ∙ ap length same ∙ two pieces
  where
    one : (ps : List (ℕ × Content)) → length (contents_of ps) ≡ length ps
    one [] = refl
    one (p ∷ ps) = ap suc (one ps)

    two : (pieces : List X) → length (map content_in pieces) ≡ length pieces
    two [] = refl
    two (p ∷ pieces) = ap suc (two pieces)

-- which step it is
abbrev is_ends : Moving → Bool
is_ends (moving.Ends f) = true
is_ends done = false

abbrev flusher_named : Moving → ℕ
flusher_named (moving.Ends f) = f
flusher_named done = 0

pub ends_as : {K V P A : Type 0} (step : Step K V P A) (f : ℕ) → moving_of step ≡ moving.Ends f → step ≡ steps.FlushEnd f
ends_as (steps.FlushEnd g) f is = ap (λ n. steps.FlushEnd n) (ap flusher_named is)
ends_as step f is = absurd (true≢false (sym (ap is_ends is)))

-- the reply to the end of a batch
pub ended_as : {K V P A : Type 0} (m : Meaning K V P) (answer : Reply K V P A) (it : model_reply.Reply Content) → is_ended answer ≡ true → IsReply m answer it
    → (pieces : List (ℕ × Content)) × (waits : List ℕ) × (it ≡ model_reply.Ended pieces waits)
ended_as m (replies.Ended pieces waits) it ended is = (is.0, waits.items, is.2)
ended_as m answer it ended is = absurd (true≢false (sym ended))

abbrev pub is_queues : Moving → Bool
is_queues (moving.Queues hash) = true
is_queues done = false

abbrev pub hash_named : Moving → ℕ
hash_named (moving.Queues hash) = hash
hash_named done = 0

module _ {K V P A D : Type 0} (m : Meaning K V P) (s : Settings) (sound : AreValid s) (byte_at : D → ℕ → ℕ → ℕ) where
  -- what a reply has in common with the model's, as to pieces
  pub record Spoken (answer : Reply K V P A) (it : model_reply.Reply Content) : Type 0 where
    pub queued : (h n : ℕ) (age : model_step.Age) (c : Content) (new : State Content) (f : ℕ) → queues_at (machine m s sound) f (Applies (model_step.Enqueue h n age c) it new) ≡ queued_by s.flushers f (moving.Queues h) answer
    pub received : (g : ℕ) (new : State Content) (f : ℕ) → returns_at f (Applies (model_step.Receive g) it new) ≡ returned_by f (moving.Receives g) answer
    pub ended : (g : ℕ) (new : State Content) (f : ℕ) → returns_at f (Applies (model_step.FlushEnd g) it new) ≡ returned_by f (moving.Ends g) answer
    pub passed : (g : ℕ) (new : State Content) (f n : ℕ) → passed_after f (Applies (model_step.Receive g) it new) n ≡ passed_by f (moving.Receives g) answer n
    pub begun : (g : ℕ) (new : State Content) (f n : ℕ) → passed_after f (Applies (model_step.FlushBegin g) it new) n ≡ passed_by f (moving.Begins g) answer n
    pub failed : (f : ℕ) (ok : Bool) (new : State Content) → HasLost (Applies (model_step.FlushWrote f ok) it new ∷ []) → is_loss answer ≡ true
    pub cleared : (new : State Content) → HasLost (Applies model_step.DestroyClear it new ∷ []) → is_loss answer ≡ true

  spoken : (answer : Reply K V P A) (it : model_reply.Reply Content) → IsReply m answer it → Spoken answer it
  spoken (replies.NotNow back) it is =
      subst (Spoken (replies.NotNow back)) (sym is) (record { queued = λ h n age c new f. refl; received = λ g new f. refl; ended = λ g new f. refl; passed = λ g new f n. refl; begun = λ g new f n. refl; failed = λ f ok new no. absurd no; cleared = λ new no. absurd no })
  spoken (replies.Refused why back) it is =
      subst (Spoken (replies.Refused why back)) (sym is.2) (record { queued = λ h n age c new f. refl; received = λ g new f. refl; ended = λ g new f. refl; passed = λ g new f n. refl; begun = λ g new f n. refl; failed = λ f ok new no. absurd no; cleared = λ new no. absurd no })
  spoken (replies.Ignored piece) it is =
      subst (Spoken (replies.Ignored piece)) (sym is) (record { queued = λ h n age c new f. refl; received = λ g new f. refl; ended = λ g new f. refl; passed = λ g new f n. refl; begun = λ g new f n. refl; failed = λ f ok new no. absurd no; cleared = λ new no. absurd no })
  spoken (replies.Queued sequence) it is =
      subst (Spoken (replies.Queued sequence)) (sym is) (record { queued = λ h n age c new f. refl; received = λ g new f. refl; ended = λ g new f. refl; passed = λ g new f n. refl; begun = λ g new f n. refl; failed = λ f ok new no. absurd no; cleared = λ new no. absurd no })
  spoken (replies.Dropped piece sequence) it is =
      subst (Spoken (replies.Dropped piece sequence)) (sym is) (record { queued = λ h n age c new f. refl; received = λ g new f. refl; ended = λ g new f. refl; passed = λ g new f n. refl; begun = λ g new f n. refl; failed = λ f ok new no. absurd no; cleared = λ new no. absurd no })
  spoken (replies.Deleted sequence) it is =
      subst (Spoken (replies.Deleted sequence)) (sym is) (record { queued = λ h n age c new f. refl; received = λ g new f. refl; ended = λ g new f. refl; passed = λ g new f n. refl; begun = λ g new f n. refl; failed = λ f ok new no. absurd no; cleared = λ new no. absurd no })
  spoken replies.Done it is =
      subst (Spoken replies.Done) (sym is) (record { queued = λ h n age c new f. refl; received = λ g new f. refl; ended = λ g new f. refl; passed = λ g new f n. refl; begun = λ g new f n. refl; failed = λ f ok new no. absurd no; cleared = λ new no. absurd no })
  spoken (replies.Answer b) it is =
      subst (Spoken (replies.Answer b)) (sym is) (record { queued = λ h n age c new f. refl; received = λ g new f. refl; ended = λ g new f. refl; passed = λ g new f n. refl; begun = λ g new f n. refl; failed = λ f ok new no. absurd no; cleared = λ new no. absurd no })
  spoken replies.Miss it is =
      subst (Spoken replies.Miss) (sym is) (record { queued = λ h n age c new f. refl; received = λ g new f. refl; ended = λ g new f. refl; passed = λ g new f n. refl; begun = λ g new f n. refl; failed = λ f ok new no. absurd no; cleared = λ new no. absurd no })
  spoken replies.Throttled it is =
      subst (Spoken replies.Throttled) (sym is) (record { queued = λ h n age c new f. refl; received = λ g new f. refl; ended = λ g new f. refl; passed = λ g new f n. refl; begun = λ g new f n. refl; failed = λ f ok new no. absurd no; cleared = λ new no. absurd no })
  spoken (replies.Read ticket) it is =
      subst (Spoken (replies.Read ticket)) (sym is) (record { queued = λ h n age c new f. refl; received = λ g new f. refl; ended = λ g new f. refl; passed = λ g new f n. refl; begun = λ g new f n. refl; failed = λ f ok new no. absurd no; cleared = λ new no. absurd no })
  spoken (replies.Entry key value age) it is =
      subst (Spoken (replies.Entry key value age)) (sym is) (record { queued = λ h n age c new f. refl; received = λ g new f. refl; ended = λ g new f. refl; passed = λ g new f n. refl; begun = λ g new f n. refl; failed = λ f ok new no. absurd no; cleared = λ new no. absurd no })
  spoken replies.Empty it is =
      subst (Spoken replies.Empty) (sym is) (record { queued = λ h n age c new f. refl; received = λ g new f. refl; ended = λ g new f. refl; passed = λ g new f n. refl; begun = λ g new f n. refl; failed = λ f ok new no. absurd no; cleared = λ new no. absurd no })
  spoken (replies.Received None) it is =
      subst (Spoken (replies.Received None)) (sym is) (record { queued = λ h n age c new f. refl; received = λ g new f. refl; ended = λ g new f. refl; passed = λ g new f n. refl; begun = λ g new f n. refl; failed = λ f ok new no. absurd no; cleared = λ new no. absurd no })
  spoken (replies.Received (Some piece)) it is =
      subst (Spoken (replies.Received (Some piece))) (sym is) (record { queued = λ h n age c new f. refl; received = λ g new f. refl; ended = λ g new f. refl; passed = λ g new f n. refl; begun = λ g new f n. refl; failed = λ f ok new no. absurd no; cleared = λ new no. absurd no })
  spoken (replies.Began blocks marks) it is =
      subst (Spoken (replies.Began blocks marks)) (sym is.2) (record { queued = λ h n age c new f. refl; received = λ g new f. refl; ended = λ g new f. refl; passed = λ g new f n. refl; begun = λ g new f n. refl; failed = λ f ok new no. absurd no; cleared = λ new no. absurd no })
  spoken (replies.Write block writes) it is =
      subst (Spoken (replies.Write block writes)) (sym is) (record { queued = λ h n age c new f. refl; received = λ g new f. refl; ended = λ g new f. refl; passed = λ g new f n. refl; begun = λ g new f n. refl; failed = λ f ok new no. absurd no; cleared = λ new no. absurd no })
  spoken replies.NoBlock it is =
      subst (Spoken replies.NoBlock) (sym is) (record { queued = λ h n age c new f. refl; received = λ g new f. refl; ended = λ g new f. refl; passed = λ g new f n. refl; begun = λ g new f n. refl; failed = λ f ok new no. absurd no; cleared = λ new no. absurd no })
  spoken replies.Next it is =
      subst (Spoken replies.Next) (sym is) (record { queued = λ h n age c new f. refl; received = λ g new f. refl; ended = λ g new f. refl; passed = λ g new f n. refl; begun = λ g new f n. refl; failed = λ f ok new no. absurd no; cleared = λ new no. absurd no })
  spoken (replies.Committed puts) it is =
      subst (Spoken (replies.Committed puts)) (sym is) (record { queued = λ h n age c new f. refl; received = λ g new f. refl; ended = λ g new f. refl; passed = λ g new f n. refl; begun = λ g new f n. refl; failed = λ f ok new no. absurd no; cleared = λ new no. absurd no })
  spoken replies.Failed it is =
      subst (Spoken replies.Failed) (sym is) (record { queued = λ h n age c new f. refl; received = λ g new f. refl; ended = λ g new f. refl; passed = λ g new f n. refl; begun = λ g new f n. refl; failed = λ f ok new yes. refl; cleared = λ new no. absurd no })
  spoken (replies.Ended pieces waits) it is =
      subst (Spoken (replies.Ended pieces waits)) (sym is.2) (record { queued = λ h n age c new f. refl; received = λ g new f. refl; ended = λ g new f. ap (λ n. if g == f then n else 0) (as_many (content_of m) is.0 pieces.items is.1); passed = λ g new f n. refl; begun = λ g new f n. refl; failed = λ f ok new no. absurd no; cleared = λ new no. absurd no })
  spoken (replies.Picked block answers probation) it is =
      subst (Spoken (replies.Picked block answers probation)) (sym is) (record { queued = λ h n age c new f. refl; received = λ g new f. refl; ended = λ g new f. refl; passed = λ g new f n. refl; begun = λ g new f n. refl; failed = λ f ok new no. absurd no; cleared = λ new no. absurd no })
  spoken (replies.Scan block offset len verdicts) it is =
      subst (Spoken (replies.Scan block offset len verdicts)) (sym is) (record { queued = λ h n age c new f. refl; received = λ g new f. refl; ended = λ g new f. refl; passed = λ g new f n. refl; begun = λ g new f n. refl; failed = λ f ok new no. absurd no; cleared = λ new no. absurd no })
  spoken (replies.Listed verdicts) it is =
      subst (Spoken (replies.Listed verdicts)) (sym is) (record { queued = λ h n age c new f. refl; received = λ g new f. refl; ended = λ g new f. refl; passed = λ g new f n. refl; begun = λ g new f n. refl; failed = λ f ok new no. absurd no; cleared = λ new no. absurd no })
  spoken (replies.Clean block) it is =
      subst (Spoken (replies.Clean block)) (sym is) (record { queued = λ h n age c new f. refl; received = λ g new f. refl; ended = λ g new f. refl; passed = λ g new f n. refl; begun = λ g new f n. refl; failed = λ f ok new no. absurd no; cleared = λ new no. absurd no })
  spoken (replies.Destroying sequence) it is =
      subst (Spoken (replies.Destroying sequence)) (sym is) (record { queued = λ h n age c new f. refl; received = λ g new f. refl; ended = λ g new f. refl; passed = λ g new f n. refl; begun = λ g new f n. refl; failed = λ f ok new no. absurd no; cleared = λ new no. absurd no })
  spoken replies.Cleared it is =
      subst (Spoken replies.Cleared) (sym is.1) (record { queued = λ h n age c new f. refl; received = λ g new f. refl; ended = λ g new f. refl; passed = λ g new f n. refl; begun = λ g new f n. refl; failed = λ f ok new no. absurd no; cleared = λ new yes. refl })
  spoken (replies.Destroyed first) it is =
      subst (Spoken (replies.Destroyed first)) (sym is.2) (record { queued = λ h n age c new f. refl; received = λ g new f. refl; ended = λ g new f. refl; passed = λ g new f n. refl; begun = λ g new f n. refl; failed = λ f ok new no. absurd no; cleared = λ new no. absurd no })

  queues_as : (f : ℕ) (step : Step K V P A) (answer : Reply K V P A) (it : model_reply.Reply Content) (new : State Content) → Spoken answer it
      → queues_at (machine m s sound) f (Applies (step_of m step) it new) ≡ queued_by s.flushers f (moving_of step) answer
  queues_as f (steps.Enqueue piece size) answer it new is = is.queued piece.piece.hash size (known_age (m.age_of piece.piece.properties)) (content_of m piece) new f
  queues_as f step answer it new is = refl

  returns_as : (f : ℕ) (step : Step K V P A) (answer : Reply K V P A) (it : model_reply.Reply Content) (new : State Content) → Spoken answer it
      → returns_at f (Applies (step_of m step) it new) ≡ returned_by f (moving_of step) answer
  returns_as f (steps.Receive g) answer it new is = is.received g new f
  returns_as f (steps.FlushEnd g) answer it new is = is.ended g new f
  returns_as f step answer it new is = refl

  passes_as : (f n : ℕ) (step : Step K V P A) (answer : Reply K V P A) (it : model_reply.Reply Content) (new : State Content) → Spoken answer it
      → passed_after f (Applies (step_of m step) it new) n ≡ passed_by f (moving_of step) answer n
  passes_as f n (steps.Receive g) answer it new is = is.passed g new f n
  passes_as f n (steps.FlushBegin g) answer it new is = is.begun g new f n
  passes_as f n step answer it new is = refl

  loses_as : (step : Step K V P A) (answer : Reply K V P A) (it : model_reply.Reply Content) (new : State Content) → Spoken answer it
      → HasLost (Applies (step_of m step) it new ∷ []) → is_loss answer ≡ true
  loses_as (steps.FlushWrote f outcome) answer it new is lost = is.failed f (went_well outcome) new lost
  loses_as steps.DestroyClear answer it new is lost = is.cleared new lost
  loses_as step answer it new is lost = absurd lost

  -- what an event has in common with its deed
  pub record Moves (e : Told K V P A D) (d : Deed Content) : Type 0 where
    pub queues : (f : ℕ) → queued_at (machine m s sound) f (events_in d) ≡ queued_in s.flushers f (e ∷ [])
    pub returns : (f : ℕ) → returned_at f (events_in d) ≡ returned_in f (e ∷ [])
    pub passes : (f n : ℕ) → passed_at f (events_in d) n ≡ passed_in f (e ∷ []) n
    pub loses : HasLost (events_in d) → lost_in (e ∷ []) ≡ true

  pub moves : (w : World Content) (e : Told K V P A D) (d : Deed Content) → Tells m s sound byte_at w e d → Moves e d
  moves w (told.Steps asked replied core) (deeds.Steps step it new) tells =
      let is : Spoken replied.value it = spoken replied.value it tells.1 in
      subst (λ x. Moves (told.Steps asked replied core) (deeds.Steps x it new)) (sym tells.0) (record {
        queues = λ f. ap (λ n. n + 0) (queues_as f asked.value replied.value it new is);
        returns = λ f. ap (λ n. n + 0) (returns_as f asked.value replied.value it new is);
        passes = λ f n. passes_as f n asked.value replied.value it new is;
        loses = λ lost. or_left (is_loss replied.value) false (loses_as asked.value replied.value it new is lost);
      })
  moves w (told.Steps asked replied core) d tells = absurd tells
  moves w (told.Opened core disk) d tells = absurd tells
  moves w e (deeds.Steps step it new) tells = absurd tells
  moves w e d tells = record { queues = λ f. refl; returns = λ f. refl; passes = λ f n. refl; loses = λ no. absurd no }

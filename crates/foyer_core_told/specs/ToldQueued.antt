-- How many pieces were queued at each flusher and how many left it, and what of a hash is written by that.
use Rattle.std.specs.Prelude.{◌≡◌, ◌⊎◌, ℕ, suc, ◌+◌, ◌≤◌, ◌%◌, ◌==◌, if◌then◌else◌, Bool, true, false, ◌||◌, List, [], ◌∷◌, ◌++◌, length, Some}
use Rattle.foyer_core_model.specs.Event.{newest, sequence_in}
use Rattle.foyer_core_model.specs.World.{World}
use Rattle.foyer_core_laws.specs.Content.{Content, Meaning}
use Rattle.foyer_core_laws.specs.Sizes.{AreValid}
use Rattle.foyer_core_laws.specs.Settings.{Settings}
use Rattle.foyer_core_steps.specs.declared.step.Step.{Step}
use Rattle.foyer_core_steps.specs.declared.step.Step.TheVariants as steps
use Rattle.foyer_core_steps.specs.declared.reply.Reply.{Reply}
use Rattle.foyer_core_steps.specs.declared.reply.Reply.TheVariants as replies
use Rattle.foyer_core_told.specs.declared.event.Told.{Told}
use Rattle.foyer_core_told.specs.declared.event.Told.TheVariants as told
use Rattle.foyer_core_told.specs.declared.queued.Moving.{Moving}
use Rattle.foyer_core_told.specs.declared.queued.Moving.TheVariants as moving
use Rattle.foyer_core_told.specs.ToldRuns.{IsRun}

-- what a step does with pieces, if its reply says that it did
abbrev pub moving_of : {K V P A : Type 0} → Step K V P A → Moving
moving_of (steps.Enqueue piece size) = moving.Queues piece.piece.hash
moving_of (steps.Receive flusher) = moving.Receives flusher
moving_of (steps.FlushBegin flusher) = moving.Begins flusher
moving_of (steps.FlushEnd flusher) = moving.Ends flusher
moving_of step = moving.Other

module _ {K V P A : Type 0} where
  -- how many pieces a step queued at a flusher, of so many flushers: a hash's flusher is its remainder
  abbrev pub queued_by : (flushers f : ℕ) → Moving → Reply K V P A → ℕ
  queued_by flushers f (moving.Queues hash) (replies.Queued sequence) = if hash % flushers == f then 1 else 0
  queued_by flushers f done answer = 0

  -- how many pieces left a flusher by a step: the front of its queue, if it isn't taken, or all of a batch that ended
  abbrev pub returned_by : (f : ℕ) → Moving → Reply K V P A → ℕ
  returned_by f (moving.Receives g) (replies.Received (Some piece)) = if g == f then 1 else 0
  returned_by f (moving.Ends g) (replies.Ended pieces waits) = if g == f then length pieces.items else 0
  returned_by f done answer = 0

  -- how many left it from the front of its queue since its last batch began
  abbrev pub passed_by : (f : ℕ) → Moving → Reply K V P A → ℕ → ℕ
  passed_by f (moving.Receives g) (replies.Received (Some piece)) n = if g == f then suc n else n
  passed_by f (moving.Begins g) (replies.Began blocks marks) n = if g == f then 0 else n
  passed_by f done answer n = n

  -- a batch ended
  abbrev pub is_ended : Reply K V P A → Bool
  is_ended (replies.Ended pieces waits) = true
  is_ended answer = false

  -- a batch failed, or a destroy cleared the index
  abbrev pub is_loss : Reply K V P A → Bool
  is_loss replies.Failed = true
  is_loss replies.Cleared = true
  is_loss answer = false

module _ {K V P A D : Type 0} where
  -- the same of events, one after the other
  abbrev pub queued_in : (flushers f : ℕ) → List (Told K V P A D) → ℕ
  queued_in flushers f [] = 0
  queued_in flushers f (told.Steps step reply core ∷ es) = queued_by flushers f (moving_of step.value) reply.value + queued_in flushers f es
  queued_in flushers f (e ∷ es) = queued_in flushers f es

  abbrev pub returned_in : (f : ℕ) → List (Told K V P A D) → ℕ
  returned_in f [] = 0
  returned_in f (told.Steps step reply core ∷ es) = returned_by f (moving_of step.value) reply.value + returned_in f es
  returned_in f (e ∷ es) = returned_in f es

  abbrev pub passed_in : (f : ℕ) → List (Told K V P A D) → ℕ → ℕ
  passed_in f [] n = n
  passed_in f (told.Steps step reply core ∷ es) n = passed_in f es (passed_by f (moving_of step.value) reply.value n)
  passed_in f (e ∷ es) n = passed_in f es n

  abbrev pub lost_in : List (Told K V P A D) → Bool
  lost_in [] = false
  lost_in (told.Steps step reply core ∷ es) = is_loss reply.value || lost_in es
  lost_in (e ∷ es) = lost_in es

  -- a piece of this hash was queued under this sequence
  abbrev pub IsQueuing : (hash sequence : ℕ) → Told K V P A D → Type 0
  IsQueuing hash sequence (told.Steps step reply core) = (moving_of step.value ≡ moving.Queues hash) × (reply.value ≡ replies.Queued sequence)
  IsQueuing hash sequence event = ⊥

  -- a batch of this flusher ended
  abbrev pub IsEnding : (f : ℕ) → Told K V P A D → Type 0
  IsEnding f (told.Steps step reply core) = (moving_of step.value ≡ moving.Ends f) × (is_ended reply.value ≡ true)
  IsEnding f event = ⊥

  -- Each piece of the hash that was queued has at most this place among those of its flusher, from 1 on.
  abbrev pub AreUpTo : (flushers hash place : ℕ) → List (Told K V P A D) → Type 0
  AreUpTo flushers hash place log =
      (before since : List (Told K V P A D)) (e : Told K V P A D) (sequence : ℕ) → log ≡ before ++ e ∷ since → IsQueuing hash sequence e
      → suc (queued_in flushers (hash % flushers) before) ≤ place

  -- When a batch of this flusher ended, so many of its pieces had left it, not counting those that left it from the front of its queue while the
  -- batch was written.
  pub record HasLeft (f place : ℕ) (log : List (Told K V P A D)) : Type 0 where
    pub before : List (Told K V P A D)
    pub event : Told K V P A D
    pub since : List (Told K V P A D)
    pub split : log ≡ (before ++ event ∷ []) ++ since
    pub ends : IsEnding f event
    pub enough : place + passed_in f (before ++ event ∷ []) 0 ≤ returned_in f (before ++ event ∷ [])

  -- All pieces of the hash that were queued are among those that had left their flusher when a batch of it ended.
  abbrev pub HaveLeft : (flushers hash : ℕ) → List (Told K V P A D) → Type 0
  HaveLeft flushers hash log = (place : ℕ) × AreUpTo flushers hash place log × ((place ≡ 0) ⊎ HasLeft (hash % flushers) place log)

  -- Of each piece of the hash that was queued: it was committed, or deleted, or something newer of its hash was; unless a batch failed since, or a
  -- destroy cleared the index.
  abbrev pub AreWritten : (hash : ℕ) → List (Told K V P A D) → World Content → Type 0
  AreWritten hash log w =
      (before since : List (Told K V P A D)) (e : Told K V P A D) (sequence : ℕ) → log ≡ before ++ e ∷ since → IsQueuing hash sequence e
      → (sequence ≤ sequence_in (newest hash w.history)) ⊎ (lost_in since ≡ true)

  -- That is so in whatever run is told.
  abbrev pub IsAllWritten : Meaning K V P → (D → ℕ → ℕ → ℕ) → (hash : ℕ) → List (Told K V P A D) → Type 0
  IsAllWritten m byte_at hash log = (s : Settings) (sound : AreValid s) (u : World Content) → IsRun m s sound byte_at log u → AreWritten hash log u

-- What has left its flusher is written.
abbrev pub LeftIsWritten : (K V P A D : Type 0) → Type 0
LeftIsWritten K V P A D =
    (m : Meaning K V P) (s : Settings) (sound : AreValid s) (byte_at : D → ℕ → ℕ → ℕ) (hash : ℕ) (log : List (Told K V P A D)) (u : World Content)
    → IsRun m s sound byte_at log u → HaveLeft s.flushers hash log → AreWritten hash log u

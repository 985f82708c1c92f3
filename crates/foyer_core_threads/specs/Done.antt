-- What a call did, in the one history of all threads.
use Rattle.std.specs.Prelude.{◌≡◌, ◌≢◌, ◌⊎◌, ℕ, zero, suc, Bool, true, false, is_ok, List, [], ◌∷◌, Option, Some, None, Result}
use Rattle.std.specs.declared.vec.Vec.{Vec}
use Rattle.foyer_device_page.specs.declared.error.Error.{Error}
use Rattle.foyer_device_page.specs.declared.error.ErrorKind.TheVariants as kind
use Rattle.foyer_format_layout.specs.BlockBytes.{Write}
use Rattle.foyer_core_access.specs.declared.reclaims.Part.{Part}
use Rattle.foyer_core_chronicle.specs.declared.View.{View}
use Rattle.foyer_core_model.specs.Access.{CleanDone, ReadDone}
use Rattle.foyer_core_laws.specs.Content.{Meaning}
use Rattle.foyer_core_shared.specs.Briefed.{IsNotedIn}
use Rattle.foyer_core_shared.specs.Sessions.{SessionState}
use Rattle.foyer_core_steps.specs.Asked.{came_of}
use Rattle.foyer_core_steps.specs.declared.reply.Reply.{Reply}
use Rattle.foyer_core_steps.specs.declared.reply.Reply.TheVariants as replies
use Rattle.foyer_core_steps.specs.declared.step.Step.{Step}
use Rattle.foyer_core_steps.specs.declared.step.Step.TheVariants as steps
use Rattle.foyer_core_steps.specs.declared.step.Ticket.{Ticket}
use Rattle.foyer_core_told.specs.declared.event.Told.{Told}
use Rattle.foyer_core_told.specs.ToldLoads.{IsReadOf, is_read}
use Rattle.foyer_core_told.specs.Telling.{HasGoneOn, HasStepped}
use Rattle.foyer_core_threads.specs.Going.{IsMadeAgain}
use Rattle.foyer_io_told.specs.ToldAccess.{IsCleanOf, IsScanOf, IsWriteOf, HasClean, HasScan, HasWritten}

-- The step is noted in its session. Or notes are kept, and no memory was found for this note: then the step was returned.
abbrev pub IsNoted : {K V P A : Type 0} → (keeps : Bool) → (old new : SessionState) → Step K V P A → Reply K V P A → Type 0
IsNoted keeps old new step answer = IsNotedIn old new step answer ⊎ ((keeps ≡ true) × (answer ≡ replies.Refused kind.Memory step) × (new ≡ old))

-- The step was refused for want of memory so many times, and noted each time.
abbrev pub AreNoted : {K V P A : Type 0} → (keeps : Bool) → (times : ℕ) → (old new : SessionState) → Step K V P A → Type 0
AreNoted keeps zero old new step = new ≡ old
AreNoted keeps (suc times) old new step = (before : SessionState) × AreNoted keeps times old before step × IsNoted keeps before new step (replies.Refused kind.Memory step)

-- The step is noted with this reply, after the notes of its refusals alone.
abbrev pub IsNotedAgain : {K V P A : Type 0} → (keeps : Bool) → (old new : SessionState) → Step K V P A → Reply K V P A → Type 0
IsNotedAgain keeps old new step answer = (before : SessionState) × ((times : ℕ) × AreNoted keeps times old before step) × IsNotedIn before new step answer

module _ {K V P A D : Type 0} (m : Meaning K V P) (byte_at : D → ℕ → ℕ → ℕ) (keeps : Bool) where
  -- The history went on by this step with this reply; or no memory was found for its note.
  abbrev pub IsMade : (mine after : View (Told K V P A D)) → Step K V P A → Reply K V P A → Type 0
  IsMade mine after step answer =
      ((n : ℕ) × HasStepped m byte_at mine after step answer n) ⊎ ((keeps ≡ true) × (answer ≡ replies.Refused kind.Memory step) × (after ≡ mine))

  -- A look-up issued a read, the read was done, and what it gave was brought: the reply to that is the answer.
  pub record HasReadFor (mine after : View (Told K V P A D)) (h : ℕ) (throttled : Bool) (answer : Reply K V P A) : Type 0 where
    pub looked : View (Told K V P A D)
    pub read : View (Told K V P A D)
    pub ticket : Ticket
    pub number : ℕ
    pub outcome : Result (Vec ℕ A) Error
    pub look_up : HasStepped m byte_at mine looked (steps.LoadBegin h throttled) (replies.Read ticket) number
    pub access : HasGoneOn m byte_at looked read (λ e. IsReadOf e number outcome)
    pub end : IsMade read after (steps.LoadEnd ticket outcome) answer

  -- A load's steps, of which the answer is the last reply: a look-up without a read, or one with its read and end.
  abbrev pub HasLoaded : (mine after : View (Told K V P A D)) → (h : ℕ) → (throttled : Bool) → Reply K V P A → Type 0
  HasLoaded mine after h throttled answer =
      (IsMade mine after (steps.LoadBegin h throttled) answer × (is_read answer ≡ false)) ⊎ HasReadFor mine after h throttled answer

  -- A write was done, and its outcome was brought: the reply to that is the answer. It is Next only after a write that went well.
  pub record HasWrote (mine after : View (Told K V P A D)) (f block : ℕ) (write : Write) (answer : Reply K V P A) : Type 0 where
    pub wrote : View (Told K V P A D)
    pub outcome : Result Unit Error
    pub disk : D
    pub access : HasGoneOn m byte_at mine wrote (λ e. IsWriteOf e f (is_ok outcome) disk)
    pub left : HasWritten m byte_at mine wrote f block write (is_ok outcome)
    pub report : IsMadeAgain m byte_at wrote after (steps.FlushWrote f outcome) answer
    pub well : answer ≡ replies.Next → is_ok outcome ≡ true

  -- A read for the reclaim of a block was done, and what it gave was brought: the reply to that is the answer.
  pub record HasScanned (mine after : View (Told K V P A D)) (block : ℕ) (part : Part) (answer : Reply K V P A) : Type 0 where
    pub scanned : View (Told K V P A D)
    pub outcome : Result (Vec ℕ A) Error
    pub access : HasGoneOn m byte_at mine scanned (λ e. IsScanOf e block outcome)
    pub read : HasScan m byte_at scanned.seen block part (ReadDone (came_of outcome))
    pub report : IsMadeAgain m byte_at scanned after (steps.ReclaimRead block outcome) answer

  -- A clean of a block was done, and its outcome was brought by such a step: the reply to that is the answer.
  pub record HasCleaned (brings : ℕ → Result Unit Error → Step K V P A) (mine after : View (Told K V P A D)) (block : ℕ) (answer : Reply K V P A) : Type 0 where
    pub cleaned : View (Told K V P A D)
    pub outcome : Result Unit Error
    pub disk : D
    pub access : HasGoneOn m byte_at mine cleaned (λ e. IsCleanOf e block (is_ok outcome) disk)
    pub state : HasClean m byte_at cleaned.seen block (CleanDone (is_ok outcome))
    pub report : IsMadeAgain m byte_at cleaned after (brings block outcome) answer

  -- Writes were done in their order, each after the reply Next to the one before. None is an end after Next, or no write at all.
  abbrev pub HasWroteAll : (mine after : View (Told K V P A D)) → (f block : ℕ) → List Write → Option (Reply K V P A) → Type 0
  HasWroteAll mine after f block [] last = (after ≡ mine) × (last ≡ None)
  HasWroteAll mine after f block (w ∷ ws) last =
      ((next : View (Told K V P A D)) × HasWrote mine next f block w replies.Next × HasWroteAll next after f block ws last)
      ⊎ ((answer : Reply K V P A) × HasWrote mine after f block w answer × (answer ≢ replies.Next) × (last ≡ Some answer))

module _ {K V P A D : Type 0} (m : Meaning K V P) (byte_at : D → ℕ → ℕ → ℕ) where
  -- A look-up issued a read, and was noted. Nothing was read.
  pub record HasLookedOnly (mine after : View (Told K V P A D)) (old new : SessionState) (h : ℕ) (throttled : Bool) : Type 0 where
    pub ticket : Ticket
    pub number : ℕ
    pub look_up : HasStepped m byte_at mine after (steps.LoadBegin h throttled) (replies.Read ticket) number
    pub noted : IsNotedIn {K = K} {V = V} {P = P} {A = A} old new (steps.LoadBegin h throttled) (replies.Read ticket)

-- What a load leaves in its session: the note of its look-up, and that of its end if it read.
abbrev pub IsLoadNoted : {K V P A : Type 0} → (keeps : Bool) → (old new : SessionState) → (h : ℕ) → (throttled : Bool) → Reply K V P A → Type 0
IsLoadNoted {K} {V} {P} {A} keeps old new h throttled answer =
    IsNoted keeps old new (steps.LoadBegin h throttled) answer
    ⊎ ((looked : SessionState) × (ticket : Ticket) × (outcome : Result (Vec ℕ A) Error)
    × IsNotedIn {K = K} {V = V} {P = P} {A = A} old looked (steps.LoadBegin h throttled) (replies.Read ticket) × IsNoted keeps looked new (steps.LoadEnd ticket outcome) answer)

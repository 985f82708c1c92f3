-- What a session shows of a wait, a close or a destroy that it made.
use Rattle.std.specs.Prelude.{◌≡◌, ◌⊎◌, ◌+◌, ◌≤◌, ℕ, Bool, true, false, Option, None, Some, Result, Ok, Err}
use Rattle.std.specs.Option.{unwrap_or}
use Rattle.foyer_device_page.specs.declared.error.Error.{Error}
use Rattle.foyer_device_page.specs.declared.error.Error.TheVariants as error
use Rattle.foyer_device_page.specs.declared.error.ErrorKind.{ErrorKind}
use Rattle.foyer_device_page.specs.declared.error.ErrorKind.TheVariants as kind
use Rattle.foyer_core_shared.specs.Briefs.{outcome_of}
use Rattle.foyer_core_shared.specs.Sessions.{SessionState, is_close, is_destroy}
use Rattle.foyer_core_shared.specs.Kinds.{kind_in}
use Rattle.foyer_core_shared.specs.declared.brief.ReplyBrief.{ReplyBrief}
use Rattle.foyer_core_shared.specs.declared.brief.ReplyBrief.TheVariants as replied
use Rattle.foyer_core_shared.specs.declared.brief.StepBrief.{StepBrief}
use Rattle.foyer_core_shared.specs.declared.brief.StepBrief.TheVariants as asked
use Rattle.foyer_storage_engine.specs.declared.engine.ends.Early.{Early}
use Rattle.foyer_storage_engine.specs.declared.engine.ends.Early.TheVariants as early
use Rattle.foyer_core_tally.specs.Tally.{grown, none}
use Rattle.foyer_core_shared.specs.Refusals.{error_of}

-- as many steps of each of the seven named kinds
abbrev pub HoldsTally : SessionState → SessionState → Type 0
HoldsTally old new = new.shares.amounts ≡ record old.shares.amounts { other = new.shares.amounts.other }

-- The session counts no step of the seven named kinds beside those that it had, no close, and no step of a destroy: it made no put, no delete
-- and no load, and ended nothing.
abbrev pub HoldsNamed : SessionState → SessionState → Type 0
HoldsNamed old new = HoldsTally old new × (new.closes ≡ old.closes) × (new.destroys ≡ old.destroys)

-- the same of a close, which counts closes
abbrev pub HoldsButCloses : SessionState → SessionState → Type 0
HoldsButCloses old new = HoldsTally old new × (new.destroys ≡ old.destroys)

-- and of a destroy, which counts its steps
abbrev pub HoldsButDestroys : SessionState → SessionState → Type 0
HoldsButDestroys old new = HoldsTally old new × (new.closes ≡ old.closes)

-- the same of one step, whatever it is
abbrev pub HoldsBut : StepBrief → SessionState → SessionState → Type 0
HoldsBut given old new =
    HoldsTally old new × (is_close given ≡ false → new.closes ≡ old.closes) × (is_destroy given ≡ false → new.destroys ≡ old.destroys)

-- it made so many steps of no named kind at least
abbrev pub HasMade : (steps : ℕ) → SessionState → SessionState → Type 0
HasMade steps old new = old.shares.amounts.other + steps ≤ new.shares.amounts.other

-- all steps that it counts are of no named kind, and none is a close or of a destroy
abbrev pub CountsUnnamed : SessionState → Type 0
CountsUnnamed session = (session.shares.amounts ≡ record none { other = session.shares.amounts.other }) × (session.closes ≡ 0) × (session.destroys ≡ 0)

-- It counts the step as one of its kind, and besides only refusals of it, which are of no named kind. No close and no step of a destroy is
-- counted beside it.
pub record CountsStep (old new : SessionState) (given : StepBrief) (answer : ReplyBrief) : Type 0 where
  pub others : ℕ
  pub counted : new.shares.amounts ≡ grown (kind_in given answer) (record old.shares.amounts { other = others })
  pub unclosed : is_close given ≡ false → new.closes ≡ old.closes
  pub kept : is_destroy given ≡ false → new.destroys ≡ old.destroys

-- the newest step asks whether no reclaim runs, as the last one of a wait does, and is answered
pub record AsksForReclaims (session : SessionState) : Type 0 where
  pub is_idle : Bool
  pub newest : session.newest ≡ Some (record { step = asked.ReclaimIdle; reply = replied.Answer is_idle })

abbrev pub is_refused : ReplyBrief → Bool
is_refused (replied.Refused kind) = true
is_refused other = false

-- the newest step queues a wait of this number at this flusher, and isn't refused
pub record AsksToWait (flusher id : ℕ) (session : SessionState) : Type 0 where
  pub answer : ReplyBrief
  pub newest : session.newest ≡ Some (record { step = asked.Wait flusher id; reply = answer })
  pub taken : is_refused answer ≡ false

-- the newest step began a destroy, under this sequence
pub record HasBegun (session : SessionState) : Type 0 where
  pub sequence : ℕ
  pub newest : session.newest ≡ Some (record { step = asked.DestroyBegin; reply = replied.Destroying sequence })

-- what a destroy is answered as, by the first clean that failed
abbrev pub destroyed_as : Option ErrorKind → Result (Unit {0}) Error
destroyed_as None = Ok tt
destroyed_as (Some kind) = Err (error_of kind)

-- and what one clean of it is answered as: the outcome of all cleans, if this one was the last
abbrev pub cleaned_as : ReplyBrief → Option (Result (Unit {0}) Error)
cleaned_as (replied.Destroyed first) = Some (destroyed_as first)
cleaned_as (replied.Refused kind) = Some (Err (error_of kind))
cleaned_as other = None

-- the newest step brings the outcome of this block's clean, which came of it so, and is answered so
pub record BringsClean (came : ℕ → Result (Unit {0}) Error → Type 0) (block : ℕ) (session : SessionState) (answered : Option (Result (Unit {0}) Error)) : Type 0 where
  pub outcome : Result (Unit {0}) Error
  pub answer : ReplyBrief
  pub newest : session.newest ≡ Some (record { step = asked.DestroyCleaned block (outcome_of outcome); reply = answer })
  pub did : came block outcome
  pub said : answered ≡ cleaned_as answer

-- what a destroy is answered as, by what its last clean is: it ends with none but that
abbrev pub ended_as : Option (Result (Unit {0}) Error) → Result (Unit {0}) Error
ended_as outcome = unwrap_or outcome (Err error.Unsupported)

-- The same of the last block's clean. After that clean the destroy is answered as the clean's reply says. So the destroy goes well only if
-- the reply says that the destroy ended, and no clean failed.
pub record EndsWithClean (came : ℕ → Result (Unit {0}) Error → Type 0) (block : ℕ) (session : SessionState) (answered : Result (Unit {0}) Error) : Type 0 where
  pub outcome : Result (Unit {0}) Error
  pub answer : ReplyBrief
  pub newest : session.newest ≡ Some (record { step = asked.DestroyCleaned block (outcome_of outcome); reply = answer })
  pub did : came block outcome
  pub said : answered ≡ ended_as (cleaned_as answer)

-- why a destroy that has begun ends early: no step is left, or the engine's bells are closed
abbrev pub is_late_error : Error → Bool
is_late_error error.Closed = true
is_late_error error.SequenceEnd = true
is_late_error other = false

-- what an early end of a destroy is answered as
abbrev pub early_error : Early → Error
early_error (early.Refused why) = error_of why
early_error (early.Closed seen) = error.Closed

-- The newest step is this one, and was refused so. Or, if notes are kept, a note finds no room for it. Or the bell was seen closed.
abbrev pub IsEarly : (keeps : Bool) → StepBrief → SessionState → Early → Type 0
IsEarly keeps given session (early.Refused why) =
    (session.newest ≡ Some (record { step = given; reply = replied.Refused why })) ⊎ ((keeps ≡ true) × (why ≡ kind.Memory))
IsEarly keeps given session (early.Closed seen) = Unit {0}

-- A destroy hasn't begun. Its first step is the newest, and was refused so. Or, if notes are kept, a note finds no room for it.
abbrev pub IsUnbegun : (keeps : Bool) → SessionState → Error → Type 0
IsUnbegun keeps session e =
    ((keeps ≡ true) × (e ≡ error.Memory))
    ⊎ ((why : ErrorKind) × (e ≡ error_of why) × (session.newest ≡ Some (record { step = asked.DestroyBegin; reply = replied.Refused why })))

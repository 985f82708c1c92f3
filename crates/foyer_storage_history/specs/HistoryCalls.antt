-- What a call did in the one history of all threads.
use Rattle.std.specs.Prelude.{◌≡◌, ◌⊎◌, ℕ, ◌-◌, ◌<◌, Bool, true, false, List, [], ◌∷◌, ◌++◌, Option, Some, None, Result, Ok, Err, slice_get}
use Rattle.std.specs.declared.alloc.Global.{Global}
use Rattle.std.specs.declared.vec.Vec.{Vec}
use Rattle.foyer_device_page.specs.declared.error.Error.{Error}
use Rattle.foyer_device_page.specs.declared.error.Error.TheVariants as error
use Rattle.foyer_policy_piece.specs.Record.{Record}
use Rattle.foyer_policy_piece.specs.Referred.{Referred}
use Rattle.foyer_core_chronicle.specs.declared.View.{View}
use Rattle.foyer_core_laws.specs.Content.{Meaning, content}
use Rattle.foyer_core_laws.specs.Settings.{Settings}
use Rattle.foyer_core_model.specs.Access.{CleanIssued}
use Rattle.foyer_io_told.specs.ToldAccess.{HasClean}
use Rattle.foyer_core_shared.specs.Briefed.{IsNotedIn}
use Rattle.foyer_core_shared.specs.Briefs.{reply_brief}
use Rattle.foyer_core_shared.specs.Refusals.{error_of}
use Rattle.foyer_core_shared.specs.Sessions.{SessionState}
use Rattle.foyer_core_shared.specs.declared.brief.ReplyBrief.{ReplyBrief}
use Rattle.foyer_core_shared.specs.declared.brief.StepBrief.TheVariants as asked
use Rattle.foyer_core_steps.specs.declared.reply.Reply.{Reply}
use Rattle.foyer_core_steps.specs.declared.reply.Reply.TheVariants as replies
use Rattle.foyer_core_steps.specs.declared.step.Step.{Step}
use Rattle.foyer_core_steps.specs.declared.step.Step.TheVariants as steps
use Rattle.foyer_core_told.specs.declared.event.Told.{Told}
use Rattle.foyer_core_told.specs.Telling.{HasStepped}
use Rattle.foyer_core_threads.specs.Asking.{HasSizes}
use Rattle.foyer_core_threads.specs.Done.{HasCleaned, HasLoaded, HasLookedOnly, IsLoadNoted}
use Rattle.foyer_core_threads.specs.Going.{IsMadeAgain}
use Rattle.foyer_core_threads.specs.Newest.{WasMissedWritten, WasPutLast}
use Rattle.foyer_storage_engine.specs.Answering.{IsLoadOf, enqueued_as}
use Rattle.foyer_storage_engine.specs.Ending.{is_refused}
use Rattle.foyer_storage_engine.specs.declared.engine.Enqueued.{Enqueued}
use Rattle.foyer_storage_engine.specs.declared.load.Load.{Load}
use Rattle.foyer_storage_engine.specs.declared.load.Load.TheVariants as load

-- the first has seen no more than the second
abbrev pub IsSeenBy : {E : Type 0} → View E → View E → Type 0
IsSeenBy {E} v w = (more : List E) × (w.seen ≡ v.seen ++ more)

-- nothing is there
abbrev pub is_nil : {X : Type 0} → List X → Bool
is_nil [] = true
is_nil (x ∷ xs) = false

-- what the clear of a destroy is answered as, if it is over with that
abbrev pub cleared_as : {K V P : Type 0} → Reply K V P Global → Option (Result (Unit {0}) Error)
cleared_as replies.Cleared = Some (Ok tt)
cleared_as (replies.Refused kind back) = Some (Err (error_of kind))
cleared_as other = None

-- what the last clean of a destroy is answered as
abbrev pub destroyed_as : {K V P : Type 0} → Reply K V P Global → Result (Unit {0}) Error
destroyed_as (replies.Destroyed None) = Ok tt
destroyed_as (replies.Destroyed (Some kind)) = Err (error_of kind)
destroyed_as (replies.Refused kind back) = Err (error_of kind)
destroyed_as other = Err error.Unsupported

-- the session's newest step asks for a destroy, and isn't refused
abbrev pub AsksToDestroy : SessionState → Type 0
AsksToDestroy session = (answer : ReplyBrief) × (session.newest ≡ Some (record { step = asked.DestroyBegin; reply = answer })) × (is_refused answer ≡ false)

-- the step is the newest of its session, with this reply, and the session has as many parts as before
pub record HasMadeStep {K V P : Type 0} (old new : SessionState) (step : Step K V P Global) (answer : Reply K V P Global) : Type 0 where
  pub noted : IsNotedIn old new step answer
  pub parts : new.shares.parts ≡ old.shares.parts

module _ {K V P D : Type 0} (m : Meaning K V P) (byte_at : D → ℕ → ℕ → ℕ) where
  -- A load's answer: an entry was put last under its hash at a moment of the call; a miss has its cause there. It is nothing else.
  abbrev pub IsNewestAnswer : (mine after : View (Told K V P Global D)) → (hash : ℕ) → Result (Load K V P Global) Error → Type 0
  IsNewestAnswer mine after hash (Ok (load.Entry key value populated)) = WasPutLast m byte_at mine.seen after.seen hash (content m key value)
  IsNewestAnswer mine after hash (Ok load.Miss) = WasMissedWritten m byte_at mine.seen after.seen hash
  IsNewestAnswer mine after hash (Err e) = Unit {0}
  IsNewestAnswer mine after hash answered = ⊥

  -- A load: its answer is as above. It made one look-up, with its read and its end if the look-up issued a read, and no other step. If no
  -- memory was found to read into, it made the look-up alone.
  pub record IsNewestLoad (mine after : View (Told K V P Global D)) (old new : SessionState) (hash : ℕ) (answered : Result (Load K V P Global) Error) : Type 0 where
    pub newest : IsNewestAnswer mine after hash answered
    pub made : ((reply : Reply K V P Global) × IsLoadOf reply answered × HasLoaded m byte_at false mine after hash false reply × IsLoadNoted false old new hash false reply)
        ⊎ ((answered ≡ Err error.Memory) × HasLookedOnly m byte_at mine after old new hash false)
    pub parts : new.shares.parts ≡ old.shares.parts

  -- The history went on by one step, which is noted in the session, and no other is. The call answers what its reply is called.
  pub record IsAnswerTo {X : Type 0} (says : ReplyBrief → Result X Error) (mine after : View (Told K V P Global D)) (old new : SessionState) (step : Step K V P Global) (answered : Result X Error) : Type 0 where
    pub reply : Reply K V P Global
    pub number : ℕ
    pub stepped : HasStepped m byte_at mine after step reply number
    pub left : HasMadeStep old new step reply
    pub said : answered ≡ says (reply_brief reply)

  -- this piece was handed in, under some number; or the keeper had no room or no number for it, and nothing was done
  abbrev pub IsEnqueued : (mine after : View (Told K V P Global D)) → (old new : SessionState) → (given : Record K V P) → (size : ℕ) → Result Enqueued Error → Type 0
  IsEnqueued mine after old new given size answered =
      ((piece : Referred K V P) × (piece.piece ≡ given) × IsAnswerTo enqueued_as mine after old new (steps.Enqueue piece size) answered)
      ⊎ ((after ≡ mine) × (new ≡ old) × ((answered ≡ Err error.Memory) ⊎ (answered ≡ Err error.SequenceEnd)))

  -- The end of a flusher's batch answered this wait.
  pub record IsEndAnswering (mine after : View (Told K V P Global D)) (flusher id : ℕ) : Type 0 where
    pub ended : View (Told K V P Global D)
    pub answered : View (Told K V P Global D)
    pub number : ℕ
    pub pieces : Vec (Referred K V P) Global
    pub waits : Vec ℕ Global
    pub at : ℕ
    pub first : IsSeenBy mine ended
    pub stepped : HasStepped m byte_at ended answered (steps.FlushEnd flusher) (replies.Ended pieces waits) number
    pub own : slice_get waits.items at ≡ Some id
    pub last : IsSeenBy answered after

  -- A wait of a flusher was queued within the call, and the end of a batch answered it then.
  pub record IsWaitedFor (mine after : View (Told K V P Global D)) (flusher : ℕ) : Type 0 where
    pub begun : View (Told K V P Global D)
    pub queued : View (Told K V P Global D)
    pub id : ℕ
    pub number : ℕ
    pub first : IsSeenBy mine begun
    pub stepped : HasStepped m byte_at begun queued (steps.Wait flusher id) replies.Done number
    pub answered : IsEndAnswering queued after flusher id

  -- The index was cleared, and each clean is to be done.
  pub record IsCleared (mine after : View (Told K V P Global D)) (blocks : ℕ) : Type 0 where
    pub begun : View (Told K V P Global D)
    pub first : IsSeenBy mine begun
    pub clear : IsMadeAgain m byte_at begun after steps.DestroyClear replies.Cleared
    pub issued : (block : ℕ) → block < blocks → HasClean m byte_at after.seen block CleanIssued

  -- This block was cleaned for a destroy, at some point after what had been seen, and the report of the clean is answered so.
  pub record AreCleaned (mine after : View (Told K V P Global D)) (last : ℕ) (answered : Result (Unit {0}) Error) : Type 0 where
    pub next : View (Told K V P Global D)
    pub reply : Reply K V P Global
    pub first : IsSeenBy mine next
    pub clean : HasCleaned m byte_at false steps.DestroyCleaned next after last reply
    pub said : answered ≡ destroyed_as reply

  -- Within the call the index was cleared, and this block was cleaned after that. The report of the clean is answered so.
  pub record IsDestroyed (mine after : View (Told K V P Global D)) (last : ℕ) (answered : Result (Unit {0}) Error) : Type 0 where
    pub begun : View (Told K V P Global D)
    pub cleared : View (Told K V P Global D)
    pub cleaned : View (Told K V P Global D)
    pub first : IsSeenBy mine begun
    pub clear : IsMadeAgain m byte_at begun cleared steps.DestroyClear replies.Cleared
    pub clean : AreCleaned cleared cleaned last answered
    pub ended : IsSeenBy cleaned after

  -- The same of the last of the blocks: the core of this history was opened with so many.
  pub record IsAllDestroyed (mine after : View (Told K V P Global D)) (answered : Result (Unit {0}) Error) : Type 0 where
    pub sizes : Settings
    pub known : HasSizes m byte_at after.seen sizes
    pub some : 0 < sizes.blocks
    pub destroyed : IsDestroyed mine after (sizes.blocks - 1) answered

  -- The core was closed within the call, and each flusher waited for after that.
  pub record IsClosed (mine after : View (Told K V P Global D)) (flushers : ℕ) : Type 0 where
    pub closed : View (Told K V P Global D)
    pub close : IsMadeAgain m byte_at mine closed steps.Close replies.Done
    pub waited : (flusher : ℕ) → flusher < flushers → IsWaitedFor closed after flusher

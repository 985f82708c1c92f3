-- What an engine's calls answer: what their sessions' briefs say.
use Rattle.std.specs.Prelude.{◌≡◌, ◌⊎◌, ℕ, Bool, true, false, List, Some, Result, Ok, Err, IfOk, vec_len}
use Rattle.std.specs.declared.vec.Vec.{Vec}
use Rattle.foyer_core_shared.specs.Answered.{BringsPair}
use Rattle.foyer_core_shared.specs.Refusals.{error_of}
use Rattle.foyer_core_shared.specs.Reply.{Reply}
use Rattle.foyer_core_shared.specs.Reply.TheVariants as reply
use Rattle.foyer_core_shared.specs.Step.{Step}
use Rattle.foyer_core_shared.specs.Step.TheVariants as step
use Rattle.foyer_core_shared.specs.Ticket.{Ticket}
use Rattle.foyer_device_page.specs.declared.error.Error.{Error}
use Rattle.foyer_device_page.specs.declared.error.Error.TheVariants as error
use Rattle.foyer_storage_engine.specs.declared.load.Load.{Load}
use Rattle.foyer_storage_engine.specs.declared.load.Load.TheVariants as load
use Rattle.foyer_core_shared.specs.Briefs.{len_of, reply_brief}
use Rattle.foyer_core_shared.specs.declared.brief.ReplyBrief.{ReplyBrief}
use Rattle.foyer_core_shared.specs.declared.brief.ReplyBrief.TheVariants as replied
use Rattle.foyer_core_shared.specs.declared.brief.StepBrief.{StepBrief}
use Rattle.foyer_core_shared.specs.declared.brief.StepBrief.TheVariants as asked
use Rattle.foyer_core_shared.specs.Sessions.{SessionState}
use Rattle.foyer_core_shared.specs.Kinds.{kind_in}
use Rattle.foyer_storage_engine.specs.declared.engine.Enqueued.{Enqueued}
use Rattle.foyer_storage_engine.specs.declared.engine.Enqueued.TheVariants as enqueued
use Rattle.foyer_core_tally.specs.Tally.{grown}
use Rattle.foyer_core_tally.specs.declared.kinds.Counts.{Counts}
use Rattle.foyer_core_tally.specs.declared.kinds.StepKind.TheVariants.{Read}

-- why a put or a delete is refused
abbrev pub is_draw_error : Error → Bool
is_draw_error error.Closed = true
is_draw_error error.Memory = true
is_draw_error error.SequenceEnd = true
is_draw_error other = false

-- why a question is refused: no step is left, or a note that is to be kept finds no room
abbrev pub is_question_error : (keeps : Bool) → Error → Bool
is_question_error keeps error.SequenceEnd = true
is_question_error keeps error.Memory = keeps
is_question_error keeps other = false

-- why a load is refused
abbrev pub is_load_error : Error → Bool
is_load_error error.Io = true
is_load_error error.Memory = true
is_load_error error.Parse = true
is_load_error error.Unsupported = true
is_load_error error.SequenceEnd = true
is_load_error other = false

-- an enqueue that was replied so
abbrev pub enqueued_as : ReplyBrief → Result Enqueued Error
enqueued_as (replied.Queued sequence) = Ok enqueued.Queued
enqueued_as replied.Ignored = Ok enqueued.Ignored
enqueued_as (replied.Dropped sequence) = Ok enqueued.Deleted
enqueued_as (replied.Refused kind) = Err (error_of kind)
enqueued_as other = Err error.Unsupported

-- a delete
abbrev pub deleted_as : ReplyBrief → Result (Unit {0}) Error
deleted_as (replied.Deleted sequence) = Ok tt
deleted_as (replied.Refused kind) = Err (error_of kind)
deleted_as other = Err error.Unsupported

-- a question
abbrev pub asked_as : ReplyBrief → Result Bool Error
asked_as (replied.Answer answer) = Ok answer
asked_as (replied.Refused kind) = Err (error_of kind)
asked_as other = Err error.Unsupported

-- a step is the newest that was noted in a session, which had counted so many of each kind before
pub record IsNewest (new : SessionState) (had : Counts) (given : StepBrief) (answer : ReplyBrief) : Type 0 where
  pub newest : new.newest ≡ Some (record { step = given; reply = answer })
  pub counted : new.shares.amounts ≡ grown (kind_in given answer) had

-- a step of this brief got a reply
pub record IsReplied {X : Type 0} (says : ReplyBrief → Result X Error) (old new : SessionState) (given : StepBrief) (answered : Result X Error) : Type 0 where
  pub answer : ReplyBrief
  pub noted : IsNewest new old.shares.amounts given answer
  pub before : new.before ≡ old.newest
  pub said : answered ≡ says answer

-- The call made one step, noted it, and answered what its brief says. Or, if notes are kept, a note found no room, and nothing was noted.
abbrev pub IsAnsweredAs : {X : Type 0} → (keeps : Bool) → (ReplyBrief → Result X Error) → SessionState → SessionState → StepBrief → Result X Error → Type 0
IsAnsweredAs keeps says old new given answered = IsReplied says old new given answered ⊎ ((keeps ≡ true) × (answered ≡ Err error.Memory) × (new ≡ old))

-- it has a ticket
abbrev pub IsRead : ReplyBrief → Type 0
IsRead (replied.Read ticket) = Unit {0}
IsRead other = ⊥

module _ {K V P A : Type 0} where
  -- what the last step of a load, with its contents, is answered as
  abbrev pub IsLoadOf : Reply K V P A → Result (Load K V P A) Error → Type 0
  IsLoadOf (reply.Entry key value age) answered = answered ≡ Ok (load.Entry key value (record { age = age }))
  IsLoadOf reply.Throttled answered = answered ≡ Ok load.Throttled
  IsLoadOf reply.Miss answered = answered ≡ Ok load.Miss
  IsLoadOf (reply.Refused kind back) answered = answered ≡ Err (error_of kind)
  IsLoadOf other answered = answered ≡ Err error.Unsupported

  -- a look-up's ticket, or its reply if it has no ticket
  abbrev pub IsTicketOf : Reply K V P A → Result Ticket (Reply K V P A) → Type 0
  IsTicketOf given (Ok ticket) = given ≡ reply.Read ticket
  IsTicketOf given (Err answer) = (answer ≡ given) × (IsRead (reply_brief given) → ⊥)

  -- an answer that has an entry
  abbrev pub IsEntry : Result (Load K V P A) Error → Type 0
  IsEntry (Ok (load.Entry key value populated)) = Unit {0}
  IsEntry answered = ⊥

  -- what its brief is answered as
  abbrev pub IsLoadAs : ReplyBrief → Result (Load K V P A) Error → Type 0
  IsLoadAs replied.Entry answered = IsEntry answered
  IsLoadAs replied.Throttled answered = answered ≡ Ok load.Throttled
  IsLoadAs replied.Miss answered = answered ≡ Ok load.Miss
  IsLoadAs (replied.Refused kind) answered = answered ≡ Err (error_of kind)
  IsLoadAs other answered = answered ≡ Err error.Unsupported

  -- it got a ticket, but no memory to read into, or none for the note of the load's end
  pub record IsCutShort (old new : SessionState) (hash : ℕ) (throttled : Bool) (answered : Result (Load K V P A) Error) : Type 0 where
    pub ticket : Ticket
    pub noted : IsNewest new old.shares.amounts (asked.LoadBegin hash throttled) (replied.Read ticket)
    pub before : new.before ≡ old.newest
    pub said : answered ≡ Err error.Memory

module _ {K V P A : Type 0} (is_key is_value : List ℕ → Bool) (key_of : K → List ℕ) (value_of : V → List ℕ) where
  -- an entry is answered to a step alone that brings bytes, and its pair is the one that they are
  abbrev pub IsPairOf : Step K V P A → Result (Load K V P A) Error → Type 0
  IsPairOf given (Ok (load.Entry key value populated)) = BringsPair is_key is_value (key_of key) (value_of value) given
  IsPairOf given answered = Unit {0}

  -- the look-up was answered at once
  pub record IsLookedUp (old new : SessionState) (hash : ℕ) (throttled : Bool) (answered : Result (Load K V P A) Error) : Type 0 where
    pub answer : ReplyBrief
    pub noted : IsNewest new old.shares.amounts (asked.LoadBegin hash throttled) answer
    pub before : new.before ≡ old.newest
    pub unread : IsRead answer → ⊥
    pub said : IsLoadAs answer answered
    pub pair : IsPairOf (step.LoadBegin hash throttled) answered

  -- what was read for a ticket, bytes or a fault, ended its load, of which an entry is the pair of these bytes
  pub record IsEndedWith (old new : SessionState) (ticket : Ticket) (came : Result (Vec ℕ A) Error) (answered : Result (Load K V P A) Error) : Type 0 where
    pub answer : ReplyBrief
    pub noted : IsNewest new old.shares.amounts (asked.LoadEnd ticket (len_of came)) answer
    pub before : new.before ≡ old.newest
    pub said : IsLoadAs answer answered
    pub pair : IsPairOf (step.LoadEnd ticket came) answered

  -- the load ended so; or, if notes are kept, nothing was noted
  abbrev pub IsEndOf : (keeps : Bool) → SessionState → SessionState → Ticket → Result (Vec ℕ A) Error → Result (Load K V P A) Error → Type 0
  IsEndOf keeps old new ticket came answered =
      IsEndedWith old new ticket came answered ⊎ ((keeps ≡ true) × (answered ≡ Err error.Memory) × (new ≡ old))

  -- What was read for the ticket ended the load: as many bytes as its record has, of which an entry is the pair, or a fault. It was read so.
  pub record IsEnded (read_by : Ticket → Result (Vec ℕ A) Error → Type 0) (old new : SessionState) (hash : ℕ) (throttled : Bool) (answered : Result (Load K V P A) Error) : Type 0 where
    pub ticket : Ticket
    pub came : Result (Vec ℕ A) Error
    pub answer : ReplyBrief
    pub noted : IsNewest new (grown Read old.shares.amounts) (asked.LoadEnd ticket (len_of came)) answer
    pub before : new.before ≡ Some (record { step = asked.LoadBegin hash throttled; reply = replied.Read ticket })
    pub said : IsLoadAs answer answered
    pub own : (ticket.hash ≡ hash) × (throttled ≡ false)
    pub len : IfOk came (λ bytes. vec_len bytes ≡ ticket.address.len)
    pub read : read_by ticket came
    pub pair : IsPairOf (step.LoadEnd ticket came) answered

  -- A load makes one step, or two if it reads. It answers what their briefs say, and an entry only of the bytes that it read. Or, if notes
  -- are kept, nothing was noted.
  abbrev pub IsLoaded : (read_by : Ticket → Result (Vec ℕ A) Error → Type 0) → (keeps : Bool) → SessionState → SessionState → (hash : ℕ) → (throttled : Bool) → Result (Load K V P A) Error → Type 0
  IsLoaded read_by keeps old new hash throttled answered =
      IsLookedUp old new hash throttled answered ⊎ (IsCutShort old new hash throttled answered
      ⊎ (IsEnded read_by old new hash throttled answered ⊎ ((keeps ≡ true) × (answered ≡ Err error.Memory) × (new ≡ old))))

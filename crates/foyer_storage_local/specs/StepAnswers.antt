-- What the core's replies are answered as.
use Rattle.std.specs.Prelude.{Bool, true, false, Option, Some, None, Result, Ok, Err}
use Rattle.foyer_device_page.specs.declared.error.Error.{Error}
use Rattle.foyer_device_page.specs.declared.error.Error.TheVariants as error
use Rattle.foyer_device_page.specs.declared.error.ErrorKind.{ErrorKind}
use Rattle.foyer_device_page.specs.declared.error.ErrorKind.TheVariants as kind
use Rattle.foyer_core_steps.specs.Refusals.{error_of}
use Rattle.foyer_core_steps.specs.declared.reply.Reply.{Reply}
use Rattle.foyer_core_steps.specs.declared.reply.Reply.TheVariants as reply
use Rattle.foyer_storage_local.specs.declared.load.Enqueued.{Enqueued}
use Rattle.foyer_storage_local.specs.declared.load.Enqueued.TheVariants as enqueued
use Rattle.foyer_storage_local.specs.declared.load.Load.{Load}
use Rattle.foyer_storage_local.specs.declared.load.Load.TheVariants as load

-- why a put or a delete is refused
abbrev pub is_draw_error : Error → Bool
is_draw_error error.Closed = true
is_draw_error error.Memory = true
is_draw_error error.SequenceEnd = true
is_draw_error other = false

-- why a question is refused: no step is left
abbrev pub is_question_error : Error → Bool
is_question_error error.SequenceEnd = true
is_question_error other = false

-- why a load is refused
abbrev pub is_load_error : Error → Bool
is_load_error error.Io = true
is_load_error error.Memory = true
is_load_error error.Parse = true
is_load_error error.Unsupported = true
is_load_error error.SequenceEnd = true
is_load_error other = false

-- why a wait or a close ends early
abbrev pub is_wait_error : Error → Bool
is_wait_error error.Io = true
is_wait_error error.Memory = true
is_wait_error error.NoSpace = true
is_wait_error error.SequenceEnd = true
is_wait_error other = false

-- why a destroy does: for one of these, or the engine was closed before it
abbrev pub is_destroy_error : Error → Bool
is_destroy_error error.Closed = true
is_destroy_error e = is_wait_error e

-- the error of a flusher's or a reclaim's step, or of a destroy's once it has begun, that is refused: of memory and of the end
-- of the steps their own, all else is a fault of an access
abbrev pub wait_error : ErrorKind → Error
wait_error kind.Memory = error.Memory
wait_error kind.SequenceEnd = error.SequenceEnd
wait_error other = error.Io

-- the error of the first clean that failed, of those before and this one
abbrev pub first_of : Option Error → Result (Unit {0}) Error → Option Error
first_of None (Ok done) = None
first_of None (Err e) = Some e
first_of (Some e) outcome = Some e

-- and what a destroy answers of it
abbrev pub fault_in : Option Error → Error
fault_in None = error.Io
fault_in (Some e) = e

module _ {K V P A : Type 0} where
  -- an enqueue's
  abbrev pub enqueued_as : Reply K V P A → Result Enqueued Error
  enqueued_as (reply.Queued sequence) = Ok enqueued.Queued
  enqueued_as (reply.Dropped piece sequence) = Ok enqueued.Deleted
  enqueued_as (reply.Refused kind back) = Err (error_of kind)
  enqueued_as said = Ok enqueued.Ignored

  -- a load's
  abbrev pub loaded_as : Reply K V P A → Result (Load K V) Error
  loaded_as (reply.Entry key value age) = Ok (load.Entry key value (record { age = age }))
  loaded_as reply.Throttled = Ok load.Throttled
  loaded_as (reply.Refused kind back) = Err (error_of kind)
  loaded_as said = Ok load.Miss

  -- a delete's
  abbrev pub deleted_as : Reply K V P A → Result (Unit {0}) Error
  deleted_as (reply.Refused kind back) = Err (error_of kind)
  deleted_as said = Ok tt

  -- a question's
  abbrev pub contains_as : Reply K V P A → Result Bool Error
  contains_as (reply.Answer is_there) = Ok is_there
  contains_as (reply.Refused kind back) = Err (error_of kind)
  contains_as said = Ok true

  -- whether a step did anything, or why it was refused
  abbrev pub done_as : Reply K V P A → Result Bool Error
  done_as (reply.Refused kind back) = Err (wait_error kind)
  done_as (reply.NotNow back) = Ok false
  done_as reply.Empty = Ok false
  done_as said = Ok true

  -- whether a block was written: without a clean block there is no space for it
  abbrev pub wrote_as : Option (Reply K V P A) → Result Bool Error
  wrote_as None = Ok true
  wrote_as (Some reply.NoBlock) = Err error.NoSpace
  wrote_as (Some said) = done_as said

  -- whether a destroy has begun, or had before, or why it was refused
  abbrev pub begun_as : Reply K V P A → Result (Unit {0}) Error
  begun_as (reply.Refused kind.Closed back) = Err error.Closed
  begun_as (reply.Refused why back) = Err (wait_error why)
  begun_as said = Ok tt

  -- a destroy's step that was returned, or that didn't end the destroy
  abbrev pub kept_as : Reply K V P A → Result (Unit {0}) Error
  kept_as (reply.Refused kind back) = Err (wait_error kind)
  kept_as said = Err error.Io

  -- the last reply of a destroy: a clean that failed isn't passed over, and the first is answered by the disk's own error
  abbrev pub destroyed_as : Reply K V P A → (first : Option Error) → Result (Unit {0}) Error
  destroyed_as (reply.Destroyed None) first = Ok tt
  destroyed_as (reply.Destroyed (Some kind)) first = Err (fault_in first)
  destroyed_as said first = kept_as said

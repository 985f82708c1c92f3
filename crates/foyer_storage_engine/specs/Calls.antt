-- What the calls of an engine whose core keeps no notes answer.
use Rattle.std.specs.Prelude.{ℕ, Bool, false, Result}
use Rattle.foyer_core_shared.specs.Sessions.{SessionState}
use Rattle.foyer_core_shared.specs.declared.brief.StepBrief.TheVariants as asked
use Rattle.foyer_device_page.specs.declared.error.Error.{Error}
use Rattle.foyer_storage_engine.specs.Answering.{IsAnsweredAs, asked_as, deleted_as}
use Rattle.foyer_storage_engine.specs.Keeping.{IsAnsweredUnlessFull}
use Rattle.foyer_storage_engine.specs.declared.engine.Enqueued.{Enqueued}

-- an enqueue of a piece of this hash and size
abbrev pub IsEnqueueAnswer : SessionState → SessionState → (hash size : ℕ) → Result Enqueued Error → Type 0
IsEnqueueAnswer old new hash size answer = IsAnsweredUnlessFull false old new (asked.Enqueue hash size) answer

-- a delete of this hash
abbrev pub IsDeleteAnswer : SessionState → SessionState → (hash : ℕ) → Result (Unit {0}) Error → Type 0
IsDeleteAnswer old new hash answer = IsAnsweredAs false deleted_as old new (asked.Delete hash) answer

-- a question for this hash
abbrev pub IsQuestionAnswer : SessionState → SessionState → (hash : ℕ) → Result Bool Error → Type 0
IsQuestionAnswer old new hash answer = IsAnsweredAs false asked_as old new (asked.MayContains hash) answer

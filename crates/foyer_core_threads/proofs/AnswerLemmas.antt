-- What a reply says of its step alone, by what it says of the core before and after too.
use Rattle.std.proofs.Common.{ℕ, Bool, List}
use Rattle.foyer_core_shared.specs.Answers.{IsAnswer, IsDelete, IsEnqueue, IsQuestion, LooksUp}
use Rattle.foyer_core_steps.specs.Answered.{Asks, Deletes, Describes, Drops, HandsBack, Looks, Queues, Returns}
use Rattle.foyer_core_steps.specs.declared.reply.Reply.{Reply}
use Rattle.foyer_core_steps.specs.declared.reply.Reply.TheVariants as replies
use Rattle.foyer_core_steps.specs.declared.state.Core.{Core}
use Rattle.foyer_core_steps.specs.declared.step.Step.{Step}
use Rattle.foyer_core_steps.specs.declared.step.Step.TheVariants as steps
use Rattle.foyer_core_steps.specs.declared.step.Ticket.{Ticket}
use Rattle.foyer_policy_piece.specs.Referred.{Referred}

module _ {K V P A : Type 0} (old new : Core K V P A) where
  queued : (given : Step K V P A) (sequence : ℕ) → Queues given sequence old new → IsEnqueue given
  queued (steps.Enqueue piece size) sequence says = tt
  queued given sequence says = absurd says

  dropped : (given : Step K V P A) (back : Referred K V P) (sequence : ℕ) → Drops given back sequence old new → Returns given back
  dropped (steps.Enqueue piece size) back sequence says = says.0
  dropped given back sequence says = absurd says

  deleted : (given : Step K V P A) (sequence : ℕ) → Deletes given sequence old new → IsDelete given
  deleted (steps.Delete hash) sequence says = tt
  deleted given sequence says = absurd says

  asked : (given : Step K V P A) (answer : Bool) → Asks given answer old → IsQuestion given
  asked (steps.MayContains hash) answer says = tt
  asked steps.ReclaimIdle answer says = tt
  asked given answer says = absurd says

  looked : (given : Step K V P A) (ticket : Ticket) → Looks given ticket old → LooksUp given ticket
  looked (steps.LoadBegin hash throttled) ticket says = (says.0, says.2)
  looked given ticket says = absurd says

  pub is_answer : (is_key is_value : List ℕ → Bool) (key_of : K → List ℕ) (value_of : V → List ℕ) (given : Step K V P A) (answer : Reply K V P A) → HandsBack given answer old new → Describes is_key is_value key_of value_of given answer old new
      → IsAnswer is_key is_value key_of value_of given answer
  is_answer is_key is_value key_of value_of given (replies.NotNow back) hands says = hands.0
  is_answer is_key is_value key_of value_of given (replies.Refused kind back) hands says = hands.0
  is_answer is_key is_value key_of value_of given (replies.Entry key value age) hands says = says
  is_answer is_key is_value key_of value_of given (replies.Ignored back) hands says = says
  is_answer is_key is_value key_of value_of given (replies.Queued sequence) hands says = queued given sequence says
  is_answer is_key is_value key_of value_of given (replies.Dropped back sequence) hands says = dropped given back sequence says
  is_answer is_key is_value key_of value_of given (replies.Deleted sequence) hands says = deleted given sequence says
  is_answer is_key is_value key_of value_of given (replies.Answer answer) hands says = asked given answer says
  is_answer is_key is_value key_of value_of given (replies.Read ticket) hands says = looked given ticket says
  is_answer is_key is_value key_of value_of given answer hands says = tt

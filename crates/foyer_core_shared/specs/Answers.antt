-- What a reply says of its step alone, whatever the core was.
use Rattle.std.specs.Prelude.{◌≡◌, ℕ, Bool, false, List}
use Rattle.foyer_core_steps.specs.Answered.{BringsPair, Returns}
use Rattle.foyer_core_steps.specs.declared.reply.Reply.{Reply}
use Rattle.foyer_core_steps.specs.declared.reply.Reply.TheVariants as reply
use Rattle.foyer_core_steps.specs.declared.step.Step.{Step}
use Rattle.foyer_core_steps.specs.declared.step.Step.TheVariants as step
use Rattle.foyer_core_steps.specs.declared.step.Ticket.{Ticket}

abbrev pub IsEnqueue : {K V P A : Type 0} → Step K V P A → Type 0
IsEnqueue (step.Enqueue piece size) = Unit {0}
IsEnqueue given = ⊥

abbrev pub IsDelete : {K V P A : Type 0} → Step K V P A → Type 0
IsDelete (step.Delete hash) = Unit {0}
IsDelete given = ⊥

-- it asks whether a hash is indexed, or whether no reclaim runs
abbrev pub IsQuestion : {K V P A : Type 0} → Step K V P A → Type 0
IsQuestion (step.MayContains hash) = Unit {0}
IsQuestion step.ReclaimIdle = Unit {0}
IsQuestion given = ⊥

-- it looks this ticket's hash up, and the caller doesn't throttle
abbrev pub LooksUp : {K V P A : Type 0} → Step K V P A → Ticket → Type 0
LooksUp (step.LoadBegin hash throttled) ticket = (ticket.hash ≡ hash) × (throttled ≡ false)
LooksUp given ticket = ⊥

-- A step that is returned, or a piece, is the one that was given. A pair is that of the bytes that the step brought. The
-- other replies are to the steps that they answer.
abbrev pub IsAnswer : {K V P A : Type 0} → (List ℕ → Bool) → (List ℕ → Bool) → (K → List ℕ) → (V → List ℕ) → Step K V P A → Reply K V P A → Type 0
IsAnswer is_key is_value key_of value_of given (reply.NotNow back) = back ≡ given
IsAnswer is_key is_value key_of value_of given (reply.Refused kind back) = back ≡ given
IsAnswer is_key is_value key_of value_of given (reply.Entry key value age) = BringsPair is_key is_value (key_of key) (value_of value) given
IsAnswer is_key is_value key_of value_of given (reply.Ignored back) = Returns given back
IsAnswer is_key is_value key_of value_of given (reply.Queued sequence) = IsEnqueue given
IsAnswer is_key is_value key_of value_of given (reply.Dropped back sequence) = Returns given back
IsAnswer is_key is_value key_of value_of given (reply.Deleted sequence) = IsDelete given
IsAnswer is_key is_value key_of value_of given (reply.Answer answer) = IsQuestion given
IsAnswer is_key is_value key_of value_of given (reply.Read ticket) = LooksUp given ticket
IsAnswer is_key is_value key_of value_of given answer = Unit {0}

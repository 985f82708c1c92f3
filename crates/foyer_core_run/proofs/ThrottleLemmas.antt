-- A look-up whose caller throttles issues no read.
use Rattle.std.proofs.Common.{◌≡◌, ℕ, Bool, true, false, List, sym, subst, ◌∙◌}
use Rattle.foyer_core_steps.specs.Answered.{Describes}
use Rattle.foyer_core_steps.specs.declared.reply.Reply.{Reply}
use Rattle.foyer_core_steps.specs.declared.reply.Reply.TheVariants as reply
use Rattle.foyer_core_steps.specs.declared.state.Core.{Core}
use Rattle.foyer_core_steps.specs.declared.step.Step.TheVariants as step
use Rattle.foyer_core_steps.specs.declared.step.Ticket.{Ticket}

pub no_read : {K V P A : Type 0} (is_key is_value : List ℕ → Bool) (key_of : K → List ℕ) (value_of : V → List ℕ) (h : ℕ) (throttled : Bool) (answer : Reply K V P A) (ticket : Ticket) (old new : Core K V P A)
    → answer ≡ reply.Read ticket → Describes is_key is_value key_of value_of (step.LoadBegin h throttled) answer old new → throttled ≡ true → ⊥
no_read is_key is_value key_of value_of h throttled answer ticket old new is describes throttles =
    let free : throttled ≡ false = (subst (λ r. Describes is_key is_value key_of value_of (step.LoadBegin h throttled) r old new) is describes).2 in
    let clash : true ≡ false = sym throttles ∙ free in cc

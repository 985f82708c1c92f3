-- Steps that are returned.
use Rattle.std.proofs.Common.{◌≡◌, ◌^◌, ◌<◌, ◌-◌, Some, refl, sym, subst, arith}
use Rattle.foyer_block_index.proofs.Rooms.{kept_itself}
use Rattle.foyer_device_page.specs.declared.error.ErrorKind.{ErrorKind}
use Rattle.foyer_core_model.specs.Numbers.{last_number}
use Rattle.foyer_core_model.specs.Refusal.{MayRefuse}
use Rattle.foyer_core_model.specs.Reply as model_reply
use Rattle.foyer_core_model.specs.State.{State}
use Rattle.foyer_core_model.specs.Follows.{IsOutOfTurn}
use Rattle.foyer_core_steps.specs.Asked.{step_of}
use Rattle.foyer_core_flusher.specs.Content.{Content, Meaning}
use Rattle.foyer_core_flusher.specs.CoreRules.{layout}
use Rattle.foyer_core_flusher.specs.CoreRules.{machine}
use Rattle.foyer_core_steps.specs.Refines.{IsRefinedUncounted}
use Rattle.foyer_core_steps.specs.Destroying.{kind_of}
use Rattle.foyer_core_flusher.specs.Sizes.{AreValid}
use Rattle.foyer_core_steps.specs.StateOf.{IsStateOf}
use Rattle.foyer_core_steps.specs.Unchanged.{IsUnchanged}
use Rattle.foyer_core_steps.specs.declared.reply.Reply.{Reply}
use Rattle.foyer_core_steps.specs.declared.reply.Reply.TheVariants as reply
use Rattle.foyer_core_flusher.specs.Settings.{Settings}
use Rattle.foyer_core_steps.specs.declared.state.Core.{Core}
use Rattle.foyer_core_steps.specs.declared.step.Step.{Step}
use Rattle.foyer_core_steps.proofs.StateLemmas.{unchanged_stands}

-- the count of steps hasn't ended
pub is_early : {K V P A : Type 0} (m : Meaning K V P) (s : Settings) (core : Core K V P A) (it : State Content)
    → IsStateOf m s core it → core.steps < 2 ^ 64 - 1 → it.steps < last_number
is_early m s core it stands few = let steps : it.steps ≡ core.steps = stands.steps in omega arith

pub same : {K V P A : Type 0} (core : Core K V P A) → IsUnchanged core core
same core = record {
  index = kept_itself core.index;
  next = refl;
  steps = refl;
  closed = refl;
  queued = refl;
  settings = refl;
  flushers = refl;
  manager = refl;
  reclaims = λ b. refl;
  destroy = refl;
}

module _ {K V P A : Type 0} (m : Meaning K V P) (s : Settings) (sound : AreValid s) (given : Step K V P A) (old new : Core K V P A) (it : State Content) where
  -- a step is refused for a cause
  pub refused : (why : ErrorKind) (k : model_reply.Kind) → kind_of why ≡ Some k → IsUnchanged old new → IsStateOf m s old it
      → MayRefuse (machine m s sound) (layout s) it k (step_of m given)
      → IsRefinedUncounted m s sound given (reply.Refused why given) new it
  refused why k is same stands cause = record {
    after = it;
    it = model_reply.Refused k (step_of m given);
    stands = unchanged_stands m s old new it same stands;
    reply = (k, is, refl);
    turns = (refl, cause, refl);
  }

  -- a step is out of turn
  pub not_now : IsUnchanged old new → IsStateOf m s old it
      → IsOutOfTurn (machine m s sound) (layout s) it (step_of m given)
      → IsRefinedUncounted m s sound given (reply.NotNow given) new it
  not_now same stands out = record {
    after = it;
    it = model_reply.NotNow (step_of m given);
    stands = unchanged_stands m s old new it same stands;
    reply = refl;
    turns = (refl, out, refl);
  }

-- the step that comes back is the one that was asked
pub comes_back : {K V P A : Type 0} (m : Meaning K V P) (s : Settings) (sound : AreValid s) (given back : Step K V P A) (why : ErrorKind) (new : Core K V P A) (it : State Content)
    → back ≡ given → IsRefinedUncounted m s sound given (reply.Refused why given) new it → IsRefinedUncounted m s sound given (reply.Refused why back) new it
comes_back m s sound given back why new it is turned = subst (λ b. IsRefinedUncounted m s sound given (reply.Refused why b) new it) (sym is) turned

pub comes_back_late : {K V P A : Type 0} (m : Meaning K V P) (s : Settings) (sound : AreValid s) (given back : Step K V P A) (new : Core K V P A) (it : State Content)
    → back ≡ given → IsRefinedUncounted m s sound given (reply.NotNow given) new it → IsRefinedUncounted m s sound given (reply.NotNow back) new it
comes_back_late m s sound given back new it is turned = subst (λ b. IsRefinedUncounted m s sound given (reply.NotNow b) new it) (sym is) turned

-- what holds for a step holds for the step that was asked, if the two are the same
pub brought : {K V P A : Type 0} (m : Meaning K V P) (s : Settings) (sound : AreValid s) (given is : Step K V P A) (answer : Reply K V P A) (new : Core K V P A) (it : State Content)
    → given ≡ is → IsRefinedUncounted m s sound is answer new it → IsRefinedUncounted m s sound given answer new it
brought m s sound given is answer new it same turned = subst (λ g. IsRefinedUncounted m s sound g answer new it) (sym same) turned

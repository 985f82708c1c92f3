-- A Close that isn't refused is done.
use Rattle.std.proofs.Common.{◌≡◌, ℕ, Bool, List, [], ◌∷◌, ◌++◌, Ok, sym, subst}
use Rattle.foyer_core_laws.specs.Content.{Content, Meaning}
use Rattle.foyer_core_laws.specs.CoreRules.{layout, machine}
use Rattle.foyer_core_model.specs.Follows.{Follows}
use Rattle.foyer_core_model.specs.Reply as model_reply
use Rattle.foyer_core_model.specs.Rules.{Rules, Splitting}
use Rattle.foyer_core_model.specs.State.{State}
use Rattle.foyer_core_model.specs.Step as model_step
use Rattle.foyer_core_model.specs.World.{WorldEvent, Applies}
use Rattle.foyer_core_steps.specs.Refines.{Refines}
use Rattle.foyer_core_steps.specs.Replied.{IsReply}
use Rattle.foyer_core_steps.specs.declared.reply.Reply.{Reply}
use Rattle.foyer_core_steps.specs.declared.reply.Reply.TheVariants as reply
use Rattle.foyer_core_steps.specs.declared.state.Core.{Core}
use Rattle.foyer_core_steps.specs.declared.step.Step.TheVariants as step
use Rattle.foyer_core_steps.proofs.RefinesLemmas.{IsOrdinary}
use Rattle.foyer_core_run.specs.Causes.{DrivesForCause}
use Rattle.foyer_core_run.specs.Waiting.{AllSteps, IsWaiting}
use Rattle.foyer_core_run.proofs.CauseLemmas.{cause_more}
use Rattle.foyer_core_run.proofs.ReplyLemmas.{ordinary}
use Rattle.foyer_core_run.proofs.WaitingLemmas.{all_join}
use Rattle.foyer_storage_local.specs.Closing.{HasClosed}
use Rattle.foyer_storage_local.specs.StepAnswers.{done_as}

abbrev IsRefusal : {C : Type 0} → model_reply.Reply C → Type 0
IsRefusal (model_reply.Refused kind back) = Unit {0}
IsRefusal it = ⊥

no_refusal : (it : model_reply.Reply Content) → IsOrdinary it → IsRefusal it → ⊥
no_refusal (model_reply.Refused kind back) is refused = is
no_refusal it is refused = refused

done : (rules : Rules Content) (Splits : Splitting Content) (old : State Content) (it : model_reply.Reply Content) (new : State Content) → (IsRefusal it → ⊥) → Follows rules Splits old model_step.Close it new → it ≡ model_reply.Done
done rules Splits old (model_reply.NotNow back) new none follows = absurd ((follows.1).2 tt)
done rules Splits old (model_reply.Refused kind back) new none follows = absurd (none tt)
done rules Splits old it new none follows = ((follows.2).1).0

closed_join : {C : Type 0} (one two : List (WorldEvent C)) → HasClosed one → AllSteps IsWaiting two → HasClosed (one ++ two)
closed_join [] two is others = absurd is
closed_join (Applies model_step.Close model_reply.Done after ∷ one) two is others = all_join IsWaiting one two is others
closed_join (event ∷ one) two is others = absurd is

module _ {K V P A : Type 0} (m : Meaning K V P) where
  unrefused : (last : Reply K V P A) (did : Bool) → done_as last ≡ Ok did → (it : model_reply.Reply Content) → IsReply m last it → IsRefusal it → ⊥
  unrefused (reply.Refused why back) did is it said = absurd cc
  unrefused (reply.NotNow back) did is it said = λ refused. subst IsRefusal said refused
  unrefused last did is it said = no_refusal it (ordinary m last it (λ back. absurd back) said)

  -- a Close that was answered without an error
  pub close_done : (came : ℕ → ℕ → ℕ → Type 0) (last : Reply K V P A) (did : Bool) (a b : Core K V P A) (bytes : ℕ → ℕ → ℕ) → done_as last ≡ Ok did
      → Refines m step.Close last a b → DrivesForCause came HasClosed m a b bytes bytes
  close_done came last did a b bytes is meets s sound w stands same =
      let met = meets s sound w.core stands in
      let closed = done (machine m s sound) (layout s) w.core met.it met.after (unrefused last did is met.it met.reply) met.follows in (
        record {
          events = Applies model_step.Close met.it met.after ∷ [];
          happened = ((tt, met.follows), tt);
          stands = met.stands;
          same = same;
        },
        subst (λ it. HasClosed (Applies model_step.Close it met.after ∷ [])) (sym closed) tt,
        (tt, tt),
      )

  -- and a wait behind it
  pub closed_before : (came : ℕ → ℕ → ℕ → Type 0) (a b c : Core K V P A) (x y z : ℕ → ℕ → ℕ) → DrivesForCause came HasClosed m a b x y → DrivesForCause came (AllSteps IsWaiting) m b c y z
      → DrivesForCause came HasClosed m a c x z
  closed_before came a b c x y z first then =
      cause_more m came came came (λ d o n is. is) (λ d o n is. is) HasClosed (AllSteps IsWaiting) HasClosed closed_join a b c x y z first then

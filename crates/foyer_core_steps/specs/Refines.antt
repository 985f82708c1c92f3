-- Steps of a core meet the model.
use Rattle.std.specs.Prelude.{◌≡◌, ◌<◌, ◌^◌, ◌-◌}
use Rattle.foyer_core_model.specs.Changes.{Changes}
use Rattle.foyer_core_model.specs.InTurn.{InTurn}
use Rattle.foyer_core_model.specs.Refusal.{MayRefuse}
use Rattle.foyer_core_model.specs.Reply as model_reply
use Rattle.foyer_core_model.specs.Rules.{Rules, Splitting}
use Rattle.foyer_core_model.specs.State.{State}
use Rattle.foyer_core_model.specs.Step as model_step
use Rattle.foyer_core_model.specs.Follows.{IsOutOfTurn, Follows}
use Rattle.foyer_core_model.specs.Index.{without}
use Rattle.foyer_core_model.specs.Numbers.{put}
use Rattle.foyer_core_flusher.specs.Addresses.{address_of}
use Rattle.foyer_core_steps.specs.Asked.{step_of}
use Rattle.foyer_core_flusher.specs.Content.{Content, Meaning}
use Rattle.foyer_core_steps.specs.Replied.{IsReply}
use Rattle.foyer_core_flusher.specs.CoreRules.{layout, machine}
use Rattle.foyer_core_flusher.specs.Sizes.{AreValid}
use Rattle.foyer_core_steps.specs.StateOf.{IsStateOf}
use Rattle.foyer_core_steps.specs.declared.reply.Reply.{Reply}
use Rattle.foyer_core_steps.specs.declared.reply.Reply.TheVariants as reply
use Rattle.foyer_core_flusher.specs.Settings.{Settings}
use Rattle.foyer_core_steps.specs.declared.state.Core.{Core}
use Rattle.foyer_core_steps.specs.declared.step.Step.{Step}
use Rattle.foyer_core_steps.specs.declared.step.Ticket.{Ticket}

-- the step comes back, out of turn or refused
abbrev pub IsHandedBack : {K V P A : Type 0} → Reply K V P A → Type 0
IsHandedBack (reply.NotNow back) = Unit {0}
IsHandedBack (reply.Refused why back) = Unit {0}
IsHandedBack answer = ⊥

-- The relation of the model, except for the count of steps.
abbrev pub FollowsUncounted : {C : Type 0} → Rules C → Splitting C → State C → model_step.Step C → model_reply.Reply C → State C → Type 0
FollowsUncounted rules Splits old given (model_reply.NotNow back) new = (back ≡ given) × IsOutOfTurn rules Splits old given × (new ≡ old)
FollowsUncounted rules Splits old given (model_reply.Refused kind back) new = (back ≡ given) × MayRefuse rules Splits old kind given × (new ≡ old)
FollowsUncounted rules Splits old given answer new = InTurn rules old given × Changes rules Splits old given answer new

-- the very address of a ticket leaves the index
abbrev pub missed : State Content → Ticket → State Content
missed it ticket = record it { index = put it.index ticket.hash (without (address_of ticket.address) (it.index ticket.hash)) }

-- what a step, except for its count, makes of a state of the model that the core stands for
pub record IsRefinedUncounted {K V P A : Type 0} (m : Meaning K V P) (s : Settings) (sound : AreValid s) (given : Step K V P A) (answer : Reply K V P A) (new : Core K V P A) (old : State Content) : Type 0 where
  pub after : State Content
  pub it : model_reply.Reply Content
  pub stands : IsStateOf m s new after
  pub reply : IsReply m answer it
  pub turns : FollowsUncounted (machine m s sound) (layout s) old (step_of m given) it after

abbrev pub RefinesUncounted : {K V P A : Type 0} → Meaning K V P → Step K V P A → Reply K V P A → Core K V P A → Core K V P A → Type 0
RefinesUncounted m given answer old new =
    (s : Settings) (sound : AreValid s) (it : State Content) → IsStateOf m s old it → old.steps < 2 ^ 64 - 1
    → IsRefinedUncounted m s sound given answer new it

-- what a step makes of a state of the model that the core stands for
pub record IsRefined {K V P A : Type 0} (m : Meaning K V P) (s : Settings) (sound : AreValid s) (given : Step K V P A) (answer : Reply K V P A) (new : Core K V P A) (old : State Content) : Type 0 where
  pub after : State Content
  pub it : model_reply.Reply Content
  pub stands : IsStateOf m s new after
  pub reply : IsReply m answer it
  pub follows : Follows (machine m s sound) (layout s) old (step_of m given) it after

-- From each state of the model that a core stands for the machine of its sizes and codes makes this step, with this reply, to
-- one that the core stands for afterwards.
abbrev pub Refines : {K V P A : Type 0} → Meaning K V P → Step K V P A → Reply K V P A → Core K V P A → Core K V P A → Type 0
Refines m given answer old new =
    (s : Settings) (sound : AreValid s) (it : State Content) → IsStateOf m s old it → IsRefined m s sound given answer new it

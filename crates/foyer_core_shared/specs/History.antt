-- Histories: what the steps of a core, one after the other, lead to.
use Rattle.std.specs.Prelude.{◌≡◌, ℕ, List, [], ◌∷◌}
use Rattle.foyer_core_steps.specs.Asked.{step_of}
use Rattle.foyer_core_steps.specs.Replied.{IsReply}
use Rattle.foyer_core_steps.specs.StateOf.{IsStateOf}
use Rattle.foyer_core_steps.specs.declared.reply.Reply.{Reply}
use Rattle.foyer_core_steps.specs.declared.state.Core.{Core}
use Rattle.foyer_core_steps.specs.declared.step.Step.{Step}
use Rattle.foyer_core_model.specs.Follows.{Follows}
use Rattle.foyer_core_model.specs.Reply as model_reply
use Rattle.foyer_core_model.specs.State.{State}
use Rattle.foyer_block_recover.specs.Opening.{Opened}
use Rattle.foyer_block_recover.specs.Placed.{IsOpening}
use Rattle.foyer_block_recover.specs.Recovery.{IsRecovered}
use Rattle.foyer_block_recover.specs.declared.block.recover.RecoverMode.{RecoverMode}
use Rattle.foyer_core_steps.specs.Begins.{opened_state}
use Rattle.foyer_core_steps.specs.Content.{Content, Meaning}
use Rattle.foyer_core_steps.specs.CoreRules.{layout, machine}
use Rattle.foyer_core_steps.specs.Sizes.{AreValid, sizes_in}
use Rattle.foyer_core_steps.specs.Settings.{Settings}

-- a step with its contents, and its reply
pub record Made (K V P A : Type 0) : Type 0 where
  pub step : Step K V P A
  pub reply : Reply K V P A

-- From one state of the model the machine makes these steps, with these replies, and comes to the other.
abbrev pub LeadsTo : {K V P A : Type 0} → Meaning K V P → (s : Settings) → AreValid s → State Content → List (Made K V P A) → State Content → Type 0
LeadsTo m s sound old [] new = new ≡ old
LeadsTo m s sound old (x ∷ xs) new =
    (middle : State Content) × (it : model_reply.Reply Content) × IsReply m x.reply it
    × Follows (machine m s sound) (layout s) old (step_of m x.step) it middle × LeadsTo m s sound middle xs new

-- From what some opening found, these steps with these replies lead to a state that the core stands for.
pub record IsLegal {K V P A : Type 0} (m : Meaning K V P) (run : List (Made K V P A)) (core : Core K V P A) : Type 0 where
  pub settings : Settings
  pub sound : AreValid settings
  pub marks : List (ℕ × ℕ)
  pub found : Opened
  pub state : State Content
  pub opening : IsOpening (sizes_in settings) settings.blocks marks found
  pub led : LeadsTo m settings sound (opened_state (machine m settings sound) found) run state
  pub stands : IsStateOf m settings core state

-- Both histories begin with the same settings, the same marks, and what the same opening found.
pub record BeginAlike {K V P A : Type 0} (m : Meaning K V P) (run longer : List (Made K V P A)) (old new : Core K V P A) (before : IsLegal m run old) (after : IsLegal m longer new) : Type 0 where
  pub settings : after.settings ≡ before.settings
  pub marks : after.marks ≡ before.marks
  pub found : after.found ≡ before.found

-- The empty history begins with this very opening. It has the opening's settings and marks. If the opening's bytes are
-- seen, it has what they gave.
pub record BeginsWith {K V P A : Type 0} (m : Meaning K V P) (settings : Settings) (bytes : ℕ → ℕ → ℕ) (surely_has : ℕ → ℕ → ℕ → Type 0) (mode : RecoverMode) (marks : List (ℕ × ℕ)) (is_seen : Type 0) (core : Core K V P A) : Type 0 where
  pub first : IsLegal {A = A} m [] core
  pub sizes : first.settings ≡ settings
  pub deleted : first.marks ≡ marks
  pub recovered : is_seen → IsRecovered (sizes_in settings) settings.blocks bytes surely_has mode marks first.found

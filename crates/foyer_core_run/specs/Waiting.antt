-- What the steps of a drive may be: of a wait, and of a close.
use Rattle.std.specs.Prelude.{◌≡◌, ℕ, List, [], ◌∷◌}
use Rattle.foyer_core_model.specs.Step as model_step
use Rattle.foyer_core_model.specs.World.{World, WorldEvent, Applies}
use Rattle.foyer_core_laws.specs.Content.{Content, Meaning}
use Rattle.foyer_core_laws.specs.Sizes.{AreValid}
use Rattle.foyer_core_steps.specs.StateOf.{IsStateOf}
use Rattle.foyer_core_laws.specs.Settings.{Settings}
use Rattle.foyer_core_steps.specs.declared.state.Core.{Core}
use Rattle.foyer_core_run.specs.Driven.{IsDriven}

-- every step among these events is of this kind
abbrev pub AllSteps : {C : Type 0} → (model_step.Step C → Type 0) → List (WorldEvent C) → Type 0
AllSteps Is [] = Unit {0}
AllSteps Is (Applies step reply after ∷ events) = Is step × AllSteps Is events
AllSteps Is (event ∷ events) = AllSteps Is events

-- a step that a wait makes: it neither puts, deletes nor loads, and neither destroys nor closes
abbrev pub IsWaiting : {C : Type 0} → model_step.Step C → Type 0
IsWaiting (model_step.Wait flusher id) = Unit {0}
IsWaiting (model_step.Receive flusher) = Unit {0}
IsWaiting (model_step.FlushBegin flusher) = Unit {0}
IsWaiting (model_step.FlushBlock flusher) = Unit {0}
IsWaiting (model_step.FlushWrote flusher is_ok) = Unit {0}
IsWaiting (model_step.LogWrote flusher is_ok) = Unit {0}
IsWaiting (model_step.FlushEnd flusher) = Unit {0}
IsWaiting model_step.ReclaimBegin = Unit {0}
IsWaiting (model_step.ReclaimRead block came) = Unit {0}
IsWaiting (model_step.ReclaimForget block) = Unit {0}
IsWaiting (model_step.ReclaimCleaned block is_ok) = Unit {0}
IsWaiting model_step.ReclaimIdle = Unit {0}
IsWaiting step = ⊥

-- a Close comes first, then the steps of a wait
abbrev pub IsClosing : {C : Type 0} → List (WorldEvent C) → Type 0
IsClosing (Applies model_step.Close reply after ∷ events) = AllSteps IsWaiting events
IsClosing events = ⊥

-- From each world whose core and bytes are those before, by events of this kind.
abbrev pub DrivesBy : {K V P A : Type 0} → (List (WorldEvent Content) → Type 0) → Meaning K V P → Core K V P A → Core K V P A → (ℕ → ℕ → ℕ) → (ℕ → ℕ → ℕ) → Type 0
DrivesBy Are m old new old_bytes new_bytes =
    (s : Settings) (sound : AreValid s) (w : World Content) → IsStateOf m s old w.core → ((b o : ℕ) → w.bytes b o ≡ old_bytes b o)
    → (driven : IsDriven m s sound w new new_bytes) × Are driven.events

-- a wait's steps alone
abbrev pub Waits : {K V P A : Type 0} → Meaning K V P → Core K V P A → Core K V P A → (ℕ → ℕ → ℕ) → (ℕ → ℕ → ℕ) → Type 0
Waits m old new old_bytes new_bytes = DrivesBy (AllSteps IsWaiting) m old new old_bytes new_bytes

-- a Close, and a wait's steps
abbrev pub Closes : {K V P A : Type 0} → Meaning K V P → Core K V P A → Core K V P A → (ℕ → ℕ → ℕ) → (ℕ → ℕ → ℕ) → Type 0
Closes m old new old_bytes new_bytes = DrivesBy IsClosing m old new old_bytes new_bytes

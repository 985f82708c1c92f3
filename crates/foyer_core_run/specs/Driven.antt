-- What a core and its disk's bytes are driven to.
use Rattle.std.specs.Prelude.{◌≡◌, ℕ, List}
use Rattle.foyer_core_model.specs.World.{World, WorldEvent, MayAllHappen, after_all}
use Rattle.foyer_core_laws.specs.Content.{Content, Meaning}
use Rattle.foyer_core_laws.specs.CoreRules.{layout}
use Rattle.foyer_core_laws.specs.CoreRules.{machine}
use Rattle.foyer_core_laws.specs.CoreRules.{IsEncoded}
use Rattle.foyer_core_laws.specs.Sizes.{AreValid}
use Rattle.foyer_core_steps.specs.StateOf.{IsStateOf}
use Rattle.foyer_core_laws.specs.Settings.{Settings}
use Rattle.foyer_core_steps.specs.declared.state.Core.{Core}

-- events that may happen from this world on lead to a world whose core and bytes these are
pub record IsDriven {K V P A : Type 0} (m : Meaning K V P) (s : Settings) (sound : AreValid s) (w : World Content) (core : Core K V P A) (bytes : ℕ → ℕ → ℕ) : Type 0 where
  pub events : List (WorldEvent Content)
  pub happened : MayAllHappen (machine m s sound) (layout s) (IsEncoded m.is_key m.is_value) w events
  pub stands : IsStateOf m s core (after_all (machine m s sound) w events).core
  pub same : (b o : ℕ) → (after_all (machine m s sound) w events).bytes b o ≡ bytes b o

-- from each world whose core and bytes are those before
abbrev pub Drives : {K V P A : Type 0} → Meaning K V P → Core K V P A → Core K V P A → (ℕ → ℕ → ℕ) → (ℕ → ℕ → ℕ) → Type 0
Drives m old new old_bytes new_bytes =
    (s : Settings) (sound : AreValid s) (w : World Content) → IsStateOf m s old w.core → ((b o : ℕ) → w.bytes b o ≡ old_bytes b o)
    → IsDriven m s sound w new new_bytes

-- A run of moves is a run of the world.
use Rattle.std.specs.Prelude.{◌≡◌, ℕ, Bool, List, ◌++◌}
use Rattle.foyer_core_model.specs.World.{World, WorldEvent, MayAllHappen, after_all}
use Rattle.foyer_core_laws.specs.Content.{Content, Meaning}
use Rattle.foyer_core_laws.specs.CoreRules.{layout}
use Rattle.foyer_core_laws.specs.CoreRules.{machine}
use Rattle.foyer_core_laws.specs.CoreRules.{IsEncoded}
use Rattle.foyer_core_laws.specs.Sizes.{AreValid}
use Rattle.foyer_core_steps.specs.StateOf.{IsStateOf}
use Rattle.foyer_core_steps.specs.declared.reply.Reply.{Reply}
use Rattle.foyer_core_laws.specs.Settings.{Settings}
use Rattle.foyer_core_steps.specs.declared.state.Core.{Core}
use Rattle.foyer_core_run.specs.Causes.{AreForCause, has_fault}
use Rattle.foyer_core_run.specs.Moves.{AreMade}
use Rattle.foyer_core_run.specs.declared.moves.Move.{Move}

-- Events that may happen from this world on, which these moves name and whose replies these are: they lead to a world
-- whose core and bytes these are.
pub record IsRun {K V P A : Type 0} (m : Meaning K V P) (s : Settings) (sound : AreValid s) (w : World Content) (moves : List (Move K V P A)) (said : List (Reply K V P A)) (core : Core K V P A) (bytes : ℕ → ℕ → ℕ) : Type 0 where
  pub events : List (WorldEvent Content)
  pub happened : MayAllHappen (machine m s sound) (layout s) (IsEncoded m.is_key m.is_value) w events
  pub made : AreMade m s sound w w moves events said
  pub stands : IsStateOf m s core (after_all (machine m s sound) w events).core
  pub same : (b o : ℕ) → (after_all (machine m s sound) w events).bytes b o ≡ bytes b o

-- The same, whether an access of them failed or not; one that did has a cause.
pub record IsRunNoted {K V P A : Type 0} (m : Meaning K V P) (s : Settings) (sound : AreValid s) (came : ℕ → ℕ → ℕ → Type 0) (failed : Bool) (w : World Content) (moves : List (Move K V P A)) (said : List (Reply K V P A)) (core : Core K V P A) (bytes : ℕ → ℕ → ℕ) : Type 0 where
  pub run : IsRun m s sound w moves said core bytes
  pub causes : AreForCause came (machine m s sound) w run.events
  pub faults : has_fault run.events ≡ failed

-- From each world whose core and bytes are those before.
abbrev pub Runs : {K V P A : Type 0} → Meaning K V P → List (Move K V P A) → List (Reply K V P A) → Core K V P A → Core K V P A → (ℕ → ℕ → ℕ) → (ℕ → ℕ → ℕ) → Type 0
Runs m moves said old new old_bytes new_bytes =
    (s : Settings) (sound : AreValid s) (w : World Content) → IsStateOf m s old w.core → ((b o : ℕ) → w.bytes b o ≡ old_bytes b o)
    → IsRun m s sound w moves said new new_bytes

-- The same, whether an access failed or not; one that did has a cause.
abbrev pub RunsNoted : {K V P A : Type 0} → (came : ℕ → ℕ → ℕ → Type 0) (failed : Bool) → Meaning K V P → List (Move K V P A) → List (Reply K V P A) → Core K V P A → Core K V P A → (ℕ → ℕ → ℕ) → (ℕ → ℕ → ℕ) → Type 0
RunsNoted came failed m moves said old new old_bytes new_bytes =
    (s : Settings) (sound : AreValid s) (w : World Content) → IsStateOf m s old w.core → ((b o : ℕ) → w.bytes b o ≡ old_bytes b o)
    → IsRunNoted m s sound came failed w moves said new new_bytes

-- The same, each access of which that failed has a cause.
abbrev pub RunsForCause : {K V P A : Type 0} → (came : ℕ → ℕ → ℕ → Type 0) → Meaning K V P → List (Move K V P A) → List (Reply K V P A) → Core K V P A → Core K V P A → (ℕ → ℕ → ℕ) → (ℕ → ℕ → ℕ) → Type 0
RunsForCause came m moves said old new old_bytes new_bytes =
    (s : Settings) (sound : AreValid s) (w : World Content) → IsStateOf m s old w.core → ((b o : ℕ) → w.bytes b o ≡ old_bytes b o)
    → (run : IsRun m s sound w moves said new new_bytes) × AreForCause came (machine m s sound) w run.events

-- a front of these moves was run
pub record IsFront {K V P A : Type 0} (m : Meaning K V P) (moves : List (Move K V P A)) (old new : Core K V P A) (old_bytes new_bytes : ℕ → ℕ → ℕ) : Type 0 where
  pub front : List (Move K V P A)
  pub rest : List (Move K V P A)
  pub said : List (Reply K V P A)
  pub is : moves ≡ front ++ rest
  pub runs : Runs m front said old new old_bytes new_bytes

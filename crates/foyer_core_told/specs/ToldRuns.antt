-- Runs of the world that a history tells.
use Rattle.std.specs.Prelude.{◌≡◌, ◌⊎◌, ℕ, List, [], ◌∷◌}
use Rattle.foyer_core_model.specs.Opened.{IsOpened}
use Rattle.foyer_core_model.specs.World.{World, MayAllHappen}
use Rattle.foyer_core_rights.specs.Deeds as deeds
use Rattle.foyer_core_rights.specs.Deeds.{Deed, events_in, after_deed}
use Rattle.foyer_core_laws.specs.Content.{Content, Meaning}
use Rattle.foyer_core_laws.specs.CoreRules.{layout, machine, IsEncoded}
use Rattle.foyer_core_laws.specs.Sizes.{AreValid}
use Rattle.foyer_core_laws.specs.Settings.{Settings}
use Rattle.foyer_core_steps.specs.Asked.{step_of, came_of}
use Rattle.foyer_core_steps.specs.Replied.{IsReply}
use Rattle.foyer_core_steps.specs.StateOf.{IsStateOf}
use Rattle.foyer_core_steps.specs.declared.state.Core.{Core}
use Rattle.foyer_core_told.specs.declared.event.Told.{Told}
use Rattle.foyer_core_told.specs.declared.event.Told.TheVariants as told

module _ {K V P A D : Type 0} (m : Meaning K V P) (s : Settings) (sound : AreValid s) (byte_at : D → ℕ → ℕ → ℕ) where
  -- the event tells that an opening left this world
  abbrev pub Opens : Told K V P A D → World Content → Type 0
  Opens (told.Opened core disk) w = IsOpened (machine m s sound) w × IsStateOf m s core.value w.core × (w.bytes ≡ byte_at disk.value)
  Opens event w = ⊥

  -- in this world, the event tells of this deed
  abbrev pub Tells : World Content → Told K V P A D → Deed Content → Type 0
  Tells w (told.Steps step reply core) (deeds.Steps it answer new) = (it ≡ step_of m step.value) × IsReply m reply.value answer × IsStateOf m s core.value new
  Tells w (told.Reads number outcome) (deeds.ReadsAt n result) = (n ≡ number) × (result ≡ came_of outcome.value)
  Tells w (told.Scans block outcome) (deeds.ScansAt b result) = (b ≡ block) × (result ≡ came_of outcome.value)
  Tells w (told.Writes flusher is_ok disk) (deeds.WritesAt f ok torn) = (f ≡ flusher) × (ok ≡ is_ok) × ((after_deed (machine m s sound) w (deeds.WritesAt f ok torn)).bytes ≡ byte_at disk.value)
  Tells w (told.Cleans block is_ok disk) (deeds.CleansAt b ok torn) = (b ≡ block) × (ok ≡ is_ok) × ((after_deed (machine m s sound) w (deeds.CleansAt b ok torn)).bytes ≡ byte_at disk.value)
  Tells w event deed = ⊥

  -- from one world to another by deeds that may happen, of which these events tell
  abbrev pub LeadsTo : World Content → List (Told K V P A D) → World Content → Type 0
  LeadsTo w [] u = u ≡ w
  LeadsTo w (e ∷ es) u =
      (d : Deed Content) × Tells w e d × MayAllHappen (machine m s sound) (layout s) (IsEncoded m.is_key m.is_value) w (events_in d)
      × LeadsTo (after_deed (machine m s sound) w d) es u

  -- A run of the world to this one, which the history tells: its first event is the opening.
  abbrev pub IsRun : List (Told K V P A D) → World Content → Type 0
  IsRun [] u = ⊥
  IsRun (e ∷ es) u = (first : World Content) × Opens e first × LeadsTo first es u

  -- some run is told
  abbrev pub HasRun : List (Told K V P A D) → Type 0
  HasRun log = (u : World Content) × IsRun log u

  -- whatever run is told, the core stands for the state that it leads to
  abbrev pub IsCoreAt : List (Told K V P A D) → Core K V P A → Type 0
  IsCoreAt log core = (u : World Content) → IsRun log u → IsStateOf m s core u.core

  -- and the bytes are those of the disk
  abbrev pub IsDiskAt : List (Told K V P A D) → D → Type 0
  IsDiskAt log disk = (u : World Content) → IsRun log u → u.bytes ≡ byte_at disk

-- what holds of the history at any time: nothing is told yet, or some run of a core of some sizes
abbrev pub IsTold : {K V P A D : Type 0} → Meaning K V P → (D → ℕ → ℕ → ℕ) → List (Told K V P A D) → Type 0
IsTold m byte_at log = (log ≡ []) ⊎ ((s : Settings) × (sound : AreValid s) × HasRun m s sound byte_at log)

-- something is told, and this is so in whatever run is told, of a core of whatever sizes
abbrev pub Knows : {K V P A D : Type 0} → Meaning K V P → (D → ℕ → ℕ → ℕ) → List (Told K V P A D) → (Settings → World Content → Type 0) → Type 0
Knows m byte_at log IsSo = (log ≡ [] → ⊥) × ((s : Settings) (sound : AreValid s) (u : World Content) → IsRun m s sound byte_at log u → IsSo s u)

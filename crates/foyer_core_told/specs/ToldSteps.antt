-- How the opening and each step of a locked core are told, and what an event leaves.
use Rattle.std.specs.Prelude.{◌≡◌, ℕ, Bool, true, false, List, [], ◌∷◌, ◌++◌}
use Rattle.foyer_block_recover.specs.Opening.{Opened}
use Rattle.foyer_block_recover.specs.Placed.{IsOpening}
use Rattle.foyer_core_model.specs.World.{World, IsFed}
use Rattle.foyer_core_laws.specs.Content.{Content, Meaning}
use Rattle.foyer_core_laws.specs.CoreRules.{layout, machine, IsEncoded}
use Rattle.foyer_core_laws.specs.Sizes.{AreValid, sizes_in}
use Rattle.foyer_core_laws.specs.Settings.{Settings}
use Rattle.foyer_core_steps.specs.Asked.{step_of}
use Rattle.foyer_core_steps.specs.Opened.{IsOpened}
use Rattle.foyer_core_steps.specs.Refines.{Refines}
use Rattle.foyer_core_steps.specs.declared.state.Core.{Core}
use Rattle.foyer_core_told.specs.declared.event.Told.{Told}
use Rattle.foyer_core_told.specs.declared.event.Told.TheVariants as told
use Rattle.foyer_core_told.specs.ToldRuns.{IsRun, HasRun, IsCoreAt, IsDiskAt}

-- the event is the opening of this core over this disk
abbrev pub IsOpeningOf : {K V P A D : Type 0} → Core K V P A → D → Told K V P A D → Type 0
IsOpeningOf core disk (told.Opened opened over) = (opened.value ≡ core) × (over.value ≡ disk)
IsOpeningOf core disk event = ⊥

-- Whatever an opening found, with some marks, over any bytes: a history begins with it.
abbrev pub OpeningIsTold : (K V P A D : Type 0) → Type 0
OpeningIsTold K V P A D =
    (m : Meaning K V P) (s : Settings) (sound : AreValid s) (byte_at : D → ℕ → ℕ → ℕ) (marks : List (ℕ × ℕ)) (o : Opened) (core : Core K V P A) (disk : D) (e : Told K V P A D)
    → IsOpening (sizes_in s) s.blocks marks o → IsOpened s o core → IsOpeningOf core disk e → HasRun m s sound byte_at (e ∷ [])

-- it is an access of the disk
abbrev pub is_access : {K V P A D : Type 0} → Told K V P A D → Bool
is_access (told.Opened core disk) = false
is_access (told.Steps step reply core) = false
is_access event = true

abbrev pub AreAccesses : {K V P A D : Type 0} → List (Told K V P A D) → Type 0
AreAccesses [] = Unit {0}
AreAccesses (e ∷ es) = (is_access e ≡ true) × AreAccesses es

-- the event is a step of this core, as the core does it
abbrev pub IsStepOf : {K V P A D : Type 0} → Meaning K V P → Core K V P A → Told K V P A D → Type 0
IsStepOf m old (told.Steps step reply core) = Refines m step.value reply.value old core.value
IsStepOf m old event = ⊥

-- what the step brings has come in this world
abbrev pub IsFedTo : {K V P A D : Type 0} → Meaning K V P → (s : Settings) → AreValid s → World Content → Told K V P A D → Type 0
IsFedTo m s sound u (told.Steps step reply core) = IsFed (machine m s sound) (layout s) (IsEncoded m.is_key m.is_value) u (step_of m step.value)
IsFedTo m s sound u event = ⊥

-- A core stood for what a history tells, and since then only accesses were told. Then the core's next step goes on with whatever
-- run is told, if what the step brings has come in each such run.
abbrev pub StepGoesOn : (K V P A D : Type 0) → Type 0
StepGoesOn K V P A D =
    (m : Meaning K V P) (s : Settings) (sound : AreValid s) (byte_at : D → ℕ → ℕ → ℕ) (seen since : List (Told K V P A D)) (old : Core K V P A) (e : Told K V P A D)
    → IsCoreAt m s sound byte_at seen old → AreAccesses since → IsStepOf m old e
    → ((u : World Content) → IsRun m s sound byte_at (seen ++ since) u → IsFedTo m s sound u e)
    → HasRun m s sound byte_at (seen ++ since)
    → HasRun m s sound byte_at ((seen ++ since) ++ e ∷ [])

-- the core that an event left
abbrev pub IsLeft : {K V P A D : Type 0} → Told K V P A D → Core K V P A → Type 0
IsLeft (told.Opened left disk) core = left.value ≡ core
IsLeft (told.Steps step reply left) core = left.value ≡ core
IsLeft event core = ⊥

-- then the new core stands for the state that each run leads to
abbrev pub LeavesCore : (K V P A D : Type 0) → Type 0
LeavesCore K V P A D =
    (m : Meaning K V P) (s : Settings) (sound : AreValid s) (byte_at : D → ℕ → ℕ → ℕ) (log : List (Told K V P A D)) (e : Told K V P A D) (core : Core K V P A)
    → IsLeft e core → IsCoreAt m s sound byte_at (log ++ e ∷ []) core

-- the disk that an event left
abbrev pub IsDiskLeft : {K V P A D : Type 0} → Told K V P A D → D → Type 0
IsDiskLeft (told.Opened core left) disk = left.value ≡ disk
IsDiskLeft (told.Writes flusher is_ok left) disk = left.value ≡ disk
IsDiskLeft (told.Cleans block is_ok left) disk = left.value ≡ disk
IsDiskLeft event disk = ⊥

-- then in whatever run is told, the bytes are those of the disk
abbrev pub LeavesDisk : (K V P A D : Type 0) → Type 0
LeavesDisk K V P A D =
    (m : Meaning K V P) (s : Settings) (sound : AreValid s) (byte_at : D → ℕ → ℕ → ℕ) (log : List (Told K V P A D)) (e : Told K V P A D) (disk : D)
    → IsDiskLeft e disk → IsDiskAt m s sound byte_at (log ++ e ∷ []) disk

-- Accesses of a run that failed, and for which cause.
use Rattle.std.specs.Prelude.{◌≡◌, ℕ, Bool, true, false, not, ◌||◌, List, [], ◌∷◌, length, Option, Some, None}
use Rattle.foyer_io_disk.specs.Disk.{HasFailedNone}
use Rattle.foyer_core_model.specs.Access.{BlockWrites, InFlight, Load}
use Rattle.foyer_core_model.specs.Numbers.{page}
use Rattle.foyer_core_model.specs.Rules.{Rules}
use Rattle.foyer_core_model.specs.Step.{ReadResult, Bytes, Fault}
use Rattle.foyer_core_model.specs.World.{World, WorldEvent, ReadEnds, ScanEnds, WriteEnds, CleanEnds, after}
use Rattle.foyer_core_laws.specs.Content.{Content, Meaning}
use Rattle.foyer_core_laws.specs.CoreRules.{machine}
use Rattle.foyer_core_laws.specs.Sizes.{AreValid}
use Rattle.foyer_core_laws.specs.Settings.{Settings}
use Rattle.foyer_core_steps.specs.StateOf.{IsStateOf}
use Rattle.foyer_core_steps.specs.declared.state.Core.{Core}
use Rattle.foyer_core_run.specs.Driven.{IsDriven}

-- An access of these bytes surely came: they surely lie in the disk, and it failed no access between these two.
abbrev pub HasCome : {D : Type 0} → (lies : D → ℕ → ℕ → ℕ → Type 0) → (faults : D → ℕ) → (old new : D) → (block offset len : ℕ) → Type 0
HasCome lies faults old new block offset len = HasFailedNone (faults old) (faults new) × lies old block offset len

-- of every access it is sure
abbrev pub HasComeAnywhere : (block offset len : ℕ) → Type 0
HasComeAnywhere block offset len = Unit {0}

-- The write that is under way surely came, too. If none is under way, none can fail.
abbrev pub HasWriteCome : (ℕ → ℕ → ℕ → Type 0) → BlockWrites → Type 0
HasWriteCome came (InFlight b results x ws) = came b x.offset (length x.bytes)
HasWriteCome came pending = Unit {0}

-- and the read of a load
abbrev pub HasReadCome : {C : Type 0} → (ℕ → ℕ → ℕ → Type 0) → Option (Load C) → Type 0
HasReadCome came None = Unit {0}
HasReadCome came (Some l) = came l.ticket.address.block l.ticket.address.offset l.ticket.address.len

module _ {C : Type 0} (came : ℕ → ℕ → ℕ → Type 0) (rules : Rules C) where
  -- A write, a clean or the read of a load that failed isn't one of which it is sure that it came. Of a reclaim's read
  -- nothing is said: it fails for memory too.
  abbrev pub IsForCause : World C → WorldEvent C → Type 0
  IsForCause w (ReadEnds n result) = result ≡ Fault → HasReadCome came (w.loads n) → ⊥
  IsForCause w (WriteEnds f ok torn) = ok ≡ false → HasWriteCome came (w.block_writes f) → ⊥
  IsForCause w (CleanEnds b ok torn) = ok ≡ false → came b 0 page → ⊥
  IsForCause w event = Unit {0}

  -- nor is any of these events, one after the other
  abbrev pub AreForCause : World C → List (WorldEvent C) → Type 0
  AreForCause w [] = Unit {0}
  AreForCause w (event ∷ events) = IsForCause w event × AreForCause (after rules w event) events

-- From each world whose core and bytes are those before, by events of this kind, whose accesses fail for cause alone.
abbrev pub DrivesForCause : {K V P A : Type 0} → (came : ℕ → ℕ → ℕ → Type 0) → (List (WorldEvent Content) → Type 0) → Meaning K V P → (old new : Core K V P A) → (old_bytes new_bytes : ℕ → ℕ → ℕ) → Type 0
DrivesForCause came Are m old new old_bytes new_bytes =
    (s : Settings) (sound : AreValid s) (w : World Content) → IsStateOf m s old w.core → ((b o : ℕ) → w.bytes b o ≡ old_bytes b o)
    → (driven : IsDriven m s sound w new new_bytes) × Are driven.events × AreForCause came (machine m s sound) w driven.events

-- whether a read's outcome is a fault
abbrev pub is_fault : ReadResult → Bool
is_fault (Bytes bs) = false
is_fault Fault = true

-- whether one of the accesses failed
abbrev pub has_fault : {C : Type 0} → List (WorldEvent C) → Bool
has_fault [] = false
has_fault (ReadEnds n result ∷ events) = is_fault result || has_fault events
has_fault (ScanEnds b result ∷ events) = is_fault result || has_fault events
has_fault (WriteEnds f ok torn ∷ events) = not ok || has_fault events
has_fault (CleanEnds b ok torn ∷ events) = not ok || has_fault events
has_fault (event ∷ events) = has_fault events

-- What a core has that was opened on the bytes that a run of one left.
use Rattle.std.specs.Prelude.{◌≡◌, ℕ, ◌+◌, ◌<◌, ◌≤◌, Bool, List, [], Option, Some, ◌⊎◌}
use Rattle.std.specs.FinMap as finite
use Rattle.foyer_core_steps.specs.Opened.{IsOpenedFrom}
use Rattle.foyer_core_steps.specs.declared.state.Core.{Core}
use Rattle.foyer_core_model.specs.Event.{newest}
use Rattle.foyer_core_model.specs.Opened.{IsOpened}
use Rattle.foyer_core_model.specs.Record.{Address, Slot, Indexed}
use Rattle.foyer_core_model.specs.World.{World}
use Rattle.foyer_block_recover.specs.Opening.{Opened}
use Rattle.foyer_block_recover.specs.Recovery.{held_slot}
use Rattle.foyer_block_recover.specs.declared.block.recover.RecoverMode.{RecoverMode}
use Rattle.foyer_block_recover.specs.declared.block.recover.RecoverMode.TheVariants as recover_mode
use Rattle.foyer_core_flusher.specs.Restart.{IsRun, IsStopped, HasNoStrays, IsWhole}
use Rattle.foyer_core_flusher.specs.Begins.{opened_world}
use Rattle.foyer_core_flusher.specs.Content.{Content}
use Rattle.foyer_core_flusher.specs.CoreRules.{rules_of, layout, IsEncoded}
use Rattle.foyer_core_flusher.specs.Sizes.{AreValid}
use Rattle.foyer_core_flusher.specs.Settings.{Settings}

-- it is sure of each place at which an index has room
abbrev pub HasPlaces : Settings → (ℕ → ℕ → ℕ → Type 0) → Type 0
HasPlaces s surely_has = (b p : ℕ) → b < s.blocks → p + s.blob_index_size ≤ s.block_size → surely_has b p s.blob_index_size

-- Blocks are read, and no failed read is passed over: it is strict, or it is sure that each read of an index came.
abbrev pub ReadsAll : Settings → (ℕ → ℕ → ℕ → Type 0) → RecoverMode → Type 0
ReadsAll s surely_has recover_mode.None = ⊥
ReadsAll s surely_has recover_mode.Quiet = HasPlaces s surely_has
ReadsAll s surely_has recover_mode.Strict = Unit {0}

-- A run of a core was stopped in this world and left these bytes, which contracts see, and a core of the same sizes was
-- opened on them, without marks of deletes.
pub record IsReopened {K V P A : Type 0} (is_key is_value : List ℕ → Bool) (s : Settings) (sound : AreValid s)
    (w : World Content) (bytes : ℕ → ℕ → ℕ) (surely_has : ℕ → ℕ → ℕ → Type 0) (is_known : Type 0) (mode : RecoverMode)
    (core : Core K V P A) : Type 0 where
  pub run : IsRun (rules_of is_key is_value s sound) (layout s) (IsEncoded is_key is_value) w
  pub stopped : IsStopped (rules_of is_key is_value s sound) w bytes
  pub strays : HasNoStrays (rules_of is_key is_value s sound) w bytes
  pub known : is_known
  pub reads : ReadsAll s surely_has mode
  pub opened : IsOpenedFrom s bytes surely_has mode [] ((mode ≡ recover_mode.None) ⊎ is_known) core

-- what the core's index has for a hash
abbrev pub slot_at : {K V P A : Type 0} → Core K V P A → ℕ → Option Slot
slot_at core hash = held_slot (finite.get core.index.slots hash)

-- the very address, in the filling with which a core begins
abbrev pub HasAgain : {K V P A : Type 0} → Core K V P A → ℕ → Address → Type 0
HasAgain core h a = slot_at core h ≡ Some (Indexed (record a { filling = 0 }))

-- or that of a newer record of the hash, which the run had wholly written
abbrev pub HasNewer : {K V P A : Type 0} → World Content → (ℕ → ℕ → ℕ) → Core K V P A → ℕ → Address → Type 0
HasNewer w bytes core h a = (x : Address) × (slot_at core h ≡ Some (Indexed x)) × (a.sequence < x.sequence) × IsWhole w bytes h x

-- In each world with this opening over these bytes that the laws begin with, the newest event of the hash is the one that was
-- newest at the stop.
abbrev pub BeginsWithNewest : (is_key is_value : List ℕ → Bool) (s : Settings) → AreValid s → World Content → (ℕ → ℕ → ℕ) → Opened → ℕ → Type 0
BeginsWithNewest is_key is_value s sound w bytes o h =
    (found : List (ℕ × Address)) → IsOpened (rules_of is_key is_value s sound) (opened_world (rules_of is_key is_value s sound) bytes o found)
    → newest h (opened_world (rules_of is_key is_value s sound) bytes o found).history ≡ newest h w.history

-- What is found again is what it was.
use Rattle.std.specs.Prelude.{◌≡◌, ℕ, ◌≤◌, ◌^◌, Some}
use Rattle.foyer_core_model.specs.Event.{newest}
use Rattle.foyer_core_model.specs.Opened.{IsOpened}
use Rattle.foyer_core_model.specs.Record.{Address, Indexed}
use Rattle.foyer_core_model.specs.Rules.{Rules, Splitting, HasRoundTrip, sizes_of}
use Rattle.foyer_core_model.specs.World.{World}
use Rattle.foyer_core_layout.specs.Splits.{IsLaidOut}
use Rattle.foyer_core_restart.specs.Real.{IsFormat}
use Rattle.foyer_core_restart.specs.Restart.{IsRun, IsStopped}

-- In a world that an opening of the bytes begins which a run left, and in which an address that the run's index had is found
-- again, the newest event of its hash is the one that was newest at the stop.
abbrev pub KeepsNewest : {C : Type 0} → Rules C → Splitting C → (C → Type 0) → Type 0
KeepsNewest {C} rules Splits is_value =
    (w v : World C) (h : ℕ) (a : Address)
    → IsRun rules Splits is_value w → IsStopped rules w v.bytes → IsOpened rules v
    → w.core.index h ≡ Some (Indexed a) → v.core.index h ≡ Some (Indexed (record a { filling = 0 }))
    → newest h v.history ≡ newest h w.history

-- So it is of cores whose format is the real one, whose offsets have 32 bits, and whose batches are so laid out.
abbrev pub LaidNewestLaw : {C : Type 0} → Rules C → (C → Type 0) → Type 0
LaidNewestLaw rules is_value = IsFormat rules → rules.block_size ≤ 2 ^ 32 → HasRoundTrip rules is_value
    → KeepsNewest rules (IsLaidOut (sizes_of rules)) is_value

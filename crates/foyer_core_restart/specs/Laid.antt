-- The restart law over the layouts of the model's own records.
use Rattle.std.specs.Prelude.{◌≤◌, ◌^◌}
use Rattle.foyer_core_model.specs.Rules.{Rules, HasRoundTrip, sizes_of}
use Rattle.foyer_core_layout.specs.Splits.{IsLaidOut}
use Rattle.foyer_core_restart.specs.Real.{IsFormat}
use Rattle.foyer_core_restart.specs.Restart.{FindsAgain, FindsAll}

-- The restart law of cores whose format is the real one, whose offsets have 32 bits, and whose batches are so laid out.
abbrev pub LaidRestartLaw : {C : Type 0} → Rules C → (C → Type 0) → Type 0
LaidRestartLaw rules is_value = IsFormat rules → rules.block_size ≤ 2 ^ 32 → HasRoundTrip rules is_value
    → FindsAgain rules (IsLaidOut (sizes_of rules)) is_value

abbrev pub LaidIdleLaw : {C : Type 0} → Rules C → (C → Type 0) → Type 0
LaidIdleLaw rules is_value = IsFormat rules → rules.block_size ≤ 2 ^ 32 → HasRoundTrip rules is_value
    → FindsAll rules (IsLaidOut (sizes_of rules)) is_value

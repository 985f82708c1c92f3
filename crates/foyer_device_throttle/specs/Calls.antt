-- How calls are counted.
use Rattle.std.specs.Prelude.{◌≡◌, ℕ}
use Rattle.std.specs.Int.{div_ceil}
use Rattle.std.specs.Int.NonZero.{non_zero_usize_get}
use Rattle.foyer_device_throttle.specs.declared.iops.IopsCounter.{IopsCounter}
use Rattle.foyer_device_throttle.specs.declared.iops.IopsCounter.TheVariants.{PerIo, PerIoSize}

abbrev pub IsPerIoSize : IopsCounter → ℕ → Type 0
IsPerIoSize PerIo n = ⊥
IsPerIoSize (PerIoSize size) n = non_zero_usize_get size ≡ n

-- what a call of so many bytes counts
abbrev pub calls : IopsCounter → ℕ → ℕ
calls PerIo bytes = 1
calls (PerIoSize size) bytes = div_ceil bytes (non_zero_usize_get size)

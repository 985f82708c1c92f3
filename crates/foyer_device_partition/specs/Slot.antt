-- Where a slot lies.
use Rattle.std.specs.Prelude.{ℕ}
use Rattle.foyer_device_partition.specs.declared.io.device.slot.Slot.{Slot}
use Rattle.foyer_device_partition.specs.Extent.{Extent}

abbrev pub extent_of : Slot → Extent
extent_of s = record { file = 0; start = s.start; len = s.size }

abbrev pub size_of : Slot → ℕ
size_of s = s.size

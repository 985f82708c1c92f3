use Rattle.std.proofs.Common.{◌≡◌, ◌-◌, ◌^◌, min, take}
use Rattle.std.specs.Prelude.{sum_by}
use Rattle.foyer_device_partition.proofs.io.device.combined.files_of.Given as goal

abbrev pub invariant-loop-device : goal.invariant-loop-device
invariant-loop-device g l = l.sum ≡ min (sum_by g.D.Device.file_count (take l.device-index l.devices)) (2 ^ 64 - 1)

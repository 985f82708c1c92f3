use Rattle.std.proofs.Common.{◌≡◌, take, vec_len}
use Rattle.std.specs.Prelude.{sum_by}
use Rattle.foyer_device_partition.proofs.io.device.combined.CombinedDeviceDevice.files.Given as goal

abbrev pub invariant-loop-device : goal.invariant-loop-device
invariant-loop-device g l = vec_len l.paths ≡ sum_by g.D.Device.file_count (take l.device-index l.device-items)

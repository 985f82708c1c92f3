use Rattle.std.proofs.Common.{◌≡◌, map, string_bytes, vec_len}
use Rattle.foyer_device_partition.specs.Paths.{first_paths}
use Rattle.foyer_device_partition.proofs.io.device.fs.FsDeviceDevice.files.Given as goal

abbrev pub invariant-loop-id : goal.invariant-loop-id
invariant-loop-id g l = (vec_len l.paths ≡ l.id) × (map string_bytes l.paths.items ≡ first_paths (string_bytes l.fn.self.dir) l.id)

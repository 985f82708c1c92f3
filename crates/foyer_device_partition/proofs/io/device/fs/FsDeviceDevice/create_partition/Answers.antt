use Rattle.std.proofs.Common.{refl}
use Rattle.foyer_device_partition.proofs.FilesLemmas.{files_next}
use Rattle.foyer_device_partition.proofs.io.device.fs.FsDeviceDevice.create_partition.Goals as goal

pub returns-clause-made : goal.returns-clause-made
returns-clause-made g c =
    let count = c.len-id.ensures.count in
    rw c.in_ok-push.ensures.pushed (refl, files_next _ _ _ count, count, refl)

use Rattle.std.proofs.Common.{arith, ap}
use Rattle.std.proofs.lemmas.List.Sums.{sum_by_more}
use Rattle.foyer_device_partition.proofs.io.device.combined.CombinedDeviceDevice.files.Goals as goal

pub loop-device-preserved : goal.loop-device-preserved
loop-device-preserved g c =
    let devices = c.deref-device-items.result.now in
    let one = ap g.D.Device.file_count c.device-item.is in
    let sum = sum_by_more g.D.Device.file_count devices c.loop-device.device-index c.device-item.result c.loop-device-test.true in
    omega (arith, c.in_ok-append.ensures.len, c.in_ok-more.ensures.count, c.loop-device.invariant, one, sum)

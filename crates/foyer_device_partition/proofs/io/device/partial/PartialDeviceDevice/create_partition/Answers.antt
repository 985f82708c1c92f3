use Rattle.std.proofs.Common.{◌∙◌, ap, arith, drop, length-drop}
use Rattle.foyer_device_partition.proofs.DropLemmas.{drop_push, part_next}
use Rattle.foyer_device_partition.proofs.io.device.partial.PartialDeviceDevice.create_partition.Goals as goal

pub returns-clause-made : goal.returns-clause-made
returns-clause-made g c =
    let part = c.args.self.now in
    let made = c.in_ok-partition.ensures.made in (
      ap (drop part.first) made.0 ∙ drop_push part.first (g.D.Device.sizes part.device) c.args.size part.later,
      ap (drop part.first) made.1 ∙ drop_push part.first (g.D.Device.extents part.device) _ (omega (arith, part.later, c.file_count-files.ensures.each)),
      omega (arith, c.partitions.ensures.count, length-drop part.first (g.D.Device.sizes part.device)),
      made.3,
    )

pub invariant_of-self : goal.invariant_of-self
invariant_of-self g c =
    let part = c.args.self.now in
    let kept = c.in_err-partition.ensures.kept.0 in
    record { later = rw kept part.later; sum = rw kept part.sum }

pub invariant_of-self-2 : goal.invariant_of-self-2
invariant_of-self-2 g c =
    let part = c.args.self.now in
    let next = part_next part.first c.args.size part.allocated _ (g.D.Device.sizes part.device) _ c.in_ok-partition.ensures.made.0 part.later part.sum c.saturating_add-self.ensures in
    record { later = next.0; sum = next.1 }

use Rattle.std.proofs.Common.{rules, arith, refl, sym, ◌∙◌}
use Rattle.std.proofs.lemmas.List.{map_push, length-map}
use Rattle.foyer_device_partition.specs.Slot.{size_of}
use Rattle.foyer_device_partition.proofs.RegionLemmas.{kept_next, laid_next}
use Rattle.foyer_device_partition.proofs.io.device.region.Region.create.Goals as goal

pub invariant_of-self-2 : goal.invariant_of-self-2
invariant_of-self-2 g c =
    let d = c.self.inside in
    kept_next d.allocated d.capacity d.slots.items _ _ c.self.invariant c.in_ok-push.ensures.items refl
    (omega (arith, c.if-size-self.false, c.self.invariant.2)) (omega (arith, c.if-len-ge-MAX_PARTITIONS.false, c.len.ensures))

pub returns-clause-made : goal.returns-clause-made
returns-clause-made g c =
    let d = c.self.inside in
    rw (c.in_ok-push.ensures.items, ← c.self.view_is) (
      map_push size_of d.slots.items _,
      laid_next d.allocated d.capacity d.slots.items _ c.self.invariant refl,
      refl,
      omega (arith, c.if-len-ge-MAX_PARTITIONS.false, c.len.ensures, length-map d.slots.items size_of),
    )

pub invariant_of-slot : goal.invariant_of-slot
invariant_of-slot g c = search rules depth 1

pub invariant_of-self : goal.invariant_of-self
invariant_of-self g c = search rules depth 1

pub returns-in_err-push-clause-kept : goal.returns-in_err-push-clause-kept
returns-in_err-push-clause-kept g c = search rules depth 1

pub returns-clause-room : goal.returns-clause-room
returns-clause-room g c = search rules depth 1

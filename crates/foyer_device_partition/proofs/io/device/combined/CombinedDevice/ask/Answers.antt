use Rattle.std.proofs.Common.{rules, arith, refl, sym, ap, ◌∙◌, ◌≡◌, ◌<◌, ◌+◌, ◌-◌, ◌∷◌, ◌++◌, [], length, List, Option, Some}
use Rattle.std.specs.Prelude.{slice_get}
use Rattle.std.proofs.lemmas.List.{map_push, length-map, length-append}
use Rattle.foyer_device_partition.specs.Extent.{Extent, IsPartitionSize, LieInFiles}
use Rattle.foyer_device_partition.specs.Combined.{Combines}
use Rattle.foyer_device_partition.proofs.DropLemmas.{total_map}
use Rattle.std.proofs.Common.{subst, ℕ, set}
use Rattle.std.proofs.lemmas.Option.{slice_get-get_or}
use Rattle.foyer_device_partition.proofs.CombinedLemmas.{keeps, gains, present_files, refusal, within_last}
use Rattle.foyer_device_partition.proofs.io.device.combined.CombinedDevice.ask.Goals as goal

pub invariant_of-self-in-Err : goal.invariant_of-self-in-Err
invariant_of-self-in-Err g c =
    let s = c.self.inside in
    let d = c.index_mut.result.now in
    let e = c.create_partition-answer.new.self in
    let lt : s.present < length s.devices.items = search rules in
    let is : slice_get s.devices.items s.present ≡ Some d = slice_get-get_or s.devices.items s.present d lt ∙ ap Some (sym c.index_mut.ensures.value) in
    let kept = c.in-Err.ensures.kept in
    let same : s.files + (c.file_count-after.result - c.file_count-before.result) ≡ s.files =
    omega (arith, c.file_count-after.ensures.count, c.file_count-before.ensures.count, kept.2) in
    rw c.reserve.ensures.items (
      keeps g.D.Device.file_count g.D.Device.extents s.devices.items s.present s.base s.earlier s.first s.files _ _ d e c.self.invariant.0 is kept.1 kept.2 same,
      omega (arith, same, c.self.invariant.1),
      c.self.invariant.2,
      c.self.invariant.3,
    )

pub returns-in-Err-clause-refused : goal.returns-in-Err-clause-refused
returns-in-Err-clause-refused g c =
    let s = c.self.inside in
    let d = c.index_mut.result.now in
    let lt : s.present < length s.devices.items = search rules in
    let is : slice_get s.devices.items s.present ≡ Some d = slice_get-get_or s.devices.items s.present d lt ∙ ap Some (sym c.index_mut.ensures.value) in
    let at : slice_get c.args.self.now.devices c.args.self.now.present ≡ Some d = rw (← c.self.view_is) is in
    refusal g.D.Device.is_full (λ x. g.D.Device.lacks_space x c.args.size) c.args.self.now.devices c.args.self.now.present d (IsPartitionSize c.args.size) c.in-Err.e at
    (c.requires.space d at) c.in-Err.ensures.refused (λ was. c.in-Err.ensures.full (cc)) (λ was. c.in-Err.ensures.space.0 (cc))

pub invariant_of-partition : goal.invariant_of-partition
invariant_of-partition g c =
    let s = c.self.inside in
    let d = c.index_mut.result.now in
    let e = c.create_partition-answer.new.self in
    let lt : s.present < length s.devices.items = search rules in
    let is : slice_get s.devices.items s.present ≡ Some d = slice_get-get_or s.devices.items s.present d lt ∙ ap Some (sym c.index_mut.ensures.value) in
    let fits = present_files g.D.Device.file_count g.D.Device.extents s.devices.items s.present s.base s.earlier s.first s.files _ d c.self.invariant.0 is in
    let F : List Extent → Type 0 = λ zs. LieInFiles (g.D.Device.file_count e) zs in
    let last = within_last (g.D.Device.file_count e) _ _ (subst F c.in-Ok.ensures.made.1 c.file_count-after.ensures.within) in
    let few : s.files < 4294967296 = rw (← c.self.view_is) at c.requires.files in
    record { numbered = omega (arith, fits, last, few, c.in-Ok.ensures.files.1) }

pub invariant_of-self-2 : goal.invariant_of-self-2
invariant_of-self-2 g c =
    let s = c.self.inside in
    let d = c.index_mut.result.now in
    let e = c.create_partition-answer.new.self in
    let lt : s.present < length s.devices.items = search rules in
    let is : slice_get s.devices.items s.present ≡ Some d = slice_get-get_or s.devices.items s.present d lt ∙ ap Some (sym c.index_mut.ensures.value) in
    let before = c.file_count-before.ensures in
    let after = c.file_count-after.ensures in
    let few : s.files < 4294967296 = rw (← c.self.view_is) at c.requires.files in
    let room : length s.partitions.items < 4294967296 = simp length-map at (rw (← c.self.view_is) at c.requires.numbers) in
    let grown : s.files + (c.file_count-after.result - c.file_count-before.result) ≡ s.files + (g.D.Device.file_count e - g.D.Device.file_count d) = omega (arith, before.count, after.count) in
    let P : List Extent → Type 0 = λ zs.
    Combines g.D.Device.file_count g.D.Device.extents (set s.devices.items s.present e) s.present s.base s.earlier s.first (s.files + (c.file_count-after.result - c.file_count-before.result)) zs in
    rw (c.push_reserved.ensures.items, c.reserve.ensures.items) (
      subst P (sym (map_push _ _ _)) (gains g.D.Device.file_count g.D.Device.extents s.devices.items s.present s.base s.earlier s.first s.files (s.files + (c.file_count-after.result - c.file_count-before.result)) _ d e _ c.self.invariant.0 is
          c.in-Ok.ensures.made.1 after.apart after.within c.in-Ok.ensures.files.0 grown),
      omega (arith, before.count, after.count, c.in-Ok.ensures.files.1, few),
      simp length-append (omega (arith, room)),
      total_map (λ p. g.D.Partition.Partition.bytes p.partition) _ _ s.partitions.items _ c.args.size s.allocated _ c.push_reserved.ensures.items c.in-Ok.ensures.made.3 c.self.invariant.3 c.saturating_add-self-inside.ensures,
    )

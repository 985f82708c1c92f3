use Rattle.std.proofs.Common.{rules, arith, refl, sym, ap, ◌∙◌, ◌≡◌, ◌<◌, ◌+◌, length, List, Option, Some}
use Rattle.std.specs.Prelude.{slice_get}
use Rattle.std.proofs.lemmas.List.{length-map}
use Rattle.std.proofs.lemmas.Option.{slice_get-get_or}
use Rattle.foyer_device_partition.proofs.CombinedLemmas.{next_device}
use Rattle.foyer_device_partition.proofs.io.device.combined.CombinedDevice.advance.Goals as goal

pub invariant_of-self : goal.invariant_of-self
invariant_of-self g c =
    let s = c.self.inside in
    let d = c.index.result.now in
    let lt : s.present < length s.devices.items = search rules in
    let is : slice_get s.devices.items s.present ≡ Some d = slice_get-get_or s.devices.items s.present d lt ∙ ap Some (sym c.index.ensures) in
    let start : (e : g.row.D.Denot) → slice_get s.devices.items (s.present + 1) ≡ Some e → c.first_count-self-inside.result ≡ length (g.D.Device.extents e) =
    λ e at. c.first_count-self-inside.ensures e (ap (λ (xs : List g.row.D.Denot). slice_get xs (s.present + 1)) c.as_slice.ensures.value ∙ at) in (
      next_device g.D.Device.file_count g.D.Device.extents s.devices.items s.present s.base s.earlier s.first s.files _ _ _ _ d c.self.invariant.0 is
          (omega (arith, c.file_count-count.ensures.count)) (simp length-map (omega (arith, c.len-self-inside.ensures))) start,
      c.self.invariant.1,
      c.self.invariant.2,
      c.self.invariant.3,
    )

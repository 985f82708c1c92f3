use Rattle.std.proofs.Common.{◌<◌, ◌∙◌, ap, refl, length}
use Rattle.std.specs.Option.{option_map}
use Rattle.std.proofs.lemmas.List.{length-map}
use Rattle.std.proofs.lemmas.Option.{slice_get_read, slice_get-map}
use Rattle.foyer_device_partition.specs.Slot.{extent_of, size_of}
use Rattle.foyer_device_partition.proofs.io.device.region.Region.slot.Goals as goal

pub returns-clause-size : goal.returns-clause-size
returns-clause-size g c =
    let slots = c.self.inside.slots.items in
    let lt : c.args.id < length slots = simp length-map at (rw (← c.self.view_is) at c.requires) in
    let is = slice_get_read slots (length slots) c.args.id c.index.result.now refl lt c.index.ensures in
    rw (← c.self.view_is) (slice_get-map size_of slots c.args.id ∙ ap (option_map size_of) is)

pub returns-clause-extent : goal.returns-clause-extent
returns-clause-extent g c =
    let slots = c.self.inside.slots.items in
    let lt : c.args.id < length slots = simp length-map at (rw (← c.self.view_is) at c.requires) in
    let is = slice_get_read slots (length slots) c.args.id c.index.result.now refl lt c.index.ensures in
    rw (← c.self.view_is, ← c.self.invariant.0) (slice_get-map extent_of slots c.args.id ∙ ap (option_map extent_of) is)

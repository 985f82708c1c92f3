use Rattle.std.proofs.Common.{◌∙◌, rules, sym, ap, Some}
use Rattle.foyer_device_partition.specs.Capacity.{rounded}
use Rattle.foyer_device_partition.specs.Region.{Region}
use Rattle.foyer_device_partition.proofs.io.device.file.FileDeviceBuilderDeviceBuilder.build.Goals as goal

pub returns-clause-config : goal.returns-clause-config
returns-clause-config g c = (λ was. cc, λ none. let is = sym (ap rounded c.in-Some.is) ∙ none in cc)

pub returns-clause-room : goal.returns-clause-room
returns-clause-room g c = ap rounded c.in-Some.is ∙ ap (λ (r : Region). Some r.room) (sym c.new.ensures)

pub returns-clause-fresh : goal.returns-clause-fresh
returns-clause-fresh g c = search rules depth 1

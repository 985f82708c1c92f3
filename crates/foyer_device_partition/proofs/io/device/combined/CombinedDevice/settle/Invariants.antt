use Rattle.std.proofs.Common.{◌≡◌, ◌≤◌, ◌-◌, length, drop}
use Rattle.std.specs.List.{list_all}
use Rattle.foyer_device_partition.proofs.io.device.combined.CombinedDevice.settle.Given as goal

abbrev pub invariant-loop-self : goal.invariant-loop-self
invariant-loop-self g l = (l.initial.self.present ≤ l.self.present) × (l.self ≡ record l.initial.self { present = l.self.present })
    × (list_all (λ d. g.D.Device.lacks_space d l.size) (drop l.self.present l.self.devices) ≡ list_all (λ d. g.D.Device.lacks_space d l.size) (drop l.initial.self.present l.initial.self.devices))

abbrev pub decreases-loop-self : goal.decreases-loop-self
decreases-loop-self g l = length l.self.devices - l.self.present

use Rattle.std.proofs.Common.{rules, arith, ◌≡◌, ◌⊎◌, ⊎_elim, inl, inr, ap, subst, List, true, drop}
use Rattle.std.specs.List.{list_any}
use Rattle.foyer_device_partition.specs.Combined.{Combined}
use Rattle.foyer_device_partition.proofs.CombinedLemmas.{any_more, or_last}
use Rattle.foyer_device_partition.proofs.io.device.combined.CombinedDeviceDevice.create_partition.Goals as goal

pub returns-clause-full : goal.returns-clause-full
returns-clause-full g c was =
    let why = rw was at c.ask.ensures.refused in
    let devices : c.settle.new.self.devices ≡ c.args.self.now.devices = ap (λ (v : Combined g.row.D.Denot). v.devices) c.settle.ensures.same in
    let P : List g.row.D.Denot → Type 0 = λ xs. list_any g.D.Device.is_full (drop c.settle.new.self.present xs) ≡ true in
    ⊎_elim (λ config. ⊎_elim (λ bad. inl bad)
    (λ some. inr (or_last _ _ _ (any_more g.D.Device.is_full c.args.self.now.devices c.args.self.now.present c.settle.new.self.present c.settle.ensures.never_back (subst P devices some)))) config.1)
    (λ rest. ⊎_elim (λ io. absurd (cc)) (λ memory. absurd (cc)) rest) why

use Rattle.std.proofs.Common.{◌≡◌, ◌∙◌, ℕ, ap, subst, [], ◌∷◌}
use Rattle.foyer_device_throttle.specs.Calls.{calls}
use Rattle.foyer_device_statistics.specs.Counted.{Records}
use Rattle.foyer_device_statistics.proofs.CounterSteps.{records_read}
use Rattle.foyer_device_statistics.proofs.statistics.Statistics.record_disk_read.Goals as goal

pub returns-clause-recorded : goal.returns-clause-recorded
returns-clause-recorded g c =
    let one = c.add.ensures in
    let two = c.add-2.ensures in
    let counted : c.count-ios.result ≡ calls c.args.self.now.limits.iops_counter c.args.bytes = c.count-ios.ensures ∙ ap (λ s. calls s.limits.iops_counter c.args.bytes) c.self.view_is in
    let Recorded : ℕ → Type 0 = λ n. Records c.args.seat.now.view (0 ∷ c.args.bytes ∷ 0 ∷ n ∷ []) c.add-2.new.seat.view in
    subst Recorded counted (records_read _ _ _ _ _ one.length one.grows two.grows)

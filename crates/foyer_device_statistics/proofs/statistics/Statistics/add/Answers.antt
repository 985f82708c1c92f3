use Rattle.std.proofs.Common.{arith, ◌∙◌, sym, ap}
use Rattle.foyer_device_statistics.proofs.CounterSteps.{adds}
use Rattle.foyer_device_statistics.proofs.statistics.Statistics.add.Goals as goal

pub fetch_add-requires : goal.fetch_add-requires
fetch_add-requires g c = (
  ap (λ p. p.table) c.seat.view_is ∙ c.requires.table ∙ sym (ap (λ s. s.table) c.self.view_is),
  omega (arith, c.self.invariant.0, c.requires.counter),
  adds _ _ c.args.counter c.args.n c.seat.inside.place.me c.requires.counter c.seat.invariant.1,
)

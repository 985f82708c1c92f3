use Rattle.std.proofs.Common.{arith, ◌∙◌, sym, ap}
use Rattle.foyer_device_statistics.proofs.CounterSteps.{loads}
use Rattle.foyer_device_statistics.proofs.statistics.Statistics.load.Goals as goal

pub load-requires : goal.load-requires
load-requires g c = (
  ap (λ p. p.table) c.seat.view_is ∙ c.requires.table ∙ sym (ap (λ s. s.table) c.self.view_is),
  omega (arith, c.self.invariant.0, c.requires.counter),
  loads _ _ c.args.counter c.seat.inside.place.me c.requires.counter,
)

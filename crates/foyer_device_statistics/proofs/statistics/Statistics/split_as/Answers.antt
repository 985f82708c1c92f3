use Rattle.std.proofs.Common.{arith, ◌∙◌, sym, ap}
use Rattle.foyer_device_statistics.proofs.CounterSteps.{splits}
use Rattle.foyer_device_statistics.proofs.statistics.Statistics.split_as.Goals as goal

pub split_seat-place-requires : goal.split_seat-place-requires
split_seat-place-requires g c =
    let v = ap (λ p. p.view.parts) c.seat.view_is in (
      ap (λ p. p.table) c.seat.view_is ∙ c.requires.table ∙ sym (ap (λ s. s.table) c.self.view_is),
      omega (arith, c.self.invariant.0),
      splits _ g.K.Amount.amount c.seat.inside.place.me.0 (omega (arith, c.requires.parts, c.requires.amount)) (omega (arith, c.requires.parts, c.requires.amount, v)),
    )

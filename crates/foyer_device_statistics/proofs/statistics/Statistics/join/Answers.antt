use Rattle.std.proofs.Common.{arith, ◌∙◌, sym, ap}
use Rattle.foyer_device_statistics.proofs.CounterSteps.{joins, joined}
use Rattle.foyer_device_statistics.proofs.statistics.Statistics.join.Goals as goal

pub join_seat-requires : goal.join_seat-requires
join_seat-requires g c =
    let mine = ap (λ p. p.table) c.seat.view_is in
    let theirs = ap (λ p. p.table) c.other.view_is in
    let here = sym (ap (λ s. s.table) c.self.view_is) in (
      mine ∙ c.requires.table.0 ∙ here,
      theirs ∙ c.requires.table.1 ∙ c.requires.table.0 ∙ here,
      c.other.invariant.0,
      omega (arith, c.self.invariant.0),
      joins _ _ c.seat.inside.place.me.0 c.other.inside.place.me.0,
    )

pub invariant_of-seat : goal.invariant_of-seat
invariant_of-seat g c = joined c.seat.inside.place.me c.other.inside.place.me _ c.seat.invariant c.other.invariant c.join_seat.ensures.2

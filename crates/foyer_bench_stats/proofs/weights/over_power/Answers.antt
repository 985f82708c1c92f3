use Rattle.std.proofs.Common.{◌/◌, ◌^◌, ◌∙◌, arith}
use Rattle.foyer_bench_stats.proofs.WeightLemmas.{over_clear, over_none, over_set, over_vanishes, root_fits, shrunk}
use Rattle.foyer_bench_stats.proofs.weights.over_power.Goals as goal
use Rattle.foyer_bench_stats.proofs.weights.over_power.Goals.{then-exponent-place-eq1, else-exponent-place-eq1}

pub loop-place-init : goal.loop-place-init
loop-place-init c = record { places = over_none c.args.exponent; small = omega arith }

pub loop-place-preserved : goal.loop-place-preserved
loop-place-preserved c =
    elim c.if-exponent-place-eq1.branch [
      | then-exponent-place-eq1 w ↦ rw w.part-is (record {
        places = rw w.from.ensures (rw c.loop-place.invariant.places (over_set c.args.exponent c.loop-place.place w.if-exponent-place-eq1.true));
        small = shrunk c.loop-place.part w.from.result c.loop-place.invariant.small (rw w.from.ensures (root_fits c.loop-place.place c.loop-place-test.true));
      })
      | else-exponent-place-eq1 w ↦ rw w.part-is (record {
        places = c.loop-place.invariant.places ∙ over_clear c.args.exponent c.loop-place.place w.if-exponent-place-eq1.false;
        small = c.loop-place.invariant.small;
      })
    ]

pub returns-else-whole-lt64-clause-value : goal.returns-else-whole-lt64-clause-value
returns-else-whole-lt64-clause-value c =
    over_vanishes c.args.exponent c.loop-place.part c.loop-place.place (c.args.exponent / 2 ^ 24) c.loop-place.invariant.places (omega arith) c.loop-place.invariant.small c.if-whole-lt64.false

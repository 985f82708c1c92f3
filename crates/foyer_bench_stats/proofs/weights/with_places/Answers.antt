use Rattle.std.proofs.Common.{◌+◌, ◌*◌, ◌^◌, ◌-◌, ◌<◌, ◌≡◌, subst, sym, ◌∙◌, arith}
use Rattle.foyer_bench_stats.specs.Weights.{log_on}
use Rattle.foyer_bench_stats.proofs.WeightLemmas.{doubled, no_place, place_large, place_small, square_fits}
use Rattle.foyer_bench_stats.proofs.weights.with_places.Goals as goal
use Rattle.foyer_bench_stats.proofs.weights.with_places.Goals.{then-square, else-square}

pub loop-place-preserved : goal.loop-place-preserved
loop-place-preserved c =
    let fits : c.loop-place.part * c.loop-place.part < 2 ^ 64 = square_fits c.loop-place.part c.loop-place.invariant.part in
    let more : 2 ^ (c.loop-place.place + 1) ≡ 2 ^ c.loop-place.place * 2 = doubled c.loop-place.place in
    elim c.if-square.branch [
      | then-square w ↦ rw w.part-is (rw w.log-is (record {
        part = omega arith;
        log = omega arith;
        places = place_small c.loop-place.place c.loop-place.part c.loop-place.log (omega arith) (omega arith) ∙ c.loop-place.invariant.places;
      }))
      | else-square w ↦ rw w.part-is (rw w.log-is (record {
        part = omega arith;
        log = omega arith;
        places = place_large c.loop-place.place c.loop-place.part c.loop-place.log (omega arith) (omega arith) ∙ c.loop-place.invariant.places;
      }))
    ]

pub returns-clause-value : goal.returns-clause-value
returns-clause-value c =
    let all : 24 - c.loop-place.place ≡ 0 = omega arith in
    sym (no_place c.loop-place.part c.loop-place.log) ∙ (subst (λ k. log_on k c.loop-place.part c.loop-place.log ≡ log_on 24 c.args.part c.args.log) all c.loop-place.invariant.places)

use Rattle.std.proofs.Common.{◌≡◌, ◌^◌, ◌≤◌}
use Rattle.foyer_bench_stats.specs.Weights.{over_places}
use Rattle.foyer_bench_stats.proofs.weights.over_power.Given as goal

abbrev pub invariant-loop-place : goal.invariant-loop-place
invariant-loop-place l = record {
  places : l.part ≡ over_places l.exponent l.place;
  small : l.part ≤ 2 ^ 32;
}

use Rattle.std.proofs.Common.{◌≡◌, ◌+◌, ◌-◌, ◌*◌, ◌^◌, ◌<◌, ◌≤◌}
use Rattle.foyer_bench_stats.specs.Weights.{log_on}
use Rattle.foyer_bench_stats.proofs.weights.with_places.Given as goal

abbrev pub invariant-loop-place : goal.invariant-loop-place
invariant-loop-place l = record {
  part : l.part < 2 ^ 32;
  log : l.log + 1 ≤ 27 * 2 ^ l.place;
  places : log_on (24 - l.place) l.part l.log ≡ log_on 24 l.initial.part l.initial.log;
}

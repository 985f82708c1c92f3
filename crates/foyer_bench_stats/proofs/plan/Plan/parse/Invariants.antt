use Rattle.std.proofs.Common.{take, drop, map, string_bytes}
use Rattle.foyer_bench_stats.specs.BenchPlans.{AreSettings, HasBounds}
use Rattle.foyer_bench_stats.proofs.plan.Plan.parse.Given as goal

abbrev pub invariant-loop-word : goal.invariant-loop-word
invariant-loop-word g l = record {
  settings : AreSettings l.initial.plan (take l.word-index (map string_bytes (drop 3 l.words))) l.plan;
  bounds : HasBounds l.plan;
}

use Rattle.std.proofs.Common.{arith}
use Rattle.foyer_bench_stats.proofs.histogram.Histogram.merge.Goals as goal

pub returns-clause-merged : goal.returns-clause-merged
returns-clause-merged c = rw (← c.self.view_is) (record {
  counts = λ k h. c.loop-bucket.invariant.merged k (omega arith);
  greatest = rw (← c.other.view_is) (rw (← c.loop-bucket.invariant.greatest) c.max-self-inside.ensures);
})

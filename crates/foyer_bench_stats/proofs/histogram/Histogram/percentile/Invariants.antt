use Rattle.std.proofs.Common.{◌≡◌, ◌*◌, ◌<◌, sum, take}
use Rattle.foyer_bench_stats.proofs.histogram.Histogram.percentile.Given as goal

abbrev pub invariant-loop-bucket : goal.invariant-loop-bucket
invariant-loop-bucket l = record {
  items : l.count-items ≡ l.self.counts;
  covered : l.covered ≡ sum (take l.bucket l.self.counts);
  fewer : 1000 * sum (take l.bucket l.self.counts) < l.thousandths * sum l.self.counts;
}

use Rattle.std.proofs.Common.{◌≡◌, sum, take, get_or, ap, arith}
use Rattle.foyer_bench_stats.specs.Histogram.{Noted}
use Rattle.foyer_bench_stats.proofs.HistogramLemmas.{is_enough, is_percentile}
use Rattle.foyer_bench_stats.proofs.histogram.Histogram.percentile.Goals as goal

pub returns-then-from-wanted : goal.returns-then-from-wanted
returns-then-from-wanted c =
    let same : c.self.inside.counts.items ≡ c.args.self.now.counts = ap (λ (h : Noted). h.counts) c.self.view_is in
    is_percentile c.args.self.now c.args.thousandths c.loop-bucket.bucket c.min.result
    (rw (← same) (omega arith))
    c.loop-bucket.invariant.fewer
    (is_enough c.args.thousandths (sum c.args.self.now.counts) c.from.result c.from-2.result (sum (take c.loop-bucket.bucket c.args.self.now.counts)) (get_or c.args.self.now.counts c.loop-bucket.bucket 0) c.from-in-loop-bucket.result
    (rw (← same) (omega arith)) c.from-2.ensures (rw (← c.loop-bucket.invariant.covered) (rw c.loop-bucket.invariant.items at c.from-in-loop-bucket.ensures)) c.if-from-wanted.true)
    (rw (← c.self.view_is) (rw (← c.highest.ensures) c.min.ensures))

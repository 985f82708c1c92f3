use Rattle.std.proofs.Common.{refl, arith}
use Rattle.foyer_bench_stats.proofs.BucketLemmas.{highest_fits, one_shifted}
use Rattle.foyer_bench_stats.proofs.buckets.highest.Goals as goal

pub overflow_add-result : goal.overflow_add-result
overflow_add-result c = rw c.lowest.ensures (rw (one_shifted c.args.bucket c.saturating_sub-shift.result c.requires c.saturating_sub-shift.ensures) (rw c.saturating_sub-shift.ensures (omega (arith, highest_fits c.args.bucket c.requires))))

pub returns : goal.returns
returns c = rw c.lowest.ensures (rw (one_shifted c.args.bucket c.saturating_sub-shift.result c.requires c.saturating_sub-shift.ensures) (rw c.saturating_sub-shift.ensures refl))

use Rattle.std.proofs.Common.{◌-◌, ◌<◌, refl, arith}
use Rattle.foyer_bench_stats.proofs.BucketLemmas.{above_six, shifted_bucket, small_bucket, top_high}
use Rattle.foyer_bench_stats.proofs.buckets.bucket_of.Goals as goal

pub overflow_sub-shift : goal.overflow_sub-shift
overflow_sub-shift c = let above : 6 < c.ilog2-shift.result = above_six c.args.value c.ilog2-shift.result (omega arith) c.ilog2-shift.ensures.next_power_gt in omega arith

pub overflow_add-result : goal.overflow_add-result
overflow_add-result c =
    let above : 6 < c.ilog2-shift.result = above_six c.args.value c.ilog2-shift.result (omega arith) c.ilog2-shift.ensures.next_power_gt in
    let high = top_high c.args.value (c.ilog2-shift.result - 6) c.ilog2-shift.result (omega arith) c.ilog2-shift.ensures.next_power_gt in
    omega (arith, high)

pub returns : goal.returns
returns c = shifted_bucket c.args.value c.ilog2-shift.result (c.ilog2-shift.result - 6) (omega arith) (omega arith) c.ilog2-shift.ensures.power_le c.ilog2-shift.ensures.next_power_gt refl

pub returns-then-value-lt128 : goal.returns-then-value-lt128
returns-then-value-lt128 c = small_bucket c.args.value (omega arith)

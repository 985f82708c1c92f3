use Rattle.std.proofs.Common.{◌*◌, ◌/◌, ◌^◌, refl, arith}
use Rattle.foyer_bench_stats.proofs.ZipfLemmas.{is_rank, whole_is}
use Rattle.foyer_bench_stats.proofs.zipf.Zipf.rank.Goals as goal

pub returns : goal.returns
returns c = rw (← c.self.view_is) (is_rank c.self.inside.sums.items c.args.word c.index-whole.result.now (c.from.result * c.from-2.result / 2 ^ 64) c.first_above.result c.self.invariant.0 c.self.invariant.1
    (whole_is c.self.inside.sums.items c.len.result c.index-whole.result.now c.index-whole.ensures c.self.invariant.0 (omega arith))
    (omega arith)
    (rw c.from.ensures (rw c.from-2.ensures refl))
    (omega arith)
    (rw c.as_slice.ensures.value at c.first_above.ensures.below)
    (rw c.as_slice.ensures.value at c.first_above.ensures.above))

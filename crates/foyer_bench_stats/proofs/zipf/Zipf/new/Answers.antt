use Rattle.std.proofs.Common.{◌+◌, ◌-◌, length, arith}
use Rattle.std.proofs.lemmas.List.{get_or_default}
use Rattle.std.proofs.lemmas.List.Sorted.{IsNonDecreasingBy-push}
use Rattle.foyer_bench_stats.proofs.ZipfLemmas.{newest-push, sums-push}
use Rattle.foyer_bench_stats.proofs.zipf.Zipf.new.Goals as goal

pub loop-rank-preserved : goal.loop-rank-preserved
loop-rank-preserved c =
    let loop = c.loop-rank.invariant in
    record {
      sums = sums-push c.args.skew c.loop-rank.sums.items c.push.new.self.items c.loop-rank.sum c.weight-sum.result c.loop-rank.rank loop.sums c.weight-sum.ensures.value loop.newest (λ e. omega arith) c.in_ok-push.ensures.items;
      newest = λ _. newest-push c.loop-rank.sums.items c.push.new.self.items (c.loop-rank.sum + c.weight-sum.result) c.loop-rank.rank loop.sums.ranks c.in_ok-push.ensures.items;
      some = λ _. omega arith;
      small = omega arith;
      ordered = rw c.in_ok-push.ensures.items (IsNonDecreasingBy-push (λ x. x) c.loop-rank.sums.items (c.loop-rank.sum + c.weight-sum.result) loop.ordered (λ d some. rw (get_or_default c.loop-rank.sums.items (length c.loop-rank.sums.items - 1) d 0 (omega arith)) (rw loop.sums.ranks (rw (loop.newest (omega arith)) (omega arith)))));
    }

use Rattle.std.proofs.Common.{◌≡◌, ◌-◌, ◌*◌, ◌^◌, ◌<◌, ◌≤◌, get_or}
use Rattle.std.specs.List.Sorted.{IsNonDecreasing}
use Rattle.foyer_bench_stats.specs.Zipf.{AreSums}
use Rattle.foyer_bench_stats.proofs.zipf.Zipf.new.Given as goal

abbrev pub invariant-loop-rank : goal.invariant-loop-rank
invariant-loop-rank l = record {
  sums : AreSums l.rank l.skew l.sums.items;
  newest : 0 < l.rank → get_or l.sums.items (l.rank - 1) 0 ≡ l.sum;
  some : 0 < l.rank → 0 < l.sum;
  small : l.sum ≤ l.rank * 2 ^ 36;
  ordered : IsNonDecreasing l.sums.items;
}

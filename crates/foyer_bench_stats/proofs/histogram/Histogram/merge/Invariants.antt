use Rattle.std.proofs.Common.{◌≡◌, ◌+◌, ◌<◌, ◌≤◌, ℕ, sum, take, length, get_or}
use Rattle.foyer_bench_stats.proofs.histogram.Histogram.merge.Given as goal

abbrev pub invariant-loop-bucket : goal.invariant-loop-bucket
invariant-loop-bucket l = record {
  whole : length l.self-inside.counts.items ≡ 3776;
  merged : (k : ℕ) → k < l.bucket → get_or l.self-inside.counts.items k 0 ≡ get_or l.initial.self-inside.counts.items k 0 + get_or l.other.counts k 0;
  left : (k : ℕ) → l.bucket ≤ k → get_or l.self-inside.counts.items k 0 ≡ get_or l.initial.self-inside.counts.items k 0;
  summed : sum l.self-inside.counts.items ≡ sum l.initial.self-inside.counts.items + sum (take l.bucket l.other.counts);
  greatest : l.self-inside.greatest ≡ l.initial.self-inside.greatest;
}

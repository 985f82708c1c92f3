-- What a loop over the buckets has found.
use Rattle.std.proofs.Common.{ℕ, ◌≡◌, ◌+◌, ◌*◌, ◌<◌, ◌≤◌, length, sum, take, min, get_or, arith}
use Rattle.std.proofs.lemmas.List.Sums.{sum_by_more}
use Rattle.foyer_bench_stats.specs.Buckets.{highest_of}
use Rattle.foyer_bench_stats.specs.Histogram.{IsPercentile, Noted}

pub is_percentile : (h : Noted) (t b value : ℕ) → b < length h.counts → 1000 * sum (take b h.counts) < t * sum h.counts → t * sum h.counts ≤ 1000 * (sum (take b h.counts) + get_or h.counts b 0) → value ≡ min (highest_of b) h.greatest → IsPercentile h t value
is_percentile h t b value one fewer enough end =
    let more : sum (take (b + 1) h.counts) ≡ sum (take b h.counts) + get_or h.counts b 0 = sum_by_more (λ x. x) h.counts b 0 one in
    record { bucket = b; one_of_all = one; fewer_below = fewer; enough_with_it = rw more enough; end = end }

pub is_enough : (t all wanted_all wanted_t covered count more : ℕ) → wanted_all ≡ all → wanted_t ≡ t → more ≡ covered + count → wanted_all * wanted_t ≤ more * 1000 → t * all ≤ 1000 * (covered + count)
is_enough t all wanted_all wanted_t covered count more same_all same_t is le =
    let e : wanted_all * wanted_t ≡ t * all = rw same_all (rw same_t (omega arith)) in
    omega arith

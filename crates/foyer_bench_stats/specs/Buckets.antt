-- The buckets of a histogram.
use Rattle.std.specs.Prelude.{ℕ, ◌+◌, ◌-◌, ◌*◌, ◌/◌, ◌^◌, ◌<◌, ◌≤◌}

-- how often the width of a bucket was doubled
abbrev pub doublings_of : ℕ → ℕ
doublings_of b = b / 64 - 1

-- the least number of a bucket
abbrev pub lowest_of : ℕ → ℕ
lowest_of b = (b - 64 * doublings_of b) * 2 ^ doublings_of b

-- the greatest number of a bucket
abbrev pub highest_of : ℕ → ℕ
highest_of b = lowest_of b + (2 ^ doublings_of b - 1)

-- the number lies in this bucket
pub record IsBucketOf (value b : ℕ) : Type 0 where
  pub one_of_all : b < 3776
  pub low : lowest_of b ≤ value
  pub high : value ≤ highest_of b

-- Ranks by a Zipf distribution.
use Rattle.std.specs.Prelude.{◌≡◌, ℕ, ◌+◌, ◌-◌, ◌*◌, ◌/◌, ◌^◌, ◌<◌, ◌≤◌, List, length, slice_index, zero, suc}
use Rattle.foyer_bench_stats.specs.Weights.{IsWeightOf}

-- what the weights of the ranks below this one come to
abbrev pub sum_before : List ℕ → ℕ → ℕ
sum_before sums zero = 0
sum_before sums (suc k) = slice_index sums k

-- the sum at a rank is its weight, and all before it
pub record IsSummed (skew : ℕ) (sums : List ℕ) (rank : ℕ) : Type 0 where
  pub weight : ℕ
  pub is_its_own : IsWeightOf rank skew weight
  pub sum : slice_index sums rank ≡ sum_before sums rank + weight

-- the sums of so many ranks' weights
pub record AreSums (keys skew : ℕ) (sums : List ℕ) : Type 0 where
  pub ranks : length sums ≡ keys
  pub weighed : (k : ℕ) → k < keys → IsSummed skew sums k

-- all weights together
abbrev pub whole_of : List ℕ → ℕ
whole_of sums = slice_index sums (length sums - 1)

-- The rank whose part of all weights the word falls into, as a part of 2^64.
pub record IsRankOf (sums : List ℕ) (word rank : ℕ) : Type 0 where
  pub one_of_all : rank < length sums
  pub from : (k : ℕ) → k < rank → slice_index sums k ≤ word * whole_of sums / 2 ^ 64
  pub to : word * whole_of sums / 2 ^ 64 < slice_index sums rank

-- How often a rank is drawn, in whole numbers.
use Rattle.std.specs.Prelude.{◌≡◌, ℕ, zero, suc, ◌+◌, ◌-◌, ◌*◌, ◌/◌, ◌%◌, ◌^◌, ◌<◌, ◌≤◌, if◌then◌else◌, ◌==◌, max, nat_lt, slice_index}
use Rattle.foyer_bench_stats.specs.declared.weights.TheConstants.{ROOTS}

-- a logarithm with so many binary places more: `part` over 2^31 is what is left of the number, from 1 to 2
unfoldable pub log_on : ℕ → ℕ → ℕ → ℕ
log_on zero part log = log
log_on (suc n) part log = if nat_lt (part * part) (2 ^ 63) then log_on n (part * part / 2 ^ 31) (log * 2) else log_on n (part * part / 2 ^ 32) (2 * log + 1)

-- the logarithm of a number to the base 2, with 24 binary places, each rounded down
pub record IsLog (number log : ℕ) : Type 0 where
  pub whole : ℕ
  pub low : 2 ^ whole ≤ number
  pub high : number < 2 * 2 ^ whole
  pub places : log ≡ log_on 24 (number * 2 ^ (31 - whole)) whole

-- 2^32 over 2 to the power of the first so many binary places of an exponent
unfoldable pub over_places : ℕ → ℕ → ℕ
over_places exponent zero = 2 ^ 32
over_places exponent (suc n) = if (exponent / 2 ^ (23 - n) % 2) == 1 then over_places exponent n * slice_index ROOTS n / 2 ^ 32 else over_places exponent n

-- 2^36 over 2 to the power of an exponent with 24 binary places
abbrev pub over_power_of : ℕ → ℕ
over_power_of exponent = over_places exponent 24 * 16 / 2 ^ (exponent / 2 ^ 24)

-- the weight of a rank, from 0 on, at a skew in hundredths: at least 1
pub record IsWeightOf (rank skew weight : ℕ) : Type 0 where
  pub log : ℕ
  pub is_log : IsLog (rank + 1) log
  pub is_weight : weight ≡ max 1 (over_power_of (log * skew / 100))

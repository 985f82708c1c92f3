-- The answers of the conditions that are shipped.
use Rattle.std.specs.Prelude.{◌≡◌, ℕ, ◌+◌, ◌-◌, ◌^◌, ◌<◌, ◌≤◌, ◌⊎◌, min}
use Rattle.std.specs.Duration.{as_nanos}
use Rattle.std.specs.declared.time.Duration.{Duration}
use Rattle.std.specs.declared.ops.Bound.{Bound}
use Rattle.std.specs.declared.ops.Bound.TheVariants.{Included, Excluded, Unbounded}
use Rattle.foyer_policy_filter.specs.declared.verdict.StorageFilterResult.{StorageFilterResult}
use Rattle.foyer_policy_filter.specs.declared.verdict.StorageFilterResult.TheVariants.{Admit, Reject, Throttled}

-- sizes from the first on, up to and without the end
pub record Sizes : Type 0 where
  pub first : ℕ
  pub end : ℕ

-- admitted exactly if the size is one of these, else rejected
abbrev pub Decides : Sizes → ℕ → StorageFilterResult → Type 0
Decides s size Admit = (s.first ≤ size) × (size < s.end)
Decides s size Reject = (size < s.first) ⊎ (s.end ≤ size)
Decides s size (Throttled d) = ⊥

-- throttled by this wait, or admitted if the wait is zero
abbrev pub IsThrottledBy : Duration → StorageFilterResult → Type 0
IsThrottledBy wait Admit = as_nanos wait ≡ 0
IsThrottledBy wait Reject = ⊥
IsThrottledBy wait (Throttled d) = (0 < as_nanos wait) × (d ≡ wait)

-- the first size of a lower bound, and the end of an upper one, each at most the greatest size
abbrev pub first_of : Bound ℕ → ℕ
first_of (Included n) = n
first_of (Excluded n) = min (n + 1) (2 ^ 64 - 1)
first_of Unbounded = 0

abbrev pub end_of : Bound ℕ → ℕ
end_of (Included n) = min (n + 1) (2 ^ 64 - 1)
end_of (Excluded n) = n
end_of Unbounded = 2 ^ 64 - 1

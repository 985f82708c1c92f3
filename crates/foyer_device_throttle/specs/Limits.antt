-- Limits that callers set.
use Rattle.std.specs.Prelude.{◌≡◌, ℕ, Option, MatchOption}
use Rattle.std.specs.Int.NonZero.{non_zero_usize_get}
use Rattle.std.specs.declared.num.NonZeroUsize.{NonZeroUsize}

-- n is the limit's number, and 0 if there is no limit
abbrev pub IsLimit : Option NonZeroUsize → ℕ → Type 0
IsLimit limit n = MatchOption limit (n ≡ 0) (λ l. non_zero_usize_get l ≡ n)

-- Numbers of 64 bits, and maps that are functions from numbers.
use Rattle.std.specs.Prelude.{ℕ, ◌+◌, ◌==◌, nat_le, if◌then◌else◌}

-- m with v at k
abbrev pub put : {A : Type 0} → (ℕ → A) → ℕ → A → ℕ → A
put m k v q = if q == k then v else m q

-- the greatest number of 64 bits: a sequence that is never drawn, and the number at which counts stay
abbrev pub last_number : ℕ
last_number = 18446744073709551615

-- a sum that stays at the greatest number
abbrev pub plus : ℕ → ℕ → ℕ
plus a b = if nat_le (a + b) last_number then a + b else last_number

-- the bytes of a page
abbrev pub page : ℕ
page = 4096

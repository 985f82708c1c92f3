-- Numbers of four and of eight bytes, the lowest first.
use Rattle.std.specs.Prelude.{ℕ, List, take, drop}
use Rattle.std.specs.Int.{w32, w64, from_le_bytes, to_le_bytes}

-- the four bytes of a number, and the number that the four bytes from a place on spell
abbrev pub four_bytes : ℕ → List ℕ
four_bytes n = to_le_bytes w32 n

abbrev pub four_at : ℕ → List ℕ → ℕ
four_at i bytes = from_le_bytes w32 (take 4 (drop i bytes))

-- the same of eight bytes
abbrev pub eight_bytes : ℕ → List ℕ
eight_bytes n = to_le_bytes w64 n

abbrev pub eight_at : ℕ → List ℕ → ℕ
eight_at i bytes = from_le_bytes w64 (take 8 (drop i bytes))

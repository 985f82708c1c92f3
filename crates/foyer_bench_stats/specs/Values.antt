-- The values that are put.
use Rattle.std.specs.Prelude.{◌≡◌, ℕ, List, length, take, min}
use Rattle.std.specs.Int.{to_le_bytes, w64}

-- the bytes that the value of a key begins with, as far as the value is long enough
abbrev pub start_of : ℕ → List ℕ → List ℕ
start_of key value = take (min (length value) 8) (to_le_bytes w64 key)

-- the value begins with its key's bytes, as far as it is long
abbrev pub IsValueOf : ℕ → List ℕ → Type 0
IsValueOf key value = take 8 value ≡ start_of key value

-- Numbers that are read are those that were written.
use Rattle.std.proofs.Common.{◌≡◌, ℕ, ◌+◌, ◌^◌, ◌<◌, ◌≤◌, List, ◌++◌, length, get_or, take, drop, refl, sym, ap, ◌∙◌, arith, inl, inr}
use Rattle.std.proofs.lemmas.Bool.{cases_lt}
use Rattle.std.proofs.lemmas.List.{take-append-drop, length-take, length-drop, get_or-drop, get_or-take, get_or_past, drop-drop}
use Rattle.std.proofs.lemmas.Nat.{le_bytes_4, le_bytes_8}
use Rattle.foyer_memcached.specs.Numbers.{four_bytes, four_at, eight_bytes, eight_at}

abbrev pub IsBytes : List ℕ → Type 0
IsBytes bytes = (i : ℕ) → get_or bytes i 0 < 256

pub IsBytes-drop : (n : ℕ) (bytes : List ℕ) → IsBytes bytes → IsBytes (drop n bytes)
IsBytes-drop n bytes h i = rw get_or-drop (h (n + i))

pub IsBytes-take : (n : ℕ) (bytes : List ℕ) → IsBytes bytes → IsBytes (take n bytes)
IsBytes-take n bytes h i =
    elim (cases_lt i n) [
      | inl lt ↦ rw (get_or-take n bytes i 0 lt) (h i)
      | inr le ↦ rw (get_or_past (take n bytes) i 0 (omega (arith, length-take n bytes))) (omega arith)
    ]

-- four bytes are the number that they spell
pub four : (i : ℕ) (bytes : List ℕ) → IsBytes bytes → i + 4 ≤ length bytes → drop i bytes ≡ four_bytes (four_at i bytes) ++ drop (i + 4) bytes
four i bytes fits le =
    let len : length (take 4 (drop i bytes)) ≡ 4 = omega (arith, length-take 4 (drop i bytes), length-drop i bytes) in
    let front : four_bytes (four_at i bytes) ≡ take 4 (drop i bytes) = le_bytes_4 (take 4 (drop i bytes)) (four_at i bytes) len (IsBytes-take 4 (drop i bytes) (IsBytes-drop i bytes fits)) refl in
    sym (take-append-drop 4 (drop i bytes)) ∙ ap (λ (t : List ℕ). t ++ drop 4 (drop i bytes)) (sym front) ∙ ap (λ (t : List ℕ). four_bytes (four_at i bytes) ++ t) (drop-drop 4 i bytes)

pub four_fits : (i : ℕ) (bytes : List ℕ) → IsBytes bytes → four_at i bytes < 2 ^ 32
four_fits i bytes fits =
    let t = IsBytes-take 4 (drop i bytes) (IsBytes-drop i bytes fits) in
    omega (arith, t 0, t 1, t 2, t 3)

-- and eight
pub eight : (i : ℕ) (bytes : List ℕ) → IsBytes bytes → i + 8 ≤ length bytes → drop i bytes ≡ eight_bytes (eight_at i bytes) ++ drop (i + 8) bytes
eight i bytes fits le =
    let len : length (take 8 (drop i bytes)) ≡ 8 = omega (arith, length-take 8 (drop i bytes), length-drop i bytes) in
    let front : eight_bytes (eight_at i bytes) ≡ take 8 (drop i bytes) = le_bytes_8 (take 8 (drop i bytes)) (eight_at i bytes) len (IsBytes-take 8 (drop i bytes) (IsBytes-drop i bytes fits)) refl in
    sym (take-append-drop 8 (drop i bytes)) ∙ ap (λ (t : List ℕ). t ++ drop 8 (drop i bytes)) (sym front) ∙ ap (λ (t : List ℕ). eight_bytes (eight_at i bytes) ++ t) (drop-drop 8 i bytes)

pub eight_fits : (i : ℕ) (bytes : List ℕ) → IsBytes bytes → eight_at i bytes < 2 ^ 64
eight_fits i bytes fits =
    let t = IsBytes-take 8 (drop i bytes) (IsBytes-drop i bytes fits) in
    omega (arith, t 0, t 1, t 2, t 3, t 4, t 5, t 6, t 7)

-- A part of a range lies within it, and has the bytes that the range has there.
use Rattle.std.specs.Prelude.{◌≡◌, ℕ, ◌+◌, ◌-◌, ◌≤◌, List, length, take, drop, slice_range}
use Rattle.std.proofs.Common.{arith, ap, sym, ◌∙◌, length-take}
use Rattle.std.proofs.lemmas.Grind.{common_steps}
use Rattle.std.proofs.lemmas.List.{drop-drop, drop-take, take-take}

pub range_within : (xs : List ℕ) (a b k : ℕ) → a ≤ b → k ≤ length (slice_range xs a b) → a + k ≤ b
range_within xs a b k order within = grind (arith, common_steps)

cut_short : (xs : List ℕ) (i n m : ℕ) → n ≤ m → take n (drop i (take (i + m) xs)) ≡ take n (drop i xs)
cut_short xs i n m le = rw drop-take (take-take n m (drop i xs) le)

pub range_of_range : (xs : List ℕ) (a b i j : ℕ) → a ≤ b → i ≤ j → j ≤ length (slice_range xs a b)
    → slice_range xs (a + i) (a + j) ≡ slice_range (slice_range xs a b) i j
range_of_range xs a b i j order inside within =
    let wide : j ≤ b - a = omega (arith, length-take (b - a) (drop a xs), within) in
    let whole : b - a ≡ i + ((b - a) - i) = omega arith in
    let count : (a + j) - (a + i) ≡ j - i = omega arith in
    let le : j - i ≤ (b - a) - i = omega arith in
    ap (λ n. take n (drop (a + i) xs)) count ∙ ap (take (j - i)) (sym (drop-drop i a xs))
    ∙ sym (cut_short (drop a xs) i (j - i) ((b - a) - i) le)
    ∙ sym (ap (λ n. take (j - i) (drop i (take n (drop a xs)))) whole)

pub ruleset parts = (range_within, range_of_range)

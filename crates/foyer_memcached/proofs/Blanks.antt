-- Blanks at the end of a value.
use Rattle.std.proofs.Common.{◌≡◌, ℕ, ◌-◌, ◌<◌, ◌≤◌, zero, suc, Bool, cond, List, [], ◌∷◌, length, get_or, take, refl, sym, ap, ◌∙◌, arith}
use Rattle.std.proofs.lemmas.Bool.{ne_eqb, eq-eqb}
use Rattle.foyer_memcached.specs.Turn.{before_blanks, without_blanks}

-- one blank less
pub one_less : (n : ℕ) (xs : List ℕ) → n < length xs → get_or xs n 0 ≡ 32 → without_blanks (take (suc n) xs) ≡ without_blanks (take n xs)
unfolding without_blanks
one_less n [] lt at = absurd (omega (arith, lt))
one_less zero (x ∷ xs) lt at = ap (λ (t : Bool). cond t [] (x ∷ [])) (eq-eqb x 32 at)
one_less (suc n) (x ∷ xs) lt at = ap (before_blanks x) (one_less n xs (omega (arith, lt)) at)

-- no blank at the end
pub none_left : (n : ℕ) (xs : List ℕ) → n < length xs → (get_or xs n 0 ≡ 32 → ⊥) → without_blanks (take (suc n) xs) ≡ take (suc n) xs
unfolding without_blanks
none_left n [] lt not = absurd (omega (arith, lt))
none_left zero (x ∷ xs) lt not = ap (λ (t : Bool). cond t [] (x ∷ [])) (ne_eqb x 32 not)
none_left (suc n) (x ∷ xs) lt not = ap (before_blanks x) (none_left n xs (omega (arith, lt)) not) ∙ longer x xs n (omega (arith, lt))
  where
    longer : (x : ℕ) (xs : List ℕ) (n : ℕ) → n < length xs → before_blanks x (take (suc n) xs) ≡ x ∷ take (suc n) xs
    longer x [] n lt = absurd (omega (arith, lt))
    longer x (y ∷ ys) n lt = refl

pub nothing_left : (xs : List ℕ) → without_blanks (take 0 xs) ≡ take 0 xs
unfolding without_blanks
nothing_left [] = refl
nothing_left (x ∷ xs) = refl

pub less_by_one : (end : ℕ) (xs : List ℕ) → 0 < end → end ≤ length xs → get_or xs (end - 1) 0 ≡ 32 → without_blanks (take (end - 1) xs) ≡ without_blanks (take end xs)
less_by_one end xs some within at =
    let next : suc (end - 1) ≡ end = omega (arith, some) in
    sym (one_less (end - 1) xs (omega (arith, some, within)) at) ∙ ap (λ (n : ℕ). without_blanks (take n xs)) next

pub all_taken : (end : ℕ) (xs : List ℕ) → 0 < end → end ≤ length xs → (get_or xs (end - 1) 0 ≡ 32 → ⊥) → without_blanks (take end xs) ≡ take end xs
all_taken end xs some within not =
    let next : suc (end - 1) ≡ end = omega (arith, some) in
    ap (λ (n : ℕ). without_blanks (take n xs)) (sym next) ∙ none_left (end - 1) xs (omega (arith, some, within)) not ∙ ap (λ (n : ℕ). take n xs) next

pub nothing_taken : (end : ℕ) (xs : List ℕ) → end ≤ 0 → without_blanks (take end xs) ≡ take end xs
nothing_taken end xs none =
    let zero_is : end ≡ 0 = omega (arith, none) in
    ap (λ (n : ℕ). without_blanks (take n xs)) zero_is ∙ nothing_left xs ∙ ap (λ (n : ℕ). take n xs) (sym zero_is)

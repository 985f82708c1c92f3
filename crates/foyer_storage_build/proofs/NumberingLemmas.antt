-- The numbers from 0 on, one more at a time.
use Rattle.std.proofs.Common.{◌≡◌, ◌+◌, ◌∙◌, ℕ, [], ◌∷◌, ◌++◌, zero, suc, sym, ap, add-one, add-zero, arith}
use Rattle.std.specs.List.{range_with_len}

numbers_from : (a n : ℕ) → range_with_len a (suc n) ≡ range_with_len a n ++ (a + n) ∷ []
numbers_from a zero = ap (λ x. x ∷ []) (sym (add-zero a))
numbers_from a (suc n) =
    let sum : a + 1 + n ≡ a + suc n = omega arith in
    ap (λ xs. a ∷ xs) (numbers_from (a + 1) n ∙ ap (λ x. range_with_len (a + 1) n ++ x ∷ []) sum)

pub numbers_more : (n : ℕ) → range_with_len 0 (n + 1) ≡ range_with_len 0 n ++ n ∷ []
numbers_more n =
    let sum : 0 + n ≡ n = omega arith in
    ap (range_with_len 0) (add-one n) ∙ numbers_from 0 n ∙ ap (λ x. range_with_len 0 n ++ x ∷ []) sum

-- Bytes that come in pieces.
use Rattle.std.proofs.Common.{◌≡◌, ℕ, ◌-◌, List, [], ◌∷◌, ◌++◌, length, drop, zero, suc, ap, ◌∙◌, append_assoc, arith}
use Rattle.std.proofs.lemmas.List.{length-append}
use Rattle.foyer_memcached.specs.Input.{pushed}

drop_both : (n : ℕ) (a b : List ℕ) → drop n a ++ drop (n - length a) b ≡ drop n (a ++ b)
drop_both zero a b =
    let none : zero - length a ≡ 0 = omega arith in
    ap (λ (k : ℕ). a ++ drop k b) none
drop_both (suc n) [] b =
    let all : suc n - length {A = ℕ} [] ≡ suc n = omega arith in
    ap (λ (k : ℕ). drop k b) all
drop_both (suc n) (x ∷ xs) b =
    let less : suc n - length (x ∷ xs) ≡ n - length xs = omega arith in
    ap (λ (k : ℕ). drop n xs ++ drop k b) less ∙ drop_both n xs b

pub again : (old : List ℕ × ℕ) (a b : List ℕ) → pushed (pushed old a) b ≡ pushed old (a ++ b)
again old a b =
    let rest : (old.0 ++ drop old.1 a) ++ drop (old.1 - length a) b ≡ old.0 ++ drop old.1 (a ++ b) =
    append_assoc old.0 (drop old.1 a) (drop (old.1 - length a) b) ∙ ap (λ (t : List ℕ). old.0 ++ t) (drop_both old.1 a b) in
    let over : (old.1 - length a) - length b ≡ old.1 - length (a ++ b) = omega (arith, length-append a b) in
    (ap (λ (t : List ℕ). (t, (old.1 - length a) - length b)) rest) ∙ ap (λ (n : ℕ). (old.0 ++ drop old.1 (a ++ b), n)) over

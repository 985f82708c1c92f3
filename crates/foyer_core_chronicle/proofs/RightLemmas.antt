-- How often rights stand in lists.
use Rattle.std.proofs.Common.{◌≡◌, ℕ, suc, ◌+◌, ◌<◌, ◌≤◌, ◌==◌, List, [], ◌∷◌, ◌++◌, Bool, true, false, if◌then◌else◌, refl, ap, arith}
use Rattle.std.proofs.lemmas.Bool.Decides.{nat_tests}
use Rattle.foyer_core_chronicle.specs.Rights.{one, times, only, without, first_of, others_of, fresh}

pub times_append : (k : ℕ) (xs ys : List ℕ) → times k (xs ++ ys) ≡ times k xs + times k ys
times_append k [] ys = omega arith
times_append k (x ∷ xs) ys = let h : times k (xs ++ ys) ≡ times k xs + times k ys = times_append k xs ys in omega arith

pub cut : (k : ℕ) (ks : List ℕ) → times k (first_of ks) + times k (others_of ks) ≡ times k ks
cut k [] = refl
cut k (x ∷ xs) = omega arith

-- one right and the others are all
pub cut_out : (n k : ℕ) (ks : List ℕ) → times k (only n ks) + times k (without n ks) ≡ times k ks
cut_out n k [] = refl
cut_out n k (x ∷ xs) = go (x == n) (cut_out n k xs)
  where
    go : (b : Bool) → times k (only n xs) + times k (without n xs) ≡ times k xs
        → times k (if b then x ∷ only n xs else only n xs) + times k (if b then without n xs else x ∷ without n xs) ≡ times k (x ∷ xs)
    go true h = omega arith
    go false h = omega arith

-- another right isn't cut out
one_other : (x k n : ℕ) → (k ≡ n → ⊥) → x ≡ n → (b : Bool) → (x == k) ≡ b → one b ≡ 0
one_other x k n apart same true is = let h : x ≡ k = grind (arith, nat_tests) in absurd (apart (omega arith))
one_other x k n apart same false is = refl

pub cut_free : (n k : ℕ) (ks : List ℕ) → (k ≡ n → ⊥) → times k (only n ks) ≡ 0
cut_free n k [] apart = refl
cut_free n k (x ∷ xs) apart = go (x == n) refl (cut_free n k xs apart)
  where
    go : (b : Bool) → (x == n) ≡ b → times k (only n xs) ≡ 0 → times k (if b then x ∷ only n xs else only n xs) ≡ 0
    go true is h =
        let same : x ≡ n = grind (arith, nat_tests) in
        let none : one (x == k) ≡ 0 = one_other x k n apart same (x == k) refl in
        omega arith
    go false is h = h

-- and the one is, wholly
pub cut_whole : (n : ℕ) (ks : List ℕ) → times n (without n ks) ≡ 0
cut_whole n [] = refl
cut_whole n (x ∷ xs) = go (x == n) refl (cut_whole n xs)
  where
    go : (b : Bool) → (x == n) ≡ b → times n (without n xs) ≡ 0 → times n (if b then without n xs else x ∷ without n xs) ≡ 0
    go true is h = h
    go false is h = let none : one (x == n) ≡ 0 = ap one is in omega arith

fresh_one : (n k : ℕ) (h : ℕ) → h ≤ 1 → (n ≤ k → h ≡ 0) → (b : Bool) → (n == k) ≡ b → h + one b ≤ 1
fresh_one n k h le none true is = let same : n ≡ k = grind (arith, nat_tests) in let z : h ≡ 0 = none (omega arith) in omega arith
fresh_one n k h le none false is = omega arith

pub fresh_count : (n k h : ℕ) (m : Bool) → h ≤ 1 → (n ≤ k → h ≡ 0) → h + times k (fresh n m) ≤ 1
fresh_count n k h false le none = omega arith
fresh_count n k h true le none = let f : h + one (n == k) ≤ 1 = fresh_one n k h le none (n == k) refl in omega arith

not_fresh : (n k : ℕ) → suc n ≤ k → (b : Bool) → (n == k) ≡ b → one b ≡ 0
not_fresh n k lt true is = let same : n ≡ k = grind (arith, nat_tests) in absurd (omega arith)
not_fresh n k lt false is = refl

pub fresh_none : (n k : ℕ) (m : Bool) → n + one m ≤ k → times k (fresh n m) ≡ 0
fresh_none n k false le = refl
fresh_none n k true le = let f : one (n == k) ≡ 0 = not_fresh n k (omega arith) (n == k) refl in omega arith

is_same : (k : ℕ) (b : Bool) → (k == k) ≡ b → one b ≡ 1
is_same k true is = refl
is_same k false is = let differ : k ≡ k → ⊥ = grind (arith, nat_tests) in absurd (differ refl)

pub fresh_there : (k : ℕ) → 0 < times k (fresh k true)
fresh_there k = let h : one (k == k) ≡ 1 = is_same k (k == k) refl in omega arith

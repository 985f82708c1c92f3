-- Maps that are functions, ascending lists, and reads of a block's bytes.
use Rattle.std.proofs.Common.{◌≡◌, ℕ, ◌+◌, ◌≤◌, ◌==◌, Bool, true, false, if◌then◌else◌, List, [], ◌∷◌, ◌++◌, Some, None, refl, sym, subst, arith}
use Rattle.std.proofs.lemmas.Bool.{eqb-true, eqb-false}
use Rattle.foyer_core_model.specs.Numbers.{put}

-- what holds of the new value at k, and of the old ones elsewhere, holds of the map with it
pub put_at : {A : Type 0} (P : A → Type 0) (m : ℕ → A) (k : ℕ) (v : A) (q : ℕ) → (q ≡ k → P v) → ((q ≡ k → ⊥) → P (m q)) → P (put m k v q)
put_at {A} P m k v q at_k elsewhere = go (q == k) refl
  where
    go : (b : Bool) → (q == k) ≡ b → P (if b then v else m q)
    go true e = at_k (eqb-true q k e)
    go false e = elsewhere (eqb-false q k e)

pub put_same : {A : Type 0} (m : ℕ → A) (k : ℕ) (v : A) → put m k v k ≡ v
put_same m k v = put_at (λ x. x ≡ v) m k v k (λ _. refl) (λ ne. absurd (ne refl))

pub put_other : {A : Type 0} (m : ℕ → A) (k : ℕ) (v : A) (q : ℕ) → (q ≡ k → ⊥) → put m k v q ≡ m q
put_other m k v q ne = put_at (λ x. x ≡ m q) m k v q (λ e. absurd (ne e)) (λ _. refl)

pub is_none_some : {A : Type 0} {x : A} → None ≡ Some x → ⊥
is_none_some e = cc

-- ascending numbers from low on, all below high
abbrev pub Ascends : ℕ → List ℕ → ℕ → Type 0
Ascends low [] high = low ≤ high
Ascends low (x ∷ xs) high = (low ≤ x) × Ascends (x + 1) xs high

pub ascends_span : (low : ℕ) (xs : List ℕ) (high : ℕ) → Ascends low xs high → low ≤ high
ascends_span low [] high h = h
ascends_span low (x ∷ xs) high h = let r : x + 1 ≤ high = ascends_span (x + 1) xs high h.1 in let l : low ≤ x = h.0 in omega arith

pub ascends_from : (less low : ℕ) (xs : List ℕ) (high : ℕ) → less ≤ low → Ascends low xs high → Ascends less xs high
ascends_from less low [] high l h = omega arith
ascends_from less low (x ∷ xs) high l h = let a : low ≤ x = h.0 in (omega arith, h.1)

pub ascends_to : (low : ℕ) (xs : List ℕ) (high more : ℕ) → high ≤ more → Ascends low xs high → Ascends low xs more
ascends_to low [] high more l h = omega arith
ascends_to low (x ∷ xs) high more l h = (h.0, ascends_to (x + 1) xs high more l h.1)

pub ascends_push : (low : ℕ) (xs : List ℕ) (high x : ℕ) → high ≤ x → Ascends low xs high → Ascends low (xs ++ x ∷ []) (x + 1)
ascends_push low [] high x l h = (omega arith, omega arith)
ascends_push low (y ∷ ys) high x l h = (h.0, ascends_push (y + 1) ys high x l h.1)

-- all numbers are at least low
abbrev pub AllAtLeast : ℕ → List ℕ → Type 0
AllAtLeast low [] = Unit {0}
AllAtLeast low (x ∷ xs) = (low ≤ x) × AllAtLeast low xs

pub at_least_less : (less low : ℕ) (xs : List ℕ) → less ≤ low → AllAtLeast low xs → AllAtLeast less xs
at_least_less less low [] l h = tt
at_least_less less low (x ∷ xs) l h = let a : low ≤ x = h.0 in (omega arith, at_least_less less low xs l h.1)

pub ascends_at_least : (low : ℕ) (xs : List ℕ) (high : ℕ) → Ascends low xs high → AllAtLeast low xs
ascends_at_least low [] high h = tt
ascends_at_least low (x ∷ xs) high h =
    let a : low ≤ x = h.0 in (h.0, at_least_less low (x + 1) xs (omega arith) (ascends_at_least (x + 1) xs high h.1))

-- one place of a map changes, and each place keeps its fact
pub put_one : {A : Type 0} (P : ℕ → A → Type 0) (m : ℕ → A) (k : ℕ) (v : A) → P k v → ((q : ℕ) → (q ≡ k → ⊥) → P q (m q)) → (q : ℕ) → P q (put m k v q)
put_one P m k v here others q = put_at (P q) m k v q (λ e. subst (λ i. P i v) (sym e) here) (λ ne. others q ne)

pub put_both : {A B : Type 0} (P : ℕ → A → B → Type 0) (m : ℕ → A) (n : ℕ → B) (k : ℕ) (v : A) (u : B)
    → P k v u → ((q : ℕ) → (q ≡ k → ⊥) → P q (m q) (n q)) → (q : ℕ) → P q (put m k v q) (put n k u q)
put_both {A} {B} P m n k v u here others q = go (q == k) refl
  where
    go : (b : Bool) → (q == k) ≡ b → P q (if b then v else m q) (if b then u else n q)
    go true e = subst (λ i. P i v u) (sym (eqb-true q k e)) here
    go false e = others q (eqb-false q k e)

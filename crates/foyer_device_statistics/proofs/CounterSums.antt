-- Sums over all seats.
use Rattle.std.proofs.Common.{◌≡◌, ℕ, zero, suc, ◌+◌, ◌≤◌, List, [], ◌∷◌, ◌++◌, set, refl, sym, ap, arith}
use mathlib.Core.Option.{some, some-injective, some-ne-none}
use lib.ListN.{get_elem?}
use Rattle.foyer_device_statistics.specs.declared.view.View.{View}
use Rattle.foyer_device_statistics.specs.Counted.{total}

pub total_set : (f : View → ℕ) (views : List View) (id : ℕ) (v w : View) → get_elem? views id ≡ some v → total f (set views id w) + f v ≡ total f views + f w
total_set f [] id v w e = absurd (some-ne-none v (sym e))
total_set f (x ∷ xs) zero v w e = let s = ap f (some-injective x v e) in omega arith
total_set f (x ∷ xs) (suc id) v w e = let t = total_set f xs id v w e in omega arith

pub total_snoc : (f : View → ℕ) (views : List View) (w : View) → total f (views ++ w ∷ []) ≡ total f views + f w
total_snoc f [] w = omega arith
total_snoc f (x ∷ xs) w = let t = total_snoc f xs w in omega arith

pub total_member : (f : View → ℕ) (views : List View) (id : ℕ) (v : View) → get_elem? views id ≡ some v → f v ≤ total f views
total_member f [] id v e = absurd (some-ne-none v (sym e))
total_member f (x ∷ xs) zero v e = let s = ap f (some-injective x v e) in omega arith
total_member f (x ∷ xs) (suc id) v e = let t = total_member f xs id v e in omega arith

-- if nobody has a part, nobody has anything
total_none : (p f : View → ℕ) (views : List View) → ((id : ℕ) (v : View) → get_elem? views id ≡ some v → p v ≡ 0 → f v ≡ 0) → total p views ≡ 0 → total f views ≡ 0
total_none p f [] idle none = refl
total_none p f (x ∷ xs) idle none =
    let a : f x ≡ 0 = idle 0 x refl (omega arith) in
    let b = total_none p f xs (λ id v e. idle (suc id) v e) (omega arith) in omega arith

-- who has every part has everything
pub total_only : (p f : View → ℕ) (views : List View) (id : ℕ) (v : View) → get_elem? views id ≡ some v
    → ((j : ℕ) (u : View) → get_elem? views j ≡ some u → p u ≡ 0 → f u ≡ 0) → total p views ≡ p v → total f views ≡ f v
total_only p f [] id v e idle all = absurd (some-ne-none v (sym e))
total_only p f (x ∷ xs) zero v e idle all =
    let s = ap f (some-injective x v e) in let q = ap p (some-injective x v e) in
    let b = total_none p f xs (λ j u h. idle (suc j) u h) (omega arith) in omega arith
total_only p f (x ∷ xs) (suc id) v e idle all =
    let m = total_member p xs id v e in
    let a : f x ≡ 0 = idle 0 x refl (omega arith) in
    let b = total_only p f xs id v e (λ j u h. idle (suc j) u h) (omega arith) in omega arith

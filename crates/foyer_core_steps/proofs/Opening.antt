-- Lists that an opening makes.
use Rattle.std.proofs.Common.{◌≡◌, ℕ, ◌+◌, zero, suc, List, [], ◌∷◌, ◌++◌, map, refl, ap, ◌∙◌, sym, add-one}
use Rattle.std.specs.Prelude.{replicate}

-- one more at the end of copies
pub replicate-end : {X : Type 0} (n : ℕ) (x : X) → replicate n x ++ x ∷ [] ≡ replicate (n + 1) x
replicate-end {X} n x = go n ∙ ap (λ k. replicate k x) (sym (add-one n))
  where
    go : (k : ℕ) → replicate k x ++ x ∷ [] ≡ replicate (suc k) x
    go zero = refl
    go (suc k) = ap (λ xs. x ∷ xs) (go k)

pub map-end : {X Y : Type 0} (f : X → Y) (xs : List X) (x : X) → map f (xs ++ x ∷ []) ≡ map f xs ++ f x ∷ []
map-end f [] x = refl
map-end f (y ∷ ys) x = ap (λ zs. f y ∷ zs) (map-end f ys x)

-- Lists joined and taken apart.
use Rattle.std.specs.Prelude.{List, [], ◌∷◌, ◌++◌}
use Rattle.foyer_format_layout.specs.Each.{Each}

module _ {X : Type 0} (P : X → Type 0) where
  pub each_join : (xs ys : List X) → Each P xs → Each P ys → Each P (xs ++ ys)
  each_join [] ys h k = k
  each_join (x ∷ xs) ys h k = (h.0, each_join xs ys h.1 k)

  pub each_front : (xs ys : List X) → Each P (xs ++ ys) → Each P xs
  each_front [] ys h = tt
  each_front (x ∷ xs) ys h = (h.0, each_front xs ys h.1)

  pub each_back : (xs ys : List X) → Each P (xs ++ ys) → Each P ys
  each_back [] ys h = h
  each_back (x ∷ xs) ys h = each_back xs ys h.1

pub each_weaker : {X : Type 0} (P Q : X → Type 0) (xs : List X) → ((x : X) → P x → Q x) → Each P xs → Each Q xs
each_weaker P Q [] less h = tt
each_weaker P Q (x ∷ xs) less h = (less x h.0, each_weaker P Q xs less h.1)

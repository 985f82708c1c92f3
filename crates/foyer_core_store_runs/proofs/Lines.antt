-- Lists of pieces that are returned in order, except those that no longer matter.
use Rattle.std.proofs.Common.{◌≡◌, ℕ, ◌<◌, List, [], ◌∷◌, ◌++◌, ◌⊎◌, inl, inr, sym, subst}
use Rattle.foyer_format_layout.specs.Each.{Each}
use Rattle.foyer_format_layout.proofs.EachLaws.{each_back, each_join, each_front}

-- a piece with its sequence is in the list
abbrev pub IsIn : {X : Type 0} → X → List X → Type 0
IsIn x [] = ⊥
IsIn x (y ∷ ys) = (x ≡ y) ⊎ IsIn x ys

module _ {X : Type 0} (x : X) where
  pub in_front : (xs ys : List X) → IsIn x xs → IsIn x (xs ++ ys)
  in_front [] ys is = absurd is
  in_front (z ∷ xs) ys is = elim is [ inl e ↦ inl e | inr later ↦ inr (in_front xs ys later) ]

  pub in_back : (xs ys : List X) → IsIn x ys → IsIn x (xs ++ ys)
  in_back [] ys is = is
  in_back (z ∷ xs) ys is = inr (in_back xs ys is)

  pub in_either : (xs ys : List X) → IsIn x (xs ++ ys) → IsIn x xs ⊎ IsIn x ys
  in_either [] ys is = inr is
  in_either (z ∷ xs) ys is = elim is [ inl e ↦ inl (inl e) | inr later ↦ elim (in_either xs ys later) [ inl a ↦ inl (inr a) | inr b ↦ inr b ] ]

pub each_in : {X : Type 0} (P : X → Type 0) (x : X) (xs : List X) → Each P xs → IsIn x xs → P x
each_in P x [] all is = absurd is
each_in P x (y ∷ ys) all is = elim is [ inl e ↦ subst P (sym e) all.0 | inr later ↦ each_in P x ys all.1 later ]

module _ {C : Type 0} where
  -- each piece is older than all behind it, or is past
  abbrev pub InLine : (ℕ × C → Type 0) → List (ℕ × C) → Type 0
  InLine Past [] = Unit {0}
  InLine Past (p ∷ ps) = (Past p ⊎ Each (λ q. p.0 < q.0) ps) × InLine Past ps

  pub line_more : (P Q : ℕ × C → Type 0) (ps : List (ℕ × C)) → ((p : ℕ × C) → P p → Q p) → InLine P ps → InLine Q ps
  line_more P Q [] more ok = tt
  line_more P Q (p ∷ ps) more ok = (elim ok.0 [ inl past ↦ inl (more p past) | inr older ↦ inr older ], line_more P Q ps more ok.1)

  pub line_pushed : (P : ℕ × C → Type 0) (ps : List (ℕ × C)) (q : ℕ × C) → InLine P ps → Each (λ p. p.0 < q.0) ps → InLine P (ps ++ q ∷ [])
  line_pushed P [] q ok below = (inr tt, tt)
  line_pushed P (p ∷ ps) q ok below =
      (elim ok.0 [ inl past ↦ inl past | inr older ↦ inr (each_join (λ r. p.0 < r.0) ps (q ∷ []) older (below.0, tt)) ], line_pushed P ps q ok.1 below.1)

  -- what holds of all holds with one moved to another place
  pub each_moved : (P : ℕ × C → Type 0) (xs ys zs : List (ℕ × C)) (q : ℕ × C) → Each P (xs ++ (ys ++ q ∷ zs)) → Each P ((xs ++ q ∷ []) ++ (ys ++ zs))
  each_moved P xs ys zs q all =
      let back : Each P (ys ++ q ∷ zs) = each_back P xs (ys ++ q ∷ zs) all in
      let last : Each P (q ∷ zs) = each_back P ys (q ∷ zs) back in
      each_join P (xs ++ q ∷ []) (ys ++ zs) (each_join P xs (q ∷ []) (each_front P xs (ys ++ q ∷ zs) all) (last.0, tt))
      (each_join P ys zs (each_front P ys (q ∷ zs) back) last.1)

  line_dropped : (P : ℕ × C → Type 0) (ys zs : List (ℕ × C)) (q : ℕ × C) → InLine P (ys ++ q ∷ zs) → InLine P (ys ++ zs)
  line_dropped P [] zs q ok = ok.1
  line_dropped P (y ∷ ys) zs q ok = (
    elim ok.0 [
      | inl past ↦ inl past
      | inr older ↦ inr (each_join (λ r. y.0 < r.0) ys zs (each_front (λ r. y.0 < r.0) ys (q ∷ zs) older) (each_back (λ r. y.0 < r.0) ys (q ∷ zs) older).1)
    ],
    line_dropped P ys zs q ok.1,
  )

  -- one that is past may overtake others
  pub line_moved : (P : ℕ × C → Type 0) (xs ys zs : List (ℕ × C)) (q : ℕ × C) → InLine P (xs ++ (ys ++ q ∷ zs)) → P q → InLine P ((xs ++ q ∷ []) ++ (ys ++ zs))
  line_moved P [] ys zs q ok past = (inl past, line_dropped P ys zs q ok)
  line_moved P (x ∷ xs) ys zs q ok past =
      (elim ok.0 [ inl gone ↦ inl gone | inr older ↦ inr (each_moved (λ r. x.0 < r.0) xs ys zs q older) ], line_moved P xs ys zs q ok.1 past)

pub in_moved : {X : Type 0} (x : X) (xs ys zs : List X) (q : X) → IsIn x (xs ++ (ys ++ q ∷ zs)) → IsIn x ((xs ++ q ∷ []) ++ (ys ++ zs))
in_moved x xs ys zs q is =
    elim (in_either x xs (ys ++ q ∷ zs) is) [
      | inl a ↦ in_front x (xs ++ q ∷ []) (ys ++ zs) (in_front x xs (q ∷ []) a)
      | inr b ↦ elim (in_either x ys (q ∷ zs) b) [
        | inl c ↦ in_back x (xs ++ q ∷ []) (ys ++ zs) (in_front x ys zs c)
        | inr d ↦ elim d [
          | inl e ↦ in_front x (xs ++ q ∷ []) (ys ++ zs) (in_back x xs (q ∷ []) (inl e))
          | inr later ↦ in_back x (xs ++ q ∷ []) (ys ++ zs) (in_back x ys zs later)
        ]
      ]
    ]

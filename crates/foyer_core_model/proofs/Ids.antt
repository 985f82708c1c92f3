-- Lists of ids.
use Rattle.std.proofs.Common.{◌≡◌, ℕ, ◌==◌, Bool, true, false, ◌||◌, if◌then◌else◌, List, [], ◌∷◌, ◌++◌, ◌⊎◌, inl, inr, refl, sym, subst, ◌∙◌}
use Rattle.std.proofs.lemmas.Bool.{eqb-true, eqb-false}
use Rattle.foyer_core_model.specs.Ids.{is_id_in, without_id, with_id, AreDistinct}

pub same_in : (b : ℕ) (bs : List ℕ) → is_id_in b (b ∷ bs) ≡ true
same_in b bs = go (b == b) refl
  where
    go : (t : Bool) → (b == b) ≡ t → (t || is_id_in b bs) ≡ true
    go true e = refl
    go false e = absurd (eqb-false b b e refl)

pub later_in : (b c : ℕ) (bs : List ℕ) → is_id_in b bs ≡ true → is_id_in b (c ∷ bs) ≡ true
later_in b c bs is = go (b == c)
  where
    go : (t : Bool) → (t || is_id_in b bs) ≡ true
    go true = refl
    go false = is

-- an id of a list is its first or among the rest
pub in_cases : (q x : ℕ) (xs : List ℕ) → is_id_in q (x ∷ xs) ≡ true → (q ≡ x) ⊎ (is_id_in q xs ≡ true)
in_cases q x xs is = go (q == x) refl is
  where
    go : (t : Bool) → (q == x) ≡ t → (t || is_id_in q xs) ≡ true → (q ≡ x) ⊎ (is_id_in q xs ≡ true)
    go true e h = inl (eqb-true q x e)
    go false e h = inr h

pub not_in_cases : (q x : ℕ) (xs : List ℕ) → is_id_in q (x ∷ xs) ≡ false → (q ≡ x → ⊥) × (is_id_in q xs ≡ false)
not_in_cases q x xs is = go (q == x) refl is
  where
    go : (t : Bool) → (q == x) ≡ t → (t || is_id_in q xs) ≡ false → (q ≡ x → ⊥) × (is_id_in q xs ≡ false)
    go true e h = absurd cc
    go false e h = (eqb-false q x e, h)

pub not_in_both : (q x : ℕ) (xs : List ℕ) → (q ≡ x → ⊥) → is_id_in q xs ≡ false → is_id_in q (x ∷ xs) ≡ false
not_in_both q x xs ne is = go (q == x) refl
  where
    go : (t : Bool) → (q == x) ≡ t → (t || is_id_in q xs) ≡ false
    go true e = absurd (ne (eqb-true q x e))
    go false e = is

pub in_append : (q x : ℕ) (xs : List ℕ) → is_id_in q (xs ++ x ∷ []) ≡ true → (is_id_in q xs ≡ true) ⊎ (q ≡ x)
in_append q x [] is = elim (in_cases q x [] is) [ inl e ↦ inr e | inr h ↦ absurd (let e : false ≡ true = h in cc) ]
in_append q x (y ∷ ys) is =
    elim (in_cases q y (ys ++ x ∷ []) is) [
      | inl e ↦ inl (subst (λ k. is_id_in q (k ∷ ys) ≡ true) e (same_in q ys))
      | inr h ↦ elim (in_append q x ys h) [ inl there ↦ inl (later_in q y ys there) | inr e ↦ inr e ]
    ]

pub in_front : (q : ℕ) (xs ys : List ℕ) → is_id_in q xs ≡ true → is_id_in q (xs ++ ys) ≡ true
in_front q [] ys is = absurd (let e : false ≡ true = is in cc)
in_front q (x ∷ xs) ys is =
    elim (in_cases q x xs is) [
      | inl e ↦ subst (λ k. is_id_in q (k ∷ (xs ++ ys)) ≡ true) e (same_in q (xs ++ ys))
      | inr h ↦ later_in q x (xs ++ ys) (in_front q xs ys h)
    ]

pub in_last : (x : ℕ) (xs : List ℕ) → is_id_in x (xs ++ x ∷ []) ≡ true
in_last x [] = same_in x []
in_last x (y ∷ ys) = later_in x y (ys ++ x ∷ []) (in_last x ys)

pub in_without : (q x : ℕ) (ys : List ℕ) → is_id_in q (without_id x ys) ≡ true → (is_id_in q ys ≡ true) × (q ≡ x → ⊥)
in_without q x [] is = absurd (let e : false ≡ true = is in cc)
in_without q x (y ∷ ys) is = go (x == y) refl is (in_without q x ys)
  where
    go : (t : Bool) → (x == y) ≡ t → is_id_in q (if t then without_id x ys else y ∷ without_id x ys) ≡ true
        → (is_id_in q (without_id x ys) ≡ true → (is_id_in q ys ≡ true) × (q ≡ x → ⊥)) → (is_id_in q (y ∷ ys) ≡ true) × (q ≡ x → ⊥)
    go true e h rec = let r : (is_id_in q ys ≡ true) × (q ≡ x → ⊥) = rec h in (later_in q y ys r.0, r.1)
    go false e h rec =
        elim (in_cases q y (without_id x ys) h) [
          | inl at ↦ (subst (λ k. is_id_in q (k ∷ ys) ≡ true) at (same_in q ys), λ is_x. eqb-false x y e (sym is_x ∙ at))
          | inr there ↦ let r : (is_id_in q ys ≡ true) × (q ≡ x → ⊥) = rec there in (later_in q y ys r.0, r.1)
        ]

pub not_in_without : (q x : ℕ) (ys : List ℕ) → is_id_in q ys ≡ false → is_id_in q (without_id x ys) ≡ false
not_in_without q x [] is = refl
not_in_without q x (y ∷ ys) is =
    let r : (q ≡ y → ⊥) × (is_id_in q ys ≡ false) = not_in_cases q y ys is in
    go (x == y) (not_in_without q x ys r.1) r.0
  where
    go : (t : Bool) → is_id_in q (without_id x ys) ≡ false → (q ≡ y → ⊥) → is_id_in q (if t then without_id x ys else y ∷ without_id x ys) ≡ false
    go true rec ne = rec
    go false rec ne = not_in_both q y (without_id x ys) ne rec

pub distinct_without : (x : ℕ) (ys : List ℕ) → AreDistinct ys → AreDistinct (without_id x ys)
distinct_without x [] ok = tt
distinct_without x (y ∷ ys) ok = go (x == y) (distinct_without x ys ok.1)
  where
    go : (t : Bool) → AreDistinct (without_id x ys) → AreDistinct (if t then without_id x ys else y ∷ without_id x ys)
    go true rec = rec
    go false rec = (not_in_without y x ys ok.0, rec)

not_in_append : (q x : ℕ) (xs : List ℕ) → (q ≡ x → ⊥) → is_id_in q xs ≡ false → is_id_in q (xs ++ x ∷ []) ≡ false
not_in_append q x [] ne is = not_in_both q x [] ne refl
not_in_append q x (y ∷ ys) ne is =
    let r : (q ≡ y → ⊥) × (is_id_in q ys ≡ false) = not_in_cases q y ys is in
    not_in_both q y (ys ++ x ∷ []) r.0 (not_in_append q x ys ne r.1)

pub distinct_append : (x : ℕ) (xs : List ℕ) → is_id_in x xs ≡ false → AreDistinct xs → AreDistinct (xs ++ x ∷ [])
distinct_append x [] is ok = (refl, tt)
distinct_append x (y ∷ ys) is ok =
    let r : (x ≡ y → ⊥) × (is_id_in x ys ≡ false) = not_in_cases x y ys is in
    (not_in_append y x ys (λ e. r.0 (sym e)) ok.0, distinct_append x ys r.1 ok.1)

pub distinct_with : (x : ℕ) (xs : List ℕ) → AreDistinct xs → AreDistinct (with_id x xs)
distinct_with x xs ok = go (is_id_in x xs) refl
  where
    go : (t : Bool) → is_id_in x xs ≡ t → AreDistinct (if t then xs else xs ++ x ∷ [])
    go true e = ok
    go false e = distinct_append x xs e ok

pub in_with : (q x : ℕ) (xs : List ℕ) → is_id_in q (with_id x xs) ≡ true → (is_id_in q xs ≡ true) ⊎ (q ≡ x)
in_with q x xs given = go (is_id_in x xs) given
  where
    go : (t : Bool) → is_id_in q (if t then xs else xs ++ x ∷ []) ≡ true → (is_id_in q xs ≡ true) ⊎ (q ≡ x)
    go true is = inl is
    go false is = in_append q x xs is

pub in_not_in : (q : ℕ) (xs : List ℕ) → is_id_in q xs ≡ true → is_id_in q xs ≡ false → ⊥
in_not_in q xs is isnt = let e : true ≡ false = sym is ∙ isnt in cc

pub distinct_front : (x : ℕ) (xs : List ℕ) → AreDistinct (xs ++ x ∷ []) → AreDistinct xs × (is_id_in x xs ≡ false)
distinct_front x [] ok = (tt, refl)
distinct_front x (y ∷ ys) ok =
    let r : AreDistinct ys × (is_id_in x ys ≡ false) = distinct_front x ys ok.1 in
    ((front, r.0), not_in_both x y ys (λ e. in_not_in y (ys ++ x ∷ []) (subst (λ k. is_id_in k (ys ++ x ∷ []) ≡ true) e (in_last x ys)) ok.0) r.1)
  where
    front : is_id_in y ys ≡ false
    front = go (is_id_in y ys) refl
      where
        go : (t : Bool) → is_id_in y ys ≡ t → t ≡ false
        go true e = absurd (in_not_in y (ys ++ x ∷ []) (in_front y ys (x ∷ []) e) ok.0)
        go false e = refl

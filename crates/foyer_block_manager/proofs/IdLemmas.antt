-- Ids and the positions at which they are stored.
use Rattle.std.proofs.Common.{◌≡◌, ℕ, zero, suc, ◌+◌, ◌<◌, ◌≤◌, ◌≢◌, ◌==◌, Bool, true, false, ◌||◌, if◌then◌else◌, List, [], ◌∷◌, ◌++◌, length, length-append, length-set, slice_index, slice_set, refl, sym, ap, subst, ◌∙◌, arith}
use Rattle.std.proofs.Common.{get_or-set_other, get_or-set_same}
use Rattle.std.proofs.lemmas.Bool.{eqb-true, eqb-false, ne_eqb}
use Rattle.std.proofs.Math.ListN.{get_or-append}
use Rattle.std.proofs.Math.Seq.{get_or-append_seam}
use Rattle.foyer_core_model.specs.Ids.{is_id_in, without_id, AreDistinct}
use Rattle.foyer_core_model.proofs.Ids.{same_in, later_in, not_in_cases, in_not_in, not_in_without}
use Rattle.foyer_block_manager.specs.IdList.{IdList, AreStored, IsWithout}

-- each is below n
abbrev pub AllBelow : ℕ → List ℕ → Type 0
AllBelow n [] = Unit {0}
AllBelow n (x ∷ xs) = (x < n) × AllBelow n xs

-- an id of a list stands somewhere in it, and what stands there is in it
pub where_in : (x : ℕ) (xs : List ℕ) → is_id_in x xs ≡ true → (i : ℕ) × (i < length xs) × (slice_index xs i ≡ x)
where_in x [] is = absurd (let e : false ≡ true = is in cc)
where_in x (y ∷ ys) is = go (x == y) refl is (where_in x ys)
  where
    go : (t : Bool) → (x == y) ≡ t → (t || is_id_in x ys) ≡ true
        → (is_id_in x ys ≡ true → (i : ℕ) × (i < length ys) × (slice_index ys i ≡ x)) → (i : ℕ) × (i < length (y ∷ ys)) × (slice_index (y ∷ ys) i ≡ x)
    go true e h later = (0, omega arith, sym (eqb-true x y e))
    go false e h later = let r = later h in let lt : r.0 < length ys = r.1 in (suc r.0, omega arith, r.2)

-- the ids of a set are stored, and one that is there stands at its position
pub stands : (v : IdList) (ids at : List ℕ) (id : ℕ) → AreStored ids at → (λ (w : IdList). w) (record { ids = ids; bound = length at }) ≡ v
    → is_id_in id v.ids ≡ true → (i : ℕ) × (i < length ids) × (slice_index ids i ≡ id) × (id < length at) × (slice_index at id ≡ i)
stands v ids at id are view is =
    let w = where_in id ids (subst (λ (w : IdList). is_id_in id w.ids ≡ true) (sym view) is) in
    (w.0, w.1, w.2, subst (λ k. k < length at) w.2 (are.there w.0 w.1), ap (slice_index at) (sym w.2) ∙ are.position w.0 w.1)

pub in_at : (xs : List ℕ) (i : ℕ) → i < length xs → is_id_in (slice_index xs i) xs ≡ true
in_at [] i lt = absurd (omega arith)
in_at (x ∷ xs) zero lt = same_in x xs
in_at (x ∷ xs) (suc i) lt = later_in (slice_index xs i) x xs (in_at xs i (omega arith))

-- two tests that follow from each other
pub same_test : (a b : Bool) → (a ≡ true → b ≡ true) → (b ≡ true → a ≡ true) → a ≡ b
same_test true true p q = refl
same_test true false p q = sym (p refl)
same_test false true p q = q refl
same_test false false p q = refl

pub not_true : (a : Bool) → (a ≡ true → ⊥) → a ≡ false
not_true true is = absurd (is refl)
not_true false _ = refl

-- ids whose positions tell them apart are distinct
distinct_from : (f : ℕ → ℕ) (k : ℕ) (xs : List ℕ) → ((i : ℕ) → i < length xs → f (slice_index xs i) ≡ k + i) → AreDistinct xs
distinct_from f k [] position = tt
distinct_from f k (x ∷ xs) position = (
  not_true (is_id_in x xs) (λ is.
      let r = where_in x xs is in
      let lt : r.0 < length xs = r.1 in
      let here : f x ≡ k + 0 = position 0 (omega arith) in
      let there : f (slice_index xs r.0) ≡ k + suc r.0 = position (suc r.0) (omega arith) in
      let same : f (slice_index xs r.0) ≡ f x = ap f r.2 in
      omega arith),
  distinct_from f (k + 1) xs (λ i lt. let e : f (slice_index xs i) ≡ k + suc i = position (suc i) (omega arith) in omega arith),
)

pub stored_once : (ids at : List ℕ) → AreStored ids at → AreDistinct ids
stored_once ids at are = distinct_from (slice_index at) 0 ids (λ i lt. let e : slice_index at (slice_index ids i) ≡ i = are.position i lt in omega arith)

pub below_from : (n : ℕ) (xs : List ℕ) → ((i : ℕ) → i < length xs → slice_index xs i < n) → AllBelow n xs
below_from n [] there = tt
below_from n (x ∷ xs) there = (there 0 (omega arith), below_from n xs (λ i lt. there (suc i) (omega arith)))

-- a list that has an id once gets one shorter with it
without_same : (x : ℕ) (xs : List ℕ) → is_id_in x xs ≡ false → without_id x xs ≡ xs
without_same x [] is = refl
without_same x (y ∷ ys) is =
    let r : (x ≡ y → ⊥) × (is_id_in x ys ≡ false) = not_in_cases x y ys is in
    ap (λ t. if t then without_id x ys else y ∷ without_id x ys) (ne_eqb x y r.0) ∙ ap (λ l. y ∷ l) (without_same x ys r.1)

shorter : (x : ℕ) (xs : List ℕ) → AreDistinct xs → length xs ≤ length (without_id x xs) + 1
shorter x [] once = omega arith
shorter x (y ∷ ys) once = go (x == y) refl (shorter x ys once.1)
  where
    go : (t : Bool) → (x == y) ≡ t → length ys ≤ length (without_id x ys) + 1
        → length (y ∷ ys) ≤ length (if t then without_id x ys else y ∷ without_id x ys) + 1
    go true e le =
        let same : without_id x ys ≡ ys = without_same x ys (subst (λ k. is_id_in k ys ≡ false) (sym (eqb-true x y e)) once.0) in
        let len : length (without_id x ys) ≡ length ys = ap length same in omega arith
    go false e le = omega arith

below_less : (n : ℕ) (xs : List ℕ) → AllBelow (suc n) xs → AllBelow n (without_id n xs)
below_less n [] below = tt
below_less n (x ∷ xs) below = go (n == x) refl (below_less n xs below.1)
  where
    go : (t : Bool) → (n == x) ≡ t → AllBelow n (without_id n xs) → AllBelow n (if t then without_id n xs else x ∷ without_id n xs)
    go true e rest = rest
    go false e rest = let ne : n ≡ x → ⊥ = eqb-false n x e in let lt : x < suc n = below.0 in (grind arith, rest)

distinct_less : (x : ℕ) (ys : List ℕ) → AreDistinct ys → AreDistinct (without_id x ys)
distinct_less x [] ok = tt
distinct_less x (y ∷ ys) ok = go (x == y) (distinct_less x ys ok.1)
  where
    go : (t : Bool) → AreDistinct (without_id x ys) → AreDistinct (if t then without_id x ys else y ∷ without_id x ys)
    go true rec = rec
    go false rec = (not_in_without y x ys ok.0, rec)

-- there are no more distinct ids below n than n
pub count_below : (n : ℕ) (xs : List ℕ) → AreDistinct xs → AllBelow n xs → length xs ≤ n
count_below zero [] once below = omega arith
count_below zero (x ∷ xs) once below = let lt : x < 0 = below.0 in absurd (omega arith)
count_below (suc n) xs once below =
    let less : length (without_id n xs) ≤ n = count_below n (without_id n xs) (distinct_less n xs once) (below_less n xs below) in
    let le : length xs ≤ length (without_id n xs) + 1 = shorter n xs once in
    omega arith

-- so one that isn't there finds room
pub room_for : (n x : ℕ) (xs : List ℕ) → AreDistinct xs → AllBelow n xs → x < n → is_id_in x xs ≡ false → length xs < n
room_for n x xs once below lt not = let le : length (x ∷ xs) ≤ n = count_below n (x ∷ xs) (not, once) (lt, below) in omega arith

-- an id enters at the end
pub stored_push : (ids at : List ℕ) (id : ℕ) → AreStored ids at → id < length at → is_id_in id ids ≡ false
    → AreStored (ids ++ id ∷ []) (slice_set at id (length ids))
stored_push ids at id are lt not = record {
  small = let e : length (slice_set at id (length ids)) ≡ length at = length-set at id (length ids) in let le = are.small in omega arith;
  there = λ i within. there i within (i == length ids) refl;
  position = λ i within. position i within (i == length ids) refl;
}
  where
    size : length (slice_set at id (length ids)) ≡ length at
    size = length-set at id (length ids)

    inner : (i : ℕ) → i < length (ids ++ id ∷ []) → (i ≡ length ids → ⊥) → i < length ids
    inner i within ne = let e : length (ids ++ id ∷ []) ≡ length ids + 1 = length-append ids (id ∷ []) in grind arith

    front : (i : ℕ) → i < length ids → slice_index (ids ++ id ∷ []) i ≡ slice_index ids i
    front i lt = get_or-append ids (id ∷ []) 0 i lt

    last : slice_index (ids ++ id ∷ []) (length ids) ≡ id
    last = get_or-append_seam ids id [] 0

    there : (i : ℕ) → i < length (ids ++ id ∷ []) → (t : Bool) → (i == length ids) ≡ t → slice_index (ids ++ id ∷ []) i < length (slice_set at id (length ids))
    there i within true e =
        let is : slice_index (ids ++ id ∷ []) i ≡ id = ap (slice_index (ids ++ id ∷ [])) (eqb-true i (length ids) e) ∙ last in
        let sized = size in omega arith
    there i within false e =
        let inside : i < length ids = inner i within (eqb-false i (length ids) e) in
        let is : slice_index (ids ++ id ∷ []) i ≡ slice_index ids i = front i inside in
        let below : slice_index ids i < length at = are.there i inside in
        let sized = size in omega arith

    position : (i : ℕ) → i < length (ids ++ id ∷ []) → (t : Bool) → (i == length ids) ≡ t → slice_index (slice_set at id (length ids)) (slice_index (ids ++ id ∷ []) i) ≡ i
    position i within true e =
        let same : i ≡ length ids = eqb-true i (length ids) e in
        let is : slice_index (ids ++ id ∷ []) i ≡ id = ap (slice_index (ids ++ id ∷ [])) same ∙ last in
        let set : slice_index (slice_set at id (length ids)) id ≡ length ids = get_or-set_same at id (length ids) 0 lt in
        ap (slice_index (slice_set at id (length ids))) is ∙ set ∙ sym same
    position i within false e =
        let inside : i < length ids = inner i within (eqb-false i (length ids) e) in
        let ne : slice_index ids i ≡ id → ⊥ = λ is. in_not_in id ids (subst (λ k. is_id_in k ids ≡ true) is (in_at ids i inside)) not in
        let other : slice_index (slice_set at id (length ids)) (slice_index ids i) ≡ slice_index at (slice_index ids i) =
        get_or-set_other at id (slice_index ids i) (length ids) 0 ne in
        ap (slice_index (slice_set at id (length ids))) (front i inside) ∙ other ∙ are.position i inside

-- an id leaves, and the last one takes its position
pub removed_ids : (xs ys at : List ℕ) (p l id : ℕ) → AreStored xs at → p < length xs → slice_index xs p ≡ id → l + 1 ≡ length xs → length ys ≡ l
    → (p < l → slice_index ys p ≡ slice_index xs l) → ((k : ℕ) → k ≢ p → k < l → slice_index ys k ≡ slice_index xs k) → IsWithout id xs ys
removed_ids xs ys at p l id are lt here last len moved kept q = go (q == id) refl
  where
    alone : (k : ℕ) → k < length xs → slice_index xs k ≡ id → k ≡ p
    alone k within is = sym (are.position k within) ∙ ap (slice_index at) (is ∙ sym here) ∙ are.position p lt

    from : (k : ℕ) → k < length ys → (t : Bool) → (k == p) ≡ t → (j : ℕ) × (j < length xs) × (j ≡ p → ⊥) × (slice_index ys k ≡ slice_index xs j)
    from k within true e =
        let same : k ≡ p = eqb-true k p e in
        let less : p < l = omega arith in
        (l, omega arith, λ clash. omega arith, ap (slice_index ys) same ∙ moved less)
    from k within false e =
        let ne : k ≢ p = eqb-false k p e in
        let less : k < l = omega arith in
        (k, omega arith, ne, kept k ne less)

    not_here : is_id_in id ys ≡ true → ⊥
    not_here is =
        let w = where_in id ys is in
        let f = from w.0 w.1 (w.0 == p) refl in
        f.2 (alone f.0 f.1 (sym f.3 ∙ w.2))

    forth : (q ≡ id → ⊥) → is_id_in q ys ≡ true → is_id_in q xs ≡ true
    forth ne is =
        let w = where_in q ys is in
        let f = from w.0 w.1 (w.0 == p) refl in
        subst (λ k. is_id_in k xs ≡ true) (sym f.3 ∙ w.2) (in_at xs f.0 f.1)

    back : (q ≡ id → ⊥) → is_id_in q xs ≡ true → is_id_in q ys ≡ true
    back ne is = let w = where_in q xs is in at_position w.0 w.1 w.2 (w.0 == l) refl
      where
        at_position : (k : ℕ) → k < length xs → slice_index xs k ≡ q → (t : Bool) → (k == l) ≡ t → is_id_in q ys ≡ true
        at_position k within is true e =
            let same : k ≡ l = eqb-true k l e in
            let other : p ≡ l → ⊥ = λ clash. ne (sym is ∙ ap (slice_index xs) (same ∙ sym clash) ∙ here) in
            let less : p < l = grind arith in
            subst (λ k. is_id_in k ys ≡ true) (moved less ∙ ap (slice_index xs) (sym same) ∙ is) (in_at ys p (omega arith))
        at_position k within is false e =
            let nl : k ≢ l = eqb-false k l e in
            let less : k < l = grind arith in
            let other : k ≢ p = λ clash. ne (sym is ∙ ap (slice_index xs) clash ∙ here) in
            subst (λ k. is_id_in k ys ≡ true) (kept k other less ∙ is) (in_at ys k (omega arith))

    go : (t : Bool) → (q == id) ≡ t → is_id_in q ys ≡ (if t then false else is_id_in q xs)
    go true e = let same : q ≡ id = eqb-true q id e in not_true (is_id_in q ys) (λ is. not_here (subst (λ k. is_id_in k ys ≡ true) same is))
    go false e = let ne : q ≡ id → ⊥ = eqb-false q id e in same_test (is_id_in q ys) (is_id_in q xs) (forth ne) (back ne)

-- The blocks by their ids, when one of them changes.
use Rattle.std.proofs.Common.{◌≡◌, ℕ, zero, suc, ◌+◌, ◌<◌, ◌≤◌, ◌==◌, nat_lt, ◌||◌, Bool, true, false, if◌then◌else◌, List, [], ◌∷◌, ◌++◌, length, Option, Some, None, slice_get, slice_set, refl, sym, ap, subst, ◌∙◌, arith, add_comm}
use Rattle.std.proofs.Common.{inl, inr}
use Rattle.std.proofs.lemmas.Bool.{eqb-true, eqb-false, ne_eqb}
use Rattle.std.proofs.lemmas.Bool.Decides.{nat_tests}
use Rattle.foyer_core_model.specs.Flush.{usable_count}
use Rattle.foyer_core_model.specs.Ids.{is_id_in, without_id, AreDistinct}
use Rattle.foyer_core_model.specs.Numbers.{last_number}
use Rattle.foyer_core_model.proofs.Ids.{in_without, not_in_cases, same_in, later_in, in_append, in_front, in_last}
use Rattle.foyer_block_manager.specs.Managed.{is_reclaiming, reclaim_count_in, one_if}
use Rattle.foyer_block_manager.specs.declared.block.states.BlockState.{BlockState}
use Rattle.foyer_block_manager.proofs.IdLemmas.{same_test, not_true}

-- an element of a list that was set, and the others
pub set_here : {X : Type 0} (xs : List X) (i : ℕ) (y : X) → i < length xs → slice_get (slice_set xs i y) i ≡ Some y
set_here [] i y lt = absurd (omega arith)
set_here (x ∷ xs) zero y lt = refl
set_here (x ∷ xs) (suc i) y lt = set_here xs i y (omega arith)

pub set_there : {X : Type 0} (xs : List X) (i g : ℕ) (y : X) → (g ≡ i → ⊥) → slice_get (slice_set xs i y) g ≡ slice_get xs g
set_there [] i g y ne = refl
set_there (x ∷ xs) zero zero y ne = absurd (ne refl)
set_there (x ∷ xs) zero (suc g) y ne = refl
set_there (x ∷ xs) (suc i) zero y ne = refl
set_there (x ∷ xs) (suc i) (suc g) y ne = set_there xs i g y (λ e. ne (ap suc e))

pub set_count : {X : Type 0} (xs : List X) (i : ℕ) (y : X) → length (slice_set xs i y) ≡ length xs
set_count [] i y = refl
set_count (x ∷ xs) zero y = refl
set_count (x ∷ xs) (suc i) y = ap suc (set_count xs i y)

pub some_is : {X : Type 0} {x y : X} → Some x ≡ Some y → x ≡ y
some_is e = cc

pub there_is : {X : Type 0} (xs : List X) (i : ℕ) (x : X) → slice_get xs i ≡ Some x → i < length xs
there_is [] i x e = absurd (let clash : None ≡ Some x = e in cc)
there_is (y ∷ xs) zero x e = omega arith
there_is (y ∷ xs) (suc i) x e = let lt : i < length xs = there_is xs i x e in omega arith

pub is_there : {X : Type 0} (xs : List X) (i : ℕ) → i < length xs → (x : X) × (slice_get xs i ≡ Some x)
is_there [] i lt = absurd (omega arith)
is_there (x ∷ xs) zero lt = (x, refl)
is_there (x ∷ xs) (suc i) lt = is_there xs i (omega arith)

-- a fact of the block of an id, when one block is set
pub fact_set : {V : Type 0} (fact : Option BlockState → V) (blocks : List BlockState) (b : ℕ) (it : BlockState) → b < length blocks → (q : ℕ)
    → fact (slice_get (slice_set blocks b it) q) ≡ (if q == b then fact (Some it) else fact (slice_get blocks q))
fact_set fact blocks b it lt q = go (q == b) refl
  where
    go : (t : Bool) → (q == b) ≡ t → fact (slice_get (slice_set blocks b it) q) ≡ (if t then fact (Some it) else fact (slice_get blocks q))
    go true e = ap (λ k. fact (slice_get (slice_set blocks b it) k)) (eqb-true q b e) ∙ ap fact (set_here blocks b it lt)
    go false e = ap fact (set_there blocks b q it (eqb-false q b e))

-- a fact about each block stays if it stays for the block that is set
pub fact_same : {V : Type 0} (fact : Option BlockState → V) (blocks : List BlockState) (b : ℕ) (old it : BlockState) → slice_get blocks b ≡ Some old
    → fact (Some it) ≡ fact (Some old) → (q : ℕ) → fact (slice_get (slice_set blocks b it) q) ≡ fact (slice_get blocks q)
fact_same fact blocks b old it was same q = fact_set fact blocks b it (there_is blocks b old was) q ∙ go (q == b) refl
  where
    go : (t : Bool) → (q == b) ≡ t → (if t then fact (Some it) else fact (slice_get blocks q)) ≡ fact (slice_get blocks q)
    go true e = same ∙ sym (ap fact was) ∙ ap (λ k. fact (slice_get blocks k)) (sym (eqb-true q b e))
    go false e = refl

-- membership if an id leaves a list, or enters it
pub without_test : (q b : ℕ) (xs : List ℕ) → is_id_in q (without_id b xs) ≡ (if q == b then false else is_id_in q xs)
without_test q b xs = go (q == b) refl
  where
    stays : (q b : ℕ) (xs : List ℕ) → (q ≡ b → ⊥) → is_id_in q xs ≡ true → is_id_in q (without_id b xs) ≡ true
    stays q b [] ne is = absurd (let e : false ≡ true = is in cc)
    stays q b (x ∷ xs) ne is = at_head (b == x) refl (q == x) refl is (stays q b xs ne)
      where
        at_head : (t : Bool) → (b == x) ≡ t → (u : Bool) → (q == x) ≡ u → is_id_in q (x ∷ xs) ≡ true → (is_id_in q xs ≡ true → is_id_in q (without_id b xs) ≡ true)
            → is_id_in q (if t then without_id b xs else x ∷ without_id b xs) ≡ true
        at_head true e true f h rec = absurd (ne (eqb-true q x f ∙ sym (eqb-true b x e)))
        at_head true e false f h rec = rec (sym (ap (λ (w : Bool). w || is_id_in q xs) f) ∙ h)
        at_head false e true f h rec = subst (λ k. is_id_in k (x ∷ without_id b xs) ≡ true) (sym (eqb-true q x f)) (same_in x (without_id b xs))
        at_head false e false f h rec = later_in q x (without_id b xs) (rec (sym (ap (λ (w : Bool). w || is_id_in q xs) f) ∙ h))

    go : (t : Bool) → (q == b) ≡ t → is_id_in q (without_id b xs) ≡ (if t then false else is_id_in q xs)
    go true e = not_true (is_id_in q (without_id b xs)) (λ is. (in_without q b xs is).1 (eqb-true q b e))
    go false e = same_test (is_id_in q (without_id b xs)) (is_id_in q xs) (λ is. (in_without q b xs is).0) (stays q b xs (eqb-false q b e))

pub append_test : (q b : ℕ) (xs : List ℕ) → is_id_in q (xs ++ b ∷ []) ≡ (if q == b then true else is_id_in q xs)
append_test q b xs = go (q == b) refl
  where
    go : (t : Bool) → (q == b) ≡ t → is_id_in q (xs ++ b ∷ []) ≡ (if t then true else is_id_in q xs)
    go true e = subst (λ k. is_id_in k (xs ++ b ∷ []) ≡ true) (sym (eqb-true q b e)) (in_last b xs)
    go false e =
        same_test (is_id_in q (xs ++ b ∷ [])) (is_id_in q xs)
        (λ is. elim (in_append q b xs is) [ inl h ↦ h | inr same ↦ absurd (eqb-false q b e same) ])
        (λ is. in_front q xs (b ∷ []) is)

-- both change at one id in the same way
pub if_same : {V : Type 0} (t : Bool) (a c d e : V) → a ≡ c → d ≡ e → (if t then a else d) ≡ (if t then c else e)
if_same true a c d e p q = p
if_same false a c d e p q = q

-- how many are usable depends on the fillings of the listed blocks alone
pub usable_count_same : (F G : ℕ → ℕ) (xs : List ℕ) → ((b : ℕ) → is_id_in b xs ≡ true → F b ≡ G b) → usable_count F xs ≡ usable_count G xs
usable_count_same F G [] same = refl
usable_count_same F G (x ∷ xs) same =
    ap (λ k. (if nat_lt k last_number then 1 else 0) + usable_count F xs) (same x (same_in x xs))
    ∙ ap (λ n. (if nat_lt (G x) last_number then 1 else 0) + n) (usable_count_same F G xs (λ b is. same b (later_in b x xs is)))

-- one that is usable leaves
pub usable_less : (F : ℕ → ℕ) (b : ℕ) (xs : List ℕ) → AreDistinct xs → is_id_in b xs ≡ true → F b < last_number
    → usable_count F (without_id b xs) + 1 ≡ usable_count F xs
usable_less F b [] once is lt = absurd (let e : false ≡ true = is in cc)
usable_less F b (x ∷ xs) once is lt = go (b == x) refl (λ later. usable_less F b xs once.1 later lt)
  where
    same : is_id_in b xs ≡ false → without_id b xs ≡ xs
    same not = without_same b xs not
      where
        without_same : (x : ℕ) (xs : List ℕ) → is_id_in x xs ≡ false → without_id x xs ≡ xs
        without_same x [] is = refl
        without_same x (y ∷ ys) is =
            let r : (x ≡ y → ⊥) × (is_id_in x ys ≡ false) = not_in_cases x y ys is in
            ap (λ t. if t then without_id x ys else y ∷ without_id x ys) (ne_eqb x y r.0) ∙ ap (λ l. y ∷ l) (without_same x ys r.1)

    counted : (n : ℕ) (t : Bool) → nat_lt (F x) last_number ≡ t → F x < last_number → 1 + n ≡ (if t then 1 else 0) + n
    counted n true e below = refl
    counted n false e below = absurd (grind (arith, nat_tests))

    go : (t : Bool) → (b == x) ≡ t → (is_id_in b xs ≡ true → usable_count F (without_id b xs) + 1 ≡ usable_count F xs)
        → usable_count F (if t then without_id b xs else x ∷ without_id b xs) + 1 ≡ usable_count F (x ∷ xs)
    go true e rec =
        let at : b ≡ x = eqb-true b x e in
        let after_writing : usable_count F (without_id b xs) ≡ usable_count F xs = ap (usable_count F) (same (subst (λ k. is_id_in k xs ≡ false) (sym at) once.0)) in
        ap (λ n. n + 1) after_writing ∙ add_comm (usable_count F xs) 1 ∙ counted (usable_count F xs) (nat_lt (F x) last_number) refl (subst (λ k. F k < last_number) at lt)
    go false e rec =
        let there : is_id_in b xs ≡ true = sym (ap (λ (w : Bool). w || is_id_in b xs) e) ∙ is in
        let less : usable_count F (without_id b xs) + 1 ≡ usable_count F xs = rec there in
        omega arith

-- and one enters
pub usable_more : (F : ℕ → ℕ) (b : ℕ) (xs : List ℕ) → usable_count F (xs ++ b ∷ []) ≡ usable_count F xs + (if nat_lt (F b) last_number then 1 else 0)
usable_more F b [] = let e : (if nat_lt (F b) last_number then 1 else 0) + 0 ≡ 0 + (if nat_lt (F b) last_number then 1 else 0) = omega arith in e
usable_more F b (x ∷ xs) =
    let more : usable_count F (xs ++ b ∷ []) ≡ usable_count F xs + (if nat_lt (F b) last_number then 1 else 0) = usable_more F b xs in
    omega arith

pub usable_at_most : (F : ℕ → ℕ) (xs : List ℕ) → usable_count F xs ≤ length xs
usable_at_most F [] = omega arith
usable_at_most F (x ∷ xs) = go (nat_lt (F x) last_number) (usable_at_most F xs)
  where
    go : (t : Bool) → usable_count F xs ≤ length xs → (if t then 1 else 0) + usable_count F xs ≤ length (x ∷ xs)
    go true le = omega arith
    go false le = omega arith

-- how many are reclaimed, when one block changes
pub reclaimed_same : (n : ℕ) (xs ys : List BlockState) → ((b : ℕ) → b < n → is_reclaiming (slice_get xs b) ≡ is_reclaiming (slice_get ys b))
    → reclaim_count_in n xs ≡ reclaim_count_in n ys
reclaimed_same zero xs ys same = refl
reclaimed_same (suc n) xs ys same =
    ap (λ (t : Bool). one_if t + reclaim_count_in n xs) (same n (omega arith))
    ∙ ap (λ k. one_if (is_reclaiming (slice_get ys n)) + k) (reclaimed_same n xs ys (λ b lt. same b (omega arith)))

pub reclaimed_changed : (n : ℕ) (xs ys : List BlockState) (b : ℕ) → b < n
    → ((q : ℕ) → (q ≡ b → ⊥) → is_reclaiming (slice_get xs q) ≡ is_reclaiming (slice_get ys q))
    → reclaim_count_in n ys + one_if (is_reclaiming (slice_get xs b)) ≡ reclaim_count_in n xs + one_if (is_reclaiming (slice_get ys b))
reclaimed_changed zero xs ys b lt others = absurd (omega arith)
reclaimed_changed (suc n) xs ys b lt others = go (n == b) refl (λ less. reclaimed_changed n xs ys b less others)
  where
    go : (t : Bool) → (n == b) ≡ t
        → (b < n → reclaim_count_in n ys + one_if (is_reclaiming (slice_get xs b)) ≡ reclaim_count_in n xs + one_if (is_reclaiming (slice_get ys b)))
        → reclaim_count_in (suc n) ys + one_if (is_reclaiming (slice_get xs b)) ≡ reclaim_count_in (suc n) xs + one_if (is_reclaiming (slice_get ys b))
    go true e rec =
        let at : n ≡ b = eqb-true n b e in
        let rest : reclaim_count_in n xs ≡ reclaim_count_in n ys = reclaimed_same n xs ys (λ q below. others q (λ clash. omega arith)) in
        let mine : one_if (is_reclaiming (slice_get xs n)) ≡ one_if (is_reclaiming (slice_get xs b)) = ap (λ k. one_if (is_reclaiming (slice_get xs k))) at in
        let yours : one_if (is_reclaiming (slice_get ys n)) ≡ one_if (is_reclaiming (slice_get ys b)) = ap (λ k. one_if (is_reclaiming (slice_get ys k))) at in
        omega arith
    go false e rec =
        let ne : n ≡ b → ⊥ = eqb-false n b e in
        let below : b < n = grind arith in
        let r = rec below in
        let here : one_if (is_reclaiming (slice_get xs n)) ≡ one_if (is_reclaiming (slice_get ys n)) = ap one_if (others n ne) in
        omega arith

pub reclaimed_at_most : (n : ℕ) (xs : List BlockState) → reclaim_count_in n xs ≤ n
reclaimed_at_most zero xs = omega arith
reclaimed_at_most (suc n) xs = go (is_reclaiming (slice_get xs n)) (reclaimed_at_most n xs)
  where
    go : (t : Bool) → reclaim_count_in n xs ≤ n → one_if t + reclaim_count_in n xs ≤ suc n
    go true le = omega arith
    go false le = omega arith

-- one that is reclaimed is among them
pub reclaimed_some : (n : ℕ) (xs : List BlockState) (b : ℕ) → b < n → is_reclaiming (slice_get xs b) ≡ true → 0 < reclaim_count_in n xs
reclaimed_some zero xs b lt is = absurd (omega arith)
reclaimed_some (suc n) xs b lt is = go (n == b) refl (λ less. reclaimed_some n xs b less is)
  where
    go : (t : Bool) → (n == b) ≡ t → (b < n → 0 < reclaim_count_in n xs) → 0 < reclaim_count_in (suc n) xs
    go true e rec =
        let one : one_if (is_reclaiming (slice_get xs n)) ≡ 1 = ap one_if (ap (λ k. is_reclaiming (slice_get xs k)) (eqb-true n b e) ∙ is) in
        omega arith
    go false e rec = let ne : n ≡ b → ⊥ = eqb-false n b e in let r : 0 < reclaim_count_in n xs = rec (grind arith) in omega arith

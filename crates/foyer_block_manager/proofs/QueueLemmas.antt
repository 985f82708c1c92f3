-- Queues of ids.
use Rattle.std.proofs.Common.{◌≡◌, ℕ, zero, suc, ◌+◌, ◌<◌, ◌≤◌, ◌==◌, nat_lt, nat_le, Bool, true, false, not, ◌&&◌, ◌||◌, if◌then◌else◌, List, [], ◌∷◌, ◌++◌, length, take, drop, replicate, Some, None, slice_get, slice_set, slice_index, refl, sym, ap, subst, ◌∙◌, inl, inr, arith}
use Rattle.std.specs.List.{filter}
use Rattle.std.proofs.lemmas.Bool.{eqb-true, eqb-false}
use Rattle.std.proofs.lemmas.Bool.Decides.{nat_tests}
use Rattle.std.proofs.lemmas.List.{take_more}
use Rattle.std.proofs.lemmas.List.Elements.{filter-append}
use Rattle.foyer_core_model.specs.Ids.{is_id_in, without_id, AreDistinct}
use Rattle.foyer_core_model.proofs.Ids.{same_in, later_in, in_cases, distinct_append, distinct_without}
use Rattle.foyer_block_manager.specs.Pickers.{is_evictable_in, fifo_with}
use Rattle.foyer_block_manager.specs.Queues.{Queued, queued_with, AreFlagged, fifo_of}
use Rattle.foyer_block_manager.specs.declared.block.states.BlockState.{BlockState}
use Rattle.foyer_block_manager.proofs.BlockStateLemmas.{some_is, set_here, set_there, set_count, there_is, without_test, append_test}
use Rattle.foyer_block_manager.proofs.IdLemmas.{AllBelow, count_below, not_true}
use Rattle.foyer_block_manager.proofs.MayLemmas.{evictable_there}
use Rattle.foyer_block_manager.proofs.WaitingLemmas.{removed_is}

-- one flag is set
flag_set : (flags : List Bool) (old new : ℕ → Bool) (b : ℕ) (t : Bool) → ((q : ℕ) → q < length flags → slice_get flags q ≡ Some (old q))
    → ((q : ℕ) → new q ≡ (if q == b then t else old q)) → (q : ℕ) → q < length (slice_set flags b t) → slice_get (slice_set flags b t) q ≡ Some (new q)
flag_set flags old new b t are is q lt = go (q == b) refl
  where
    sized : length (slice_set flags b t) ≡ length flags
    sized = set_count flags b t

    go : (u : Bool) → (q == b) ≡ u → slice_get (slice_set flags b t) q ≡ Some (new q)
    go true e =
        let same : q ≡ b = eqb-true q b e in
        let n = sized in
        let here : b < length flags = omega arith in
        ap (slice_get (slice_set flags b t)) same ∙ set_here flags b t here ∙ ap Some (sym (is q ∙ ap (λ (u : Bool). if u then t else old q) e))
    go false e =
        let n = sized in
        let there : q < length flags = omega arith in
        set_there flags b q t (eqb-false q b e) ∙ are q there ∙ ap Some (sym (is q ∙ ap (λ (u : Bool). if u then t else old q) e))

pub flagged_with : (ids : List ℕ) (flags : List Bool) (b : ℕ) → AreFlagged ids flags → is_id_in b ids ≡ false → AreFlagged (ids ++ b ∷ []) (slice_set flags b true)
flagged_with ids flags b are not = record {
  once = distinct_append b ids not are.once;
  flag = flag_set flags (λ q. is_id_in q ids) (λ q. is_id_in q (ids ++ b ∷ [])) b true are.flag (λ q. append_test q b ids);
}

pub flagged_without : (ids : List ℕ) (flags : List Bool) (b : ℕ) → AreFlagged ids flags → AreFlagged (without_id b ids) (slice_set flags b false)
flagged_without ids flags b are = record {
  once = distinct_without b ids are.once;
  flag = flag_set flags (λ q. is_id_in q ids) (λ q. is_id_in q (without_id b ids)) b false are.flag (λ q. without_test q b ids);
}

-- no id is flagged
repeated : (n : ℕ) (b : ℕ) → b < length (replicate n false) → slice_get (replicate n false) b ≡ Some false
repeated zero b lt = absurd (omega arith)
repeated (suc n) zero lt = refl
repeated (suc n) (suc b) lt = repeated n b (omega arith)

pub flagged_none : (flags : List Bool) (n : ℕ) → flags ≡ replicate n false → AreFlagged [] flags
flagged_none flags n is = record {
  once = tt;
  flag = λ b lt. subst (λ fs. b < length fs → slice_get fs b ≡ Some false) (sym is) (repeated n b) lt;
}

-- a flag beyond the last is none
pub set_past : {X : Type 0} (xs : List X) (i : ℕ) (y : X) → length xs ≤ i → slice_set xs i y ≡ xs
set_past [] i y le = refl
set_past (x ∷ xs) zero y le = absurd (omega arith)
set_past (x ∷ xs) (suc i) y le = ap (λ l. x ∷ l) (set_past xs i y (omega arith))

-- what passes a test is among what was tested
filter_in : (f : ℕ → Bool) (q : ℕ) (xs : List ℕ) → is_id_in q (filter f xs) ≡ true → (is_id_in q xs ≡ true) × (f q ≡ true)
filter_in f q [] is = absurd (let e : false ≡ true = is in cc)
filter_in f q (x ∷ xs) is = go (f x) refl is (filter_in f q xs)
  where
    go : (t : Bool) → f x ≡ t → is_id_in q (if t then x ∷ filter f xs else filter f xs) ≡ true
        → (is_id_in q (filter f xs) ≡ true → (is_id_in q xs ≡ true) × (f q ≡ true)) → (is_id_in q (x ∷ xs) ≡ true) × (f q ≡ true)
    go true e h rec = elim (in_cases q x (filter f xs) h) [
      | inl same ↦ (subst (λ k. is_id_in k (x ∷ xs) ≡ true) (sym same) (same_in x xs), subst (λ k. f k ≡ true) (sym same) e)
      | inr later ↦ (later_in q x xs (rec later).0, (rec later).1)
    ]
    go false e h rec = (later_in q x xs (rec h).0, (rec h).1)

filter_once : (f : ℕ → Bool) (xs : List ℕ) → AreDistinct xs → AreDistinct (filter f xs)
filter_once f [] once = tt
filter_once f (x ∷ xs) once = go (f x) (filter_once f xs once.1)
  where
    go : (t : Bool) → AreDistinct (filter f xs) → AreDistinct (if t then x ∷ filter f xs else filter f xs)
    go true rest = (not_true (is_id_in x (filter f xs)) (λ is. let e : true ≡ false = sym (filter_in f x xs is).0 ∙ once.0 in cc), rest)
    go false rest = rest

pub take_once : (n : ℕ) (xs : List ℕ) → AreDistinct xs → AreDistinct (take n xs)
take_once zero xs once = tt
take_once (suc n) [] once = tt
take_once (suc n) (x ∷ xs) once = (not_true (is_id_in x (take n xs)) (λ is. let e : true ≡ false = sym (take_in x n xs is) ∙ once.0 in cc), take_once n xs once.1)
  where
    take_in : (q n : ℕ) (xs : List ℕ) → is_id_in q (take n xs) ≡ true → is_id_in q xs ≡ true
    take_in q zero xs is = absurd (let e : false ≡ true = is in cc)
    take_in q (suc n) [] is = is
    take_in q (suc n) (y ∷ ys) is = elim (in_cases q y (take n ys) is) [
      | inl same ↦ subst (λ k. is_id_in k (y ∷ ys) ≡ true) (sym same) (same_in y ys)
      | inr later ↦ later_in q y ys (take_in q n ys later)
    ]

-- each is below n
each_below : (n : ℕ) (xs : List ℕ) → ((q : ℕ) → is_id_in q xs ≡ true → q < n) → AllBelow n xs
each_below n [] all = tt
each_below n (x ∷ xs) all = (all x (same_in x xs), each_below n xs (λ q is. all q (later_in q x xs is)))

-- an evictable block among distinct ones finds room beside those found before it
pub found_fits : (blocks : List BlockState) (ids : List ℕ) (i : ℕ) → AreDistinct ids → i < length ids → is_evictable_in blocks (slice_index ids i) ≡ true
    → length (filter (is_evictable_in blocks) (take i ids)) < length blocks
found_fits blocks ids i once lt is =
    let f : ℕ → Bool = is_evictable_in blocks in
    let more : filter f (take (i + 1) ids) ≡ filter f (take i ids) ++ slice_index ids i ∷ [] =
    ap (filter f) (take_more ids i 0 lt) ∙ filter-append f (take i ids) (slice_index ids i ∷ []) ∙ ap (λ (t : Bool). filter f (take i ids) ++ (if t then slice_index ids i ∷ [] else [])) is in
    let le : length (filter f (take (i + 1) ids)) ≤ length blocks = count_below (length blocks) (filter f (take (i + 1) ids)) (filter_once f (take (i + 1) ids) (take_once (i + 1) ids once))
    (each_below (length blocks) (filter f (take (i + 1) ids)) (λ q here. let r = evictable_there blocks q (filter_in f q (take (i + 1) ids) here).1 in there_is blocks q r.0 r.1)) in
    let longer : length (filter f (take i ids) ++ slice_index ids i ∷ []) ≡ length (filter f (take i ids)) + 1 = one_more (filter f (take i ids)) (slice_index ids i) in
    let same : length (filter f (take (i + 1) ids)) ≡ length (filter f (take i ids) ++ slice_index ids i ∷ []) = ap length more in
    omega arith
  where
    one_more : (xs : List ℕ) (x : ℕ) → length (xs ++ x ∷ []) ≡ length xs + 1
    one_more [] x = refl
    one_more (y ∷ xs) x = let e : length (xs ++ x ∷ []) ≡ length xs + 1 = one_more xs x in omega arith

-- one more id is looked at
pub found_more : (f : ℕ → Bool) (ids : List ℕ) (i x : ℕ) (found found' : List ℕ) → i < length ids → x ≡ slice_index ids i → found ≡ filter f (take i ids)
    → found' ≡ found ++ filter f (x ∷ []) → found' ≡ filter f (take (i + 1) ids)
found_more f ids i x found found' lt at was is =
    is ∙ ap (λ l. l ++ filter f (x ∷ [])) was ∙ ap (λ k. filter f (take i ids) ++ filter f (k ∷ [])) at
    ∙ sym (ap (filter f) (take_more ids i 0 lt) ∙ filter-append f (take i ids) (slice_index ids i ∷ []))

-- a picker by age whose queue gets one more
pub fifo_more : (num den probations b : ℕ) (q : Queued) → fifo_of num den probations (Some (queued_with q b)) ≡ fifo_with (fifo_of num den probations (Some q)) b
fifo_more num den probations b q = go (is_id_in b q.ids) (nat_lt (length q.ids) q.room) (nat_le q.room (length q.ids)) refl refl
  where
    go : (t u v : Bool) → nat_lt (length q.ids) q.room ≡ u → nat_le q.room (length q.ids) ≡ v
        → fifo_of num den probations (Some (if not t && u then record q { ids = q.ids ++ b ∷ [] } else q))
        ≡ (if t || v then fifo_of num den probations (Some q) else record (fifo_of num den probations (Some q)) { queue = q.ids ++ b ∷ [] })
    go true u v e f = refl
    go false true true e f = absurd (grind (arith, nat_tests))
    go false true false e f = refl
    go false false true e f = refl
    go false false false e f = absurd (grind (arith, nat_tests))

-- the front leaves
pub front_without : (xs ys : List ℕ) (id front : ℕ) → AreDistinct xs → Some front ≡ slice_get xs 0 → front ≡ id → ys ≡ drop 1 xs → ys ≡ without_id id xs
front_without [] ys id front once at same is = absurd (let clash : Some front ≡ None = at in cc)
front_without (x ∷ xs) ys id front once at same is =
    is ∙ removed_is (x ∷ xs) 0 (omega arith) once ∙ ap (λ k. without_id k (x ∷ xs)) (sym (some_is at) ∙ same)

pub none_without : (xs : List ℕ) (id : ℕ) → None ≡ slice_get xs 0 → xs ≡ without_id id xs
none_without [] id at = refl
none_without (x ∷ xs) id at = absurd (let clash : None ≡ Some x = at in cc)

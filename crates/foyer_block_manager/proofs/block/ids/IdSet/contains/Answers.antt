use Rattle.std.proofs.Common.{◌≡◌, ◌<◌, ◌≤◌, ◌==◌, true, false, nat_lt, List, ℕ, length, slice_index, slice_index_or, ap, sym, subst, ◌∙◌, arith}
use Rattle.std.proofs.lemmas.Bool.{eqb-true, eq-eqb}
use Rattle.std.proofs.lemmas.Bool.Decides.{nat_tests}
use Rattle.std.proofs.lemmas.List.{get_or_read}
use Rattle.foyer_core_model.specs.Ids.{is_id_in}
use Rattle.foyer_block_manager.specs.IdList.{IdList, AreStored}
use Rattle.foyer_block_manager.proofs.IdLemmas.{stands, in_at, same_test, not_true}
use Rattle.foyer_block_manager.proofs.block.ids.IdSet.contains.Goals as goal

-- without a position it isn't there
without_position : (v : IdList) (ids at xs : List ℕ) (id : ℕ) → AreStored ids at → (λ (w : IdList). w) (record { ids = ids; bound = length at }) ≡ v
    → xs ≡ at → false ≡ nat_lt id (length xs) → false ≡ is_id_in id v.ids
without_position v ids at xs id are view same none = sym (not_true (is_id_in id v.ids) (λ is.
    let w = stands v ids at id are view is in
    let lt : id < length at = w.3 in
    let len : length xs ≡ length at = ap length same in
    let over : nat_lt id (length xs) ≡ false = sym none in
    let past : length xs ≤ id = grind (arith, nat_tests) in
    absurd (omega arith)))

-- its position has it
at_position : (v : IdList) (ids at xs ys : List ℕ) (id p q : ℕ) → AreStored ids at → (λ (w : IdList). w) (record { ids = ids; bound = length at }) ≡ v
    → xs ≡ at → ys ≡ ids → p ≡ slice_index_or xs id p → true ≡ nat_lt p (length ys) → q ≡ slice_index_or ys p q → (q == id) ≡ is_id_in id v.ids
at_position v ids at xs ys id p q are view same_at same_ids reads within found = same_test (q == id) (is_id_in id v.ids)
    (λ is.
    let w : q ≡ id = eqb-true q id is in
    let in_ids : is_id_in (slice_index ids p) ids ≡ true = in_at ids p lt in
    subst (λ (w : IdList). is_id_in id w.ids ≡ true) view (subst (λ k. is_id_in k ids ≡ true) (sym at_p ∙ w) in_ids))
    (λ is.
    let w = stands v ids at id are view is in
    let p_is : p ≡ slice_index at id = get_or_read at id p w.3 (reads ∙ ap (λ l. slice_index_or l id p) same_at) 0 in
    eq-eqb q id (at_p ∙ ap (slice_index ids) (p_is ∙ w.4) ∙ w.2))
  where
    lt : p < length ids
    lt = let e : nat_lt p (length ys) ≡ true = sym within in let len : length ys ≡ length ids = ap length same_ids in let l : p < length ys = grind (arith, nat_tests) in omega arith

    at_p : q ≡ slice_index ids p
    at_p = get_or_read ids p q lt (found ∙ ap (λ l. slice_index_or l p q) same_ids) 0

-- or has nothing
past_position : (v : IdList) (ids at xs ys : List ℕ) (id p : ℕ) → AreStored ids at → (λ (w : IdList). w) (record { ids = ids; bound = length at }) ≡ v
    → xs ≡ at → ys ≡ ids → p ≡ slice_index_or xs id p → false ≡ nat_lt p (length ys) → false ≡ is_id_in id v.ids
past_position v ids at xs ys id p are view same_at same_ids reads none = sym (not_true (is_id_in id v.ids) (λ is.
    let w = stands v ids at id are view is in
    let p_is : p ≡ slice_index at id = get_or_read at id p w.3 (reads ∙ ap (λ l. slice_index_or l id p) same_at) 0 in
    let at_w : p ≡ w.0 = p_is ∙ w.4 in
    let lt : w.0 < length ids = w.1 in
    let len : length ys ≡ length ids = ap length same_ids in
    let over : nat_lt p (length ys) ≡ false = sym none in
    let past : length ys ≤ p = grind (arith, nat_tests) in
    absurd (omega arith)))

pub returns-in_default : goal.returns-in_default
returns-in_default g c =
    let s = c.self.inside in
    without_position c.args.self.now s.ids.items s.at.items c.deref.result.now c.args.id c.self.invariant.0 c.self.view_is c.deref.ensures.value c.in_default.ensures.lookup.0

pub returns-in-Some-get : goal.returns-in-Some-get
returns-in-Some-get g c =
    let s = c.self.inside in
    at_position c.args.self.now s.ids.items s.at.items c.deref.result.now c.deref-2.result.now c.args.id c.in-Some.position.now c.in-Some-get.found.now c.self.invariant.0 c.self.view_is
    c.deref.ensures.value c.deref-2.ensures.value c.in-Some.ensures.lookup.1 c.in-Some-get.ensures.lookup.0 c.in-Some-get.ensures.lookup.1

pub returns-in-None : goal.returns-in-None
returns-in-None g c =
    let s = c.self.inside in
    past_position c.args.self.now s.ids.items s.at.items c.deref.result.now c.deref-2.result.now c.args.id c.in-Some.position.now c.self.invariant.0 c.self.view_is
    c.deref.ensures.value c.deref-2.ensures.value c.in-Some.ensures.lookup.1 c.in-None.ensures.lookup.0

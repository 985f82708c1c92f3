-- When a reclaim may begin.
use Rattle.std.proofs.Common.{◌≡◌, ◌≢◌, ℕ, ◌<◌, ◌≤◌, ◌==◌, nat_lt, Bool, true, false, not, ◌&&◌, ◌||◌, List, [], ◌∷◌, length, Option, Some, None, slice_get, ◌⊎◌, inl, inr, refl, sym, ap, subst, ◌∙◌, arith}
use Rattle.std.proofs.lemmas.Bool.{eqb-false, ne_eqb}
use Rattle.std.proofs.lemmas.Bool.Decides.{nat_tests}
use Rattle.foyer_core_model.specs.Flush.{usable_count}
use Rattle.foyer_core_model.specs.Ids.{is_id_in}
use Rattle.foyer_core_model.specs.State as model_state
use Rattle.foyer_core_model.proofs.Ids.{same_in}
use Rattle.foyer_block_manager.specs.IdList.{IdList}
use Rattle.foyer_block_manager.specs.Managed.{Managed, IsKept, is_evictable, is_evictable_set, filling_in}
use Rattle.foyer_block_manager.specs.Picks.{allows}
use Rattle.foyer_block_manager.specs.BlockSets.{BlockSets, Stands, MayReclaim, reclaim_count, model_set}
use Rattle.foyer_block_manager.specs.declared.block.states.BlockState.{BlockState}
use Rattle.foyer_block_manager.specs.declared.block.states.BlockSet.{BlockSet}
use Rattle.foyer_block_manager.specs.declared.block.states.BlockSet.TheVariants.{Clean, Writing, Evictable, Reclaiming}
use Rattle.foyer_block_manager.proofs.BlockStateLemmas.{there_is, is_there, usable_count_same}
use Rattle.foyer_block_manager.proofs.StandsLemmas.{reclaimed_as, filling_at, clean_there}

pub both : (a b : Bool) → a && b ≡ true → (a ≡ true) × (b ≡ true)
both true true e = (refl, refl)
both true false e = absurd (cc)
both false b e = absurd (cc)

and_true : (a b : Bool) → a ≡ true → b ≡ true → a && b ≡ true
and_true a b p q = ap (λ t. t && b) p ∙ q

pub not_false : (a : Bool) → not a ≡ true → a ≡ false
not_false true e = absurd (cc)
not_false false e = refl

false_not : (a : Bool) → a ≡ false → not a ≡ true
false_not a e = ap not e

either : (a b : Bool) → a || b ≡ true → (a ≡ true) ⊎ (b ≡ true)
either true b e = inl refl
either false b e = inr e

or_left : (a b : Bool) → a ≡ true → a || b ≡ true
or_left a b e = ap (λ t. t || b) e

or_right : (a b : Bool) → b ≡ true → a || b ≡ true
or_right true b e = refl
or_right false b e = e

-- a set that is evictable, either way
pub place_evictable : (p : BlockSet) → is_evictable_set p ≡ true → model_set p ≡ model_state.Evictable
place_evictable Clean e = absurd (let clash : false ≡ true = e in cc)
place_evictable (Writing f) e = absurd (let clash : false ≡ true = e in cc)
place_evictable Evictable e = refl
place_evictable Reclaiming e = absurd (let clash : false ≡ true = e in cc)

pub evictable_place : (p : BlockSet) → model_set p ≡ model_state.Evictable → is_evictable_set p ≡ true
evictable_place Clean e = absurd (cc)
evictable_place (Writing f) e = absurd (cc)
evictable_place Evictable e = refl
evictable_place Reclaiming e = absurd (cc)

-- a block that is evictable is there
pub evictable_there : (blocks : List BlockState) (b : ℕ) → is_evictable (slice_get blocks b) ≡ true
    → (it : BlockState) × (slice_get blocks b ≡ Some it) × (is_evictable_set it.block_set ≡ true)
evictable_there blocks b is = go (slice_get blocks b) is
  where
    go : (o : Option BlockState) → is_evictable o ≡ true → (it : BlockState) × (o ≡ Some it) × (is_evictable_set it.block_set ≡ true)
    go None e = absurd (let clash : false ≡ true = e in cc)
    go (Some it) e = (it, refl, e)

-- a reclaim begins only if some block is evictable
pub some_allowed : (cleaning : Bool) (reclaiming reclaimers : ℕ) (xs : List ℕ) (usable threshold : ℕ) (none_waits : Bool)
    → allows cleaning reclaiming reclaimers (length xs == 0) usable threshold none_waits ≡ true → 0 < length xs
some_allowed cleaning reclaiming reclaimers xs usable threshold none_waits e =
    let a = both (not cleaning && nat_lt reclaiming reclaimers && not (length xs == 0)) (nat_lt usable threshold || not none_waits) e in
    let b = both (not cleaning && nat_lt reclaiming reclaimers) (not (length xs == 0)) a.0 in
    let ne : length xs ≡ 0 → ⊥ = eqb-false (length xs) 0 (not_false (length xs == 0) b.1) in
    omega arith

module _ (m : Managed) (s : BlockSets) (st : Stands m s) where
  -- an evictable block, as the sets have it
  pub evictable_as : (b : ℕ) → is_evictable (slice_get m.blocks b) ≡ true → (b < length m.blocks) × (s.block_set b ≡ model_state.Evictable)
  evictable_as b is =
      let r = evictable_there m.blocks b is in
      (there_is m.blocks b r.0 r.1, (st.blocks b r.0 r.1).block_set ∙ place_evictable (r.0).block_set r.2)

  as_evictable : (b : ℕ) → b < length m.blocks → s.block_set b ≡ model_state.Evictable → is_evictable (slice_get m.blocks b) ≡ true
  as_evictable b lt is =
      let it = is_there m.blocks b lt in
      ap is_evictable it.1 ∙ evictable_place (it.0).block_set (sym (st.blocks b it.0 it.1).block_set ∙ is)

  module _ {evictable : IdList} {usable reclaiming clean_room waiting_room : ℕ} (ids : m.evictable ≡ evictable.ids)
      (kept : IsKept m.blocks m.clean m.waiting m.ready evictable usable reclaiming clean_room waiting_room) where
    counts : usable_count s.filling s.clean ≡ usable
    counts =
        ap (usable_count s.filling) st.clean
        ∙ usable_count_same s.filling (filling_in m.blocks) m.clean
        (λ b is. let it = clean_there m.blocks b (sym (kept.clean_is b) ∙ is) in filling_at m s st b it.0 it.1)
        ∙ sym kept.usable_is

    runs : reclaim_count (length m.blocks) s.block_set ≡ reclaiming
    runs = reclaimed_as (length m.blocks) m s (let le : length m.blocks ≤ length m.blocks = omega arith in le) st ∙ sym kept.reclaiming_is

    some_evictable : (xs : List ℕ) → (length xs == 0) ≡ false → (b : ℕ) × (is_id_in b xs ≡ true)
    some_evictable [] e = absurd (cc)
    some_evictable (x ∷ xs) e = (x, same_in x xs)

    none_there : (xs : List ℕ) (b : ℕ) → is_id_in b xs ≡ true → (length xs == 0) ≡ false
    none_there [] b e = absurd (let clash : false ≡ true = e in cc)
    none_there (x ∷ xs) b e = ne_eqb (length (x ∷ xs)) 0 (λ is. omega arith)

    nonempty : (xs : List ℕ) → (length xs == 0) ≡ false → xs ≢ []
    nonempty [] e = absurd (cc)
    nonempty (x ∷ xs) e = λ is. let clash : length (x ∷ xs) ≡ 0 = ap length is in omega arith

    is_nonempty : (xs : List ℕ) → xs ≢ [] → (length xs == 0) ≡ false
    is_nonempty [] ne = absurd (ne refl)
    is_nonempty (x ∷ xs) ne = ne_eqb (length (x ∷ xs)) 0 (λ is. omega arith)

    pub allowed : allows m.is_cleaning reclaiming m.reclaimers (length m.evictable == 0) usable m.clean_threshold (length m.waiting == 0) ≡ true
        → MayReclaim (length m.blocks) m.reclaimers m.clean_threshold s
    allowed e =
        let a = both (not m.is_cleaning && nat_lt reclaiming m.reclaimers && not (length m.evictable == 0)) (nat_lt usable m.clean_threshold || not (length m.waiting == 0)) e in
        let b = both (not m.is_cleaning && nat_lt reclaiming m.reclaimers) (not (length m.evictable == 0)) a.0 in
        let c = both (not m.is_cleaning) (nat_lt reclaiming m.reclaimers) b.0 in
        let r : reclaim_count (length m.blocks) s.block_set ≡ reclaiming = runs in
        let lt : reclaiming < m.reclaimers = grind (arith, nat_tests, c.1) in
        let some = some_evictable m.evictable (not_false (length m.evictable == 0) b.1) in
        let there = evictable_as some.0 (sym (kept.evictable_is some.0) ∙ subst (λ l. is_id_in some.0 l ≡ true) ids some.1) in
        record {
          wanted = elim (either (nat_lt usable m.clean_threshold) (not (length m.waiting == 0)) a.1) [
            | inl few ↦ inl (let n : usable_count s.filling s.clean ≡ usable = counts in let below : usable < m.clean_threshold = grind (arith, nat_tests, few) in omega arith)
            | inr waits ↦ inr (λ none. nonempty m.waiting (not_false (length m.waiting == 0) waits) (sym st.waiting ∙ none))
          ];
          free = omega arith;
          some_block = (some.0, there.0, there.1);
          quiet = st.is_cleaning ∙ not_false m.is_cleaning c.0;
        }

    pub allowing : MayReclaim (length m.blocks) m.reclaimers m.clean_threshold s
        → allows m.is_cleaning reclaiming m.reclaimers (length m.evictable == 0) usable m.clean_threshold (length m.waiting == 0) ≡ true
    allowing may =
        let r : reclaim_count (length m.blocks) s.block_set ≡ reclaiming = runs in
        let free : reclaim_count (length m.blocks) s.block_set < m.reclaimers = may.free in
        let lt : reclaiming < m.reclaimers = omega arith in
        let b = may.some_block in
        let there : is_id_in b.0 evictable.ids ≡ true = kept.evictable_is b.0 ∙ as_evictable b.0 b.1 b.2 in
        and_true (not m.is_cleaning && nat_lt reclaiming m.reclaimers && not (length m.evictable == 0)) (nat_lt usable m.clean_threshold || not (length m.waiting == 0))
        (and_true (not m.is_cleaning && nat_lt reclaiming m.reclaimers) (not (length m.evictable == 0))
        (and_true (not m.is_cleaning) (nat_lt reclaiming m.reclaimers) (false_not m.is_cleaning (sym st.is_cleaning ∙ may.quiet)) (grind (arith, nat_tests)))
        (false_not (length m.evictable == 0) (none_there m.evictable b.0 (subst (λ l. is_id_in b.0 l ≡ true) (sym ids) there))))
        (elim may.wanted [
          | inl few ↦ or_left (nat_lt usable m.clean_threshold) (not (length m.waiting == 0))
              (let n : usable_count s.filling s.clean ≡ usable = counts in let below : usable < m.clean_threshold = omega arith in grind (arith, nat_tests))
          | inr waits ↦ or_right (nat_lt usable m.clean_threshold) (not (length m.waiting == 0))
              (false_not (length m.waiting == 0) (is_nonempty m.waiting (λ none. waits (st.waiting ∙ none))))
        ])

-- Pickers that are shown a block, one after the other.
use Rattle.std.proofs.Common.{◌≡◌, ℕ, zero, suc, ◌+◌, ◌<◌, ◌≤◌, List, [], ◌∷◌, length, take, drop, slice_set, slice_index_or, refl, sym, subst, add-one, arith, ◌++◌, Bool, IsTrue, true, false, slice_get, if◌then◌else◌}
use Rattle.foyer_block_manager.specs.Pickers.{Info}
use Rattle.foyer_block_manager.specs.Managed.{IsWritten, Managed, is_evictable, is_writing}
use Rattle.foyer_block_manager.specs.Shown.{AreChanged, AreShown, AreShownAll, evictable_below, written_at, written_below}
use Rattle.foyer_block_manager.specs.declared.block.states.BlockState.{BlockState}
use Rattle.foyer_block_manager.proofs.ClearingLemmas.{written_as}

module _ {Q : Type 0} (may_be : Q → Q → Type 0) where
  -- the first so many have changed so, and the others are as they were
  abbrev pub ChangedBefore : ℕ → List Q → List Q → Type 0
  ChangedBefore i ps qs = AreChanged may_be (take i ps) (take i qs) × (drop i qs ≡ drop i ps)

  -- and so is one more
  changed_more : (ps qs : List Q) (i : ℕ) (d q : Q) → i < length qs → ChangedBefore i ps qs → may_be (slice_index_or qs i d) q
      → ChangedBefore (suc i) ps (slice_set qs i q)
  changed_more ps [] i d q lt before is = absurd (omega arith)
  changed_more [] (x ∷ qs) zero d q lt before is = let clash : x ∷ qs ≡ [] = before.1 in absurd cc
  changed_more (p ∷ ps) (x ∷ qs) zero d q lt before is =
      let same : x ∷ qs ≡ p ∷ ps = before.1 in
      let head : x ≡ p = cc in
      let tail : qs ≡ ps = cc in
      ((subst (λ k. may_be k q) head is, tt), tail)
  changed_more [] (x ∷ qs) (suc i) d q lt before is = absurd before.0
  changed_more (p ∷ ps) (x ∷ qs) (suc i) d q lt before is =
      let rest = changed_more ps qs i d q (omega arith) (before.0.1, before.1) is in
      ((before.0.0, rest.0), rest.1)

  pub changed_next : (ps qs : List Q) (i : ℕ) (d q : Q) → i < length qs → ChangedBefore i ps qs → may_be (slice_index_or qs i d) q
      → ChangedBefore (i + 1) ps (slice_set qs i q)
  changed_next ps qs i d q lt before is = subst (λ n. ChangedBefore n ps (slice_set qs i q)) (sym (add-one i)) (changed_more ps qs i d q lt before is)

  -- until all were
  pub changed_all : (ps qs : List Q) (i : ℕ) → length qs ≤ i → ChangedBefore i ps qs → AreChanged may_be ps qs
  changed_all [] [] i le before = tt
  changed_all (p ∷ ps) [] zero le before = let clash : [] ≡ p ∷ ps = before.1 in absurd cc
  changed_all (p ∷ ps) [] (suc i) le before = absurd before.0
  changed_all [] (x ∷ qs) zero le before = absurd (omega arith)
  changed_all (p ∷ ps) (x ∷ qs) zero le before = absurd (omega arith)
  changed_all [] (x ∷ qs) (suc i) le before = absurd before.0
  changed_all (p ∷ ps) (x ∷ qs) (suc i) le before = (before.0.0, changed_all ps qs i (omega arith) (before.0.1, before.1))

-- no flusher writes a block if a test is false that is true whenever a flusher writes it
pub not_writing : (m : Managed) (b : ℕ) (t : Bool) → (IsWritten m b → IsTrue t) → t ≡ false → is_writing (slice_get m.blocks b) ≡ false
not_writing m b t writes not = go (is_writing (slice_get m.blocks b)) refl
  where
    go : (w : Bool) → is_writing (slice_get m.blocks b) ≡ w → w ≡ false
    go false is = refl
    go true is = let test : IsTrue false = subst IsTrue not (writes ((written_as m b).0 is)) in absurd (let clash : false ≡ true = test in cc)

module _ {Q : Type 0} (may_be : Q → Info → ℕ → Q → Type 0) where
  -- more blocks are shown
  pub shown_then : (bs cs : List ℕ) (ps qs rs : List Q) → AreShownAll may_be bs ps qs → AreShownAll may_be cs qs rs → AreShownAll may_be (bs ++ cs) ps rs
  shown_then [] cs ps qs rs same more = subst (λ k. AreShownAll may_be cs k rs) same more
  shown_then (b ∷ bs) cs ps qs rs (info, between, shown, rest) more = (info, between, shown, shown_then bs cs between qs rs rest more)

  -- one that is written, and one that isn't
  pub shown_one : (blocks : List BlockState) (b : ℕ) (info : Info) (ps qs : List Q) → is_writing (slice_get blocks b) ≡ true → AreShown may_be info b ps qs
      → AreShownAll may_be (written_at blocks b) ps qs
  shown_one blocks b info ps qs is shown =
      subst (λ (t : Bool). AreShownAll may_be (if t then b ∷ [] else []) ps qs) (sym is) (info, qs, shown, refl)

  pub shown_none : (blocks : List BlockState) (b : ℕ) (ps : List Q) → is_writing (slice_get blocks b) ≡ false → AreShownAll may_be (written_at blocks b) ps ps
  shown_none blocks b ps is = subst (λ (t : Bool). AreShownAll may_be (if t then b ∷ [] else []) ps ps) (sym is) refl

  -- and the next of those below a number
  pub shown_below : (before now : List BlockState) (n : ℕ) (ps qs rs : List Q) → slice_get now n ≡ slice_get before n
      → AreShownAll may_be (written_below before n) ps qs → AreShownAll may_be (written_at now n) qs rs → AreShownAll may_be (written_below before (n + 1)) ps rs
  shown_below before now n ps qs rs same first more =
      subst (λ k. AreShownAll may_be (written_below before k) ps rs) (sym (add-one n))
      (shown_then (written_below before n) (written_at before n) ps qs rs first
      (subst (λ o. AreShownAll may_be (if is_writing o then n ∷ [] else []) qs rs) same more))

  -- of evictable blocks the next one, and one that isn't
  pub shown_evictable : (blocks : List BlockState) (n : ℕ) (info : Info) (ps qs rs : List Q) → is_evictable (slice_get blocks n) ≡ true
      → AreShownAll may_be (evictable_below blocks n) ps qs → AreShown may_be info n qs rs → AreShownAll may_be (evictable_below blocks (n + 1)) ps rs
  shown_evictable blocks n info ps qs rs is first more =
      subst (λ k. AreShownAll may_be (evictable_below blocks k) ps rs) (sym (add-one n))
      (subst (λ (t : Bool). AreShownAll may_be (evictable_below blocks n ++ (if t then n ∷ [] else [])) ps rs) (sym is)
      (shown_then (evictable_below blocks n) (n ∷ []) ps qs rs first (info, rs, more, refl)))

  pub unshown_evictable : (blocks : List BlockState) (n : ℕ) (ps qs : List Q) → is_evictable (slice_get blocks n) ≡ false
      → AreShownAll may_be (evictable_below blocks n) ps qs → AreShownAll may_be (evictable_below blocks (n + 1)) ps qs
  unshown_evictable blocks n ps qs is first =
      subst (λ k. AreShownAll may_be (evictable_below blocks k) ps qs) (sym (add-one n))
      (subst (λ (t : Bool). AreShownAll may_be (evictable_below blocks n ++ (if t then n ∷ [] else [])) ps qs) (sym is)
      (shown_then (evictable_below blocks n) [] ps qs qs first refl))

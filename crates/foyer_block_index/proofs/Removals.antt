-- Removals one after another leave what a removal of all leaves.
use Rattle.std.proofs.Common.{◌≡◌, ℕ, ◌+◌, ◌<◌, length, take, get_or, subst, arith, ◌==◌, ◌&&◌, ◌||◌, Bool, true, false, cond, IsTrue, ◌↔◌, Option, Some, None, List, [], ◌∷◌, ◌++◌, refl, sym, ap, ◌∙◌, nat_cmp}
use Rattle.std.specs.Bool.{OnTrue, OnFalse}
use Rattle.std.specs.List.{list_any}
use Rattle.std.specs.Ordering.{eq_by_cmp}
use Rattle.std.specs.Cmp.{nat_cmp_total, unsigned_tied, nat_eq_equiv}
use Rattle.std.specs.FinMap as map
use Rattle.std.specs.FinMap.{nat_cmp-IsAntisymmetric, same_map, get-remove}
use Rattle.std.proofs.lemmas.List.{take_more, take_all}
use Rattle.std.proofs.lemmas.List.Folds.{list_any-append}
use Rattle.std.proofs.lemmas.Bool.{eqb-true}
use Rattle.foyer_block_index.specs.declared.indexer.HashedEntryAddress.{HashedEntryAddress}
use Rattle.foyer_block_index.specs.declared.indexer.Index.{Index}
use Rattle.foyer_block_index.specs.declared.indexer.Index.TheVariants.{Address, Tombstone}
use Rattle.foyer_block_index.specs.declared.tombstone.Tombstone.{Tombstone as Mark}
use Rattle.foyer_block_index.specs.Removal.{has_address, has_mark, without_addresses, without_marks}
use Rattle.foyer_block_index.proofs.Indexed.{has_address-is, has_address-itself, has_mark-is, has_mark-itself, get-without_addresses, get-without_marks}
use Rattle.foyer_block_index.specs.Index.{IndexMap}

false_is_not_true : IsTrue false → ⊥
false_is_not_true t = cc

module _ {X : Type 0} (hash : X → ℕ) (value : X → Index) (has : Option Index → X → Bool)
    (found : (o : Option Index) (x : X) → has o x ≡ true → o ≡ Some (value x)) (there : (x : X) → has (Some (value x)) x ≡ true) where
  -- now is m without what the list names
  abbrev pub LeftBy : IndexMap → IndexMap → List X → Type 0
  LeftBy m now xs = (q : ℕ) → map.get now q ≡ cond (list_any (λ x. hash x == q && has (map.get m q) x) xs) None (map.get m q)

  -- one more removal, of the same hash or not; b says whether the list before it named the entry
  at_same : (o : Option Index) (x : X) (b acted : Bool) (new now : Option Index) → now ≡ cond b None o
      → (IsTrue acted ↔ (now ≡ Some (value x))) → new ≡ cond acted None now → new ≡ cond (b || (has o x || false)) None o
  at_same o x true true new now was is e = e
  at_same o x true false new now was is e = e ∙ was
  at_same o x false true new now was is e =
      let here : o ≡ Some (value x) = sym was ∙ is.0 refl in
      let seen : has o x ≡ true = ap (λ o. has o x) here ∙ there x in
      e ∙ ap (λ b. cond (b || false) None o) (sym seen)
  at_same o x false false new now was is e = e ∙ was ∙ go (has o x) refl
    where
      go : (b : Bool) → has o x ≡ b → o ≡ cond (b || false) None o
      go true e = absurd (false_is_not_true (is.1 (was ∙ found o x e)))
      go false e = refl

  at_other : (o : Option Index) (b : Bool) (now : Option Index) → now ≡ cond b None o → now ≡ cond (b || (false || false)) None o
  at_other o true now was = was
  at_other o false now was = was

  pub left_by_more : (m now new : IndexMap) (xs : List X) (x : X) (acted : Bool) → LeftBy m now xs
      → (IsTrue acted ↔ (map.get now (hash x) ≡ Some (value x))) → OnTrue acted (new ≡ map.remove now (hash x)) → OnFalse acted (new ≡ now)
      → LeftBy m new (xs ++ x ∷ [])
  left_by_more m now new xs x acted left is removed unchanged q = go (hash x == q) refl ∙ ap (λ b. cond b None o) (sym (list_any-append (λ x. hash x == q && has o x) xs (x ∷ [])))
    where
      o : Option Index
      o = map.get m q

      before : Bool
      before = list_any (λ x. hash x == q && has (map.get m q) x) xs

      tied : (b : Bool) → (hash x == q) ≡ b → eq_by_cmp nat_cmp q (hash x) ≡ b
      tied b e = unsigned_tied q (hash x) ∙ nat_eq_equiv.symm q (hash x) ∙ e

      here : (b : Bool) → (hash x == q) ≡ true → OnTrue b (new ≡ map.remove now (hash x)) → OnFalse b (new ≡ now) → map.get new q ≡ cond b None (map.get now q)
      here true e r u = ap (λ m. map.get m q) r ∙ get-remove nat_cmp_total now (hash x) q ∙ ap (λ b. cond b None (map.get now q)) (tied true e)
      here false e r u = ap (λ m. map.get m q) u

      elsewhere : (b : Bool) → (hash x == q) ≡ false → OnTrue b (new ≡ map.remove now (hash x)) → OnFalse b (new ≡ now) → map.get new q ≡ map.get now q
      elsewhere true e r u = ap (λ m. map.get m q) r ∙ get-remove nat_cmp_total now (hash x) q ∙ ap (λ b. cond b None (map.get now q)) (tied false e)
      elsewhere false e r u = ap (λ m. map.get m q) u

      go : (b : Bool) → (hash x == q) ≡ b → map.get new q ≡ cond (before || ((b && has o x) || false)) None o
      go true e =
          let same : hash x ≡ q = eqb-true (hash x) q e in
          let says : IsTrue acted ↔ (map.get now q ≡ Some (value x)) = (λ t. ap (map.get now) (sym same) ∙ is.0 t, λ s. is.1 (ap (map.get now) same ∙ s)) in
          at_same o x before acted (map.get new q) (map.get now q) (left q) says (here acted e removed unchanged)
      go false e = elsewhere acted e removed unchanged ∙ at_other o before (map.get now q) (left q)

  pub left_by_none : (m : IndexMap) → LeftBy m m []
  left_by_none m q = refl

abbrev pub LeftByAddresses : IndexMap → IndexMap → List HashedEntryAddress → Type 0
LeftByAddresses m now es = (q : ℕ) → map.get now q ≡ cond (list_any (λ e. e.hash == q && has_address (map.get m q) e.address) es) None (map.get m q)

abbrev pub LeftByMarks : IndexMap → IndexMap → List Mark → Type 0
LeftByMarks m now marks = (q : ℕ) → map.get now q ≡ cond (list_any (λ mark. mark.hash == q && has_mark (map.get m q) mark.sequence) marks) None (map.get m q)

pub address_more : (m now new : IndexMap) (es : List HashedEntryAddress) (i : ℕ) (d : HashedEntryAddress) (acted : Bool) → i < length es
    → LeftByAddresses m now (take i es)
    → (IsTrue acted ↔ (map.get now (get_or es i d).hash ≡ Some (Address (get_or es i d).address)))
    → OnTrue acted (new ≡ map.remove now (get_or es i d).hash) → OnFalse acted (new ≡ now)
    → LeftByAddresses m new (take (i + 1) es)
address_more m now new es i d acted within left is removed unchanged = subst (LeftByAddresses m new) (sym (take_more es i d within))
    (left_by_more (λ e. e.hash) (λ e. Address e.address) (λ o e. has_address o e.address) (λ o e. has_address-is o e.address) (λ e. has_address-itself e.address)
    m now new (take i es) (get_or es i d) acted left is removed unchanged)

pub mark_more : (m now new : IndexMap) (marks : List Mark) (i : ℕ) (d : Mark) (acted : Bool) → i < length marks
    → LeftByMarks m now (take i marks)
    → (IsTrue acted ↔ (map.get now (get_or marks i d).hash ≡ Some (Tombstone (get_or marks i d).sequence)))
    → OnTrue acted (new ≡ map.remove now (get_or marks i d).hash) → OnFalse acted (new ≡ now)
    → LeftByMarks m new (take (i + 1) marks)
mark_more m now new marks i d acted within left is removed unchanged = subst (LeftByMarks m new) (sym (take_more marks i d within))
    (left_by_more (λ mark. mark.hash) (λ mark. Tombstone mark.sequence) (λ o mark. has_mark o mark.sequence) (λ o mark. has_mark-is o mark.sequence) (λ mark. has_mark-itself mark.sequence)
    m now new (take i marks) (get_or marks i d) acted left is removed unchanged)

-- at the end of the list
pub addresses_left : (m now : IndexMap) (es : List HashedEntryAddress) (i : ℕ) → i ≡ length es
    → LeftByAddresses m now (take i es) → now ≡ without_addresses m es
addresses_left m now es i end left = same_map nat_cmp_total nat_cmp-IsAntisymmetric _ _ (λ q.
    subst (LeftByAddresses m now) (take_all i es (omega (arith, end))) left q ∙ sym (get-without_addresses m es q))

pub marks_left : (m now : IndexMap) (marks : List Mark) (i : ℕ) → i ≡ length marks
    → LeftByMarks m now (take i marks) → now ≡ without_marks m marks
marks_left m now marks i end left = same_map nat_cmp_total nat_cmp-IsAntisymmetric _ _ (λ q.
    subst (LeftByMarks m now) (take_all i marks (omega (arith, end))) left q ∙ sym (get-without_marks m marks q))

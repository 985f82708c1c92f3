-- The index after an insertion, and after the marks of a batch left it, as the model has it.
use Rattle.std.proofs.Common.{◌≡◌, ℕ, ◌<◌, ◌==◌, nat_le, Bool, true, false, ◌&&◌, ◌||◌, if◌then◌else◌, List, [], ◌∷◌, map, Option, Some, None, refl, sym, ap, subst, ◌∙◌}
use Rattle.std.specs.FinMap as finite
use Rattle.std.proofs.lemmas.Bool.{eqb-true, eqb-false}
use Rattle.foyer_block_index.specs.Index.{IndexMap}
use Rattle.foyer_block_index.specs.Insertion.{entered, inserted}
use Rattle.foyer_block_index.specs.Removal.{has_mark, lists_mark, without_marks}
use Rattle.foyer_block_index.proofs.Indexed.{get-inserted, get-without_marks}
use Rattle.foyer_block_index.specs.declared.indexer.EntryAddress.{EntryAddress}
use Rattle.foyer_block_index.specs.declared.indexer.Index.{Index}
use Rattle.foyer_block_index.specs.declared.indexer.Index.TheVariants.{Address, Tombstone}
use Rattle.foyer_block_index.specs.declared.tombstone.Tombstone.{Tombstone as Removed}
use Rattle.foyer_core_model.specs.Index as index
use Rattle.foyer_core_model.specs.Numbers.{put}
use Rattle.foyer_core_model.specs.Record as model_record
use Rattle.foyer_core_model.proofs.Basics.{put_at}
use Rattle.foyer_core_blocks.specs.Addresses.{address_of}
use Rattle.foyer_core_blocks.specs.Addresses.{mark_of}
use Rattle.foyer_core_blocks.specs.Standing.{slot_of, IsIndexedAs}
use Rattle.foyer_core_laws.specs.Settings.{Settings}

-- an insertion of the model is the index's
entered_is : (held : Option Index) (a : EntryAddress) → slot_of (Some (entered held (Address a))) ≡ index.inserted (slot_of held) (model_record.Indexed (address_of a))
entered_is None a = refl
entered_is (Some (Address b)) a = go (nat_le b.sequence a.sequence)
  where
    go : (t : Bool) → slot_of (Some (if t then Address a else Address b)) ≡ (if t then Some (model_record.Indexed (address_of a)) else Some (model_record.Indexed (address_of b)))
    go true = refl
    go false = refl
entered_is (Some (Tombstone n)) a = go (nat_le n a.sequence)
  where
    go : (t : Bool) → slot_of (Some (if t then Address a else Tombstone n)) ≡ (if t then Some (model_record.Indexed (address_of a)) else Some (model_record.Mark n))
    go true = refl
    go false = refl

-- one address enters
pub entered_at : (s : Settings) (m : IndexMap) (slots : ℕ → Option model_record.Slot) (hash : ℕ) (a : EntryAddress) → IsIndexedAs s m slots → a.block < s.blocks
    → IsIndexedAs s (inserted m hash (Address a)) (put slots hash (index.inserted (slots hash) (model_record.Indexed (address_of a))))
entered_at s m slots hash a are lt = record {
  slot = λ q. go q (q == hash) ∙ ap slot_of (sym (get-inserted m hash (Address a) q));
  there = λ q b is. below q b (q == hash) (sym (get-inserted m hash (Address a) q) ∙ is);
}
  where
    new : Index
    new = entered (finite.get m hash) (Address a)

    here : index.inserted (slots hash) (model_record.Indexed (address_of a)) ≡ slot_of (Some new)
    here = ap (λ o. index.inserted o (model_record.Indexed (address_of a))) (are.slot hash) ∙ sym (entered_is (finite.get m hash) a)

    go : (q : ℕ) (t : Bool) → (if t then index.inserted (slots hash) (model_record.Indexed (address_of a)) else slots q)
        ≡ slot_of (if t then Some new else finite.get m q)
    go q true = here
    go q false = are.slot q

    stays : (held : Option Index) → ((c : EntryAddress) → held ≡ Some (Address c) → c.block < s.blocks)
        → (b : EntryAddress) → entered held (Address a) ≡ Address b → b.block < s.blocks
    stays None old b e = let same : a ≡ b = cc in subst (λ (x : EntryAddress). x.block < s.blocks) same lt
    stays (Some (Address c)) old b e = choose (nat_le c.sequence a.sequence) e
      where
        choose : (t : Bool) → (if t then Address a else Address c) ≡ Address b → b.block < s.blocks
        choose true f = let same : a ≡ b = cc in subst (λ (x : EntryAddress). x.block < s.blocks) same lt
        choose false f = let same : c ≡ b = cc in subst (λ (x : EntryAddress). x.block < s.blocks) same (old c refl)
    stays (Some (Tombstone n)) old b e = choose (nat_le n a.sequence) e
      where
        choose : (t : Bool) → (if t then Address a else Tombstone n) ≡ Address b → b.block < s.blocks
        choose true f = let same : a ≡ b = cc in subst (λ (x : EntryAddress). x.block < s.blocks) same lt
        choose false f = absurd (cc)

    below : (q : ℕ) (b : EntryAddress) (t : Bool) → (if t then Some new else finite.get m q) ≡ Some (Address b) → b.block < s.blocks
    below q b true e = let same : new ≡ Address b = cc in stays (finite.get m hash) (are.there hash) b same
    below q b false e = are.there q b e

-- a mark that isn't listed stays, one that is listed leaves
gone : (marks : List Removed) (slots : ℕ → Option model_record.Slot) (q : ℕ) → slots q ≡ None → index.unmarked (map mark_of marks) slots q ≡ None
gone [] slots q none = none
gone (k ∷ marks) slots q none =
    gone marks (put slots k.hash (index.without_mark k.sequence (slots k.hash))) q
    (put_at (λ o. o ≡ None) slots k.hash (index.without_mark k.sequence (slots k.hash)) q
    (λ at. ap (index.without_mark k.sequence) (ap slots (sym at) ∙ none)) (λ ne. none))

left_is : (marks : List Removed) (slots : ℕ → Option model_record.Slot) (q : ℕ) (held : Option Index) → slots q ≡ slot_of held
    → index.unmarked (map mark_of marks) slots q ≡ slot_of (if lists_mark marks q held then None else held)
left_is [] slots q held is = is
left_is (k ∷ marks) slots q held is = go (k.hash == q) refl (has_mark held k.sequence) refl (left_is marks next q held)
  where
    next : ℕ → Option model_record.Slot
    next = put slots k.hash (index.without_mark k.sequence (slots k.hash))

    without_it : (o : Option Index) → has_mark o k.sequence ≡ true → index.without_mark k.sequence (slot_of o) ≡ None
    without_it None e = refl
    without_it (Some (Address a)) e = absurd (cc)
    without_it (Some (Tombstone n)) e = ap (λ t. if t then None else Some (model_record.Mark n)) e

    with_it : (o : Option Index) → has_mark o k.sequence ≡ false → index.without_mark k.sequence (slot_of o) ≡ slot_of o
    with_it None e = refl
    with_it (Some (Address a)) e = refl
    with_it (Some (Tombstone n)) e = ap (λ t. if t then None else Some (model_record.Mark n)) e

    at_it : (t : Bool) → has_mark held k.sequence ≡ t → k.hash ≡ q → next q ≡ index.without_mark k.sequence (slot_of held)
    at_it t f at =
        put_at (λ o. o ≡ index.without_mark k.sequence (slot_of held)) slots k.hash (index.without_mark k.sequence (slots k.hash)) q
        (λ e. ap (index.without_mark k.sequence) (ap slots at ∙ is)) (λ ne. absurd (ne (sym at)))

    go : (t : Bool) → (k.hash == q) ≡ t → (u : Bool) → has_mark held k.sequence ≡ u
        → (next q ≡ slot_of held → index.unmarked (map mark_of marks) next q ≡ slot_of (if lists_mark marks q held then None else held))
        → index.unmarked (map mark_of marks) next q ≡ slot_of (if (t && u) || lists_mark marks q held then None else held)
    go true e true f rest = gone marks next q (at_it true f (eqb-true k.hash q e) ∙ without_it held f)
    go true e false f rest = rest (at_it false f (eqb-true k.hash q e) ∙ with_it held f)
    go false e u f rest =
        rest (put_at (λ o. o ≡ slot_of held) slots k.hash (index.without_mark k.sequence (slots k.hash)) q
        (λ at. absurd (eqb-false k.hash q e (sym at))) (λ ne. is))

-- The marks of a batch leave the index as the model has it.
pub unmarked_is : (s : Settings) (held : IndexMap) (slots : ℕ → Option model_record.Slot) (marks : List Removed) → IsIndexedAs s held slots
    → IsIndexedAs s (without_marks held marks) (index.unmarked (map mark_of marks) slots)
unmarked_is s held slots marks are = record {
  slot = λ q. left_is marks slots q (finite.get held q) (are.slot q) ∙ ap slot_of (sym (get-without_marks held marks q));
  there = λ q b is. below q b (lists_mark marks q (finite.get held q)) (sym (get-without_marks held marks q) ∙ is);
}
  where
    below : (q : ℕ) (b : EntryAddress) (t : Bool) → (if t then None else finite.get held q) ≡ Some (Address b) → b.block < s.blocks
    below q b true e = absurd (cc)
    below q b false e = are.there q b e

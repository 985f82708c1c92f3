-- The index after listed addresses left it, as the model has it.
use Rattle.std.proofs.Common.{◌≡◌, ℕ, ◌<◌, ◌==◌, Bool, true, false, ◌&&◌, ◌||◌, if◌then◌else◌, List, [], ◌∷◌, map, Option, Some, None, refl, sym, ap, ◌∙◌}
use Rattle.std.specs.FinMap as finite
use Rattle.std.proofs.lemmas.Bool.{eqb-true, eq-eqb}
use Rattle.foyer_block_index.specs.Index.{IndexMap}
use Rattle.foyer_block_index.specs.Removal.{lists_address, without_addresses}
use Rattle.foyer_block_index.proofs.Indexed.{get-without_addresses}
use Rattle.foyer_block_index.specs.declared.indexer.EntryAddress.{EntryAddress}
use Rattle.foyer_block_index.specs.declared.indexer.HashedEntryAddress.{HashedEntryAddress}
use Rattle.foyer_block_index.specs.declared.indexer.Index.{Index}
use Rattle.foyer_block_index.specs.declared.indexer.Index.TheVariants.{Address, Tombstone}
use Rattle.foyer_core_model.specs.Index.{is_same, without, forgotten}
use Rattle.foyer_core_model.specs.Numbers.{put}
use Rattle.foyer_core_model.specs.Reclaim.{is_listed}
use Rattle.foyer_core_model.specs.Record as model_record
use Rattle.foyer_core_model.specs.Record.{Slot, Indexed, Mark}
use Rattle.foyer_core_model.proofs.CommitSteps.{same_address}
use Rattle.foyer_core_blocks.specs.Addresses.{address_of, listed_of}
use Rattle.foyer_core_blocks.specs.Standing.{slot_of, IsIndexedAs}
use Rattle.foyer_core_blocks.proofs.SlotLemmas.{same_itself}
use Rattle.foyer_core_laws.specs.Settings.{Settings}

-- both comparisons go either way
same_turned : (a b : model_record.Address) → is_same a b ≡ is_same b a
same_turned a b = go (is_same a b) refl (is_same b a) refl
  where
    go : (t : Bool) → is_same a b ≡ t → (u : Bool) → is_same b a ≡ u → t ≡ u
    go true e true f = refl
    go true e false f = absurd (let clash : true ≡ false = sym (same_itself a) ∙ ap (λ x. is_same x a) (same_address a b e) ∙ f in cc)
    go false e true f = absurd (let clash : true ≡ false = sym (same_itself b) ∙ ap (λ x. is_same x b) (same_address b a f) ∙ e in cc)
    go false e false f = refl

equal_turned : (a b : ℕ) → (a == b) ≡ (b == a)
equal_turned a b = go (a == b) refl (b == a) refl
  where
    go : (t : Bool) → (a == b) ≡ t → (u : Bool) → (b == a) ≡ u → t ≡ u
    go true e true f = refl
    go true e false f = absurd (let clash : true ≡ false = sym (eq-eqb b a (sym (eqb-true a b e))) ∙ f in cc)
    go false e true f = absurd (let clash : true ≡ false = sym (eq-eqb a b (sym (eqb-true b a f))) ∙ e in cc)
    go false e false f = refl

-- what a hash has once the listed addresses left
left_at : List (ℕ × model_record.Address) → ℕ → Option Slot → Option Slot
left_at listed q None = None
left_at listed q (Some (Mark n)) = Some (Mark n)
left_at listed q (Some (Indexed a)) = if is_listed (q, a) listed then None else Some (Indexed a)

none_left : (q : ℕ) (o : Option Slot) → left_at [] q o ≡ o
unfolding left_at
none_left q None = refl
none_left q (Some (Mark n)) = refl
none_left q (Some (Indexed a)) = refl

-- one leaves after the other
left_more : (p : ℕ × model_record.Address) (ps : List (ℕ × model_record.Address)) (q : ℕ) (o : Option Slot) (same : Bool) → (q == p.0) ≡ same
    → left_at ps q (if same then without p.1 o else o) ≡ left_at (p ∷ ps) q o
unfolding left_at
left_more p ps q None true e = refl
left_more p ps q None false e = refl
left_more p ps q (Some (Mark n)) true e = refl
left_more p ps q (Some (Mark n)) false e = refl
left_more p ps q (Some (Indexed a)) true e =
    go (is_same p.1 a)
    ∙ ap (λ t. if t || is_listed (q, a) ps then None else Some (Indexed a)) (same_turned p.1 a)
    ∙ ap (λ t. if (t && is_same a p.1) || is_listed (q, a) ps then None else Some (Indexed a)) (sym e)
  where
    go : (t : Bool) → left_at ps q (if t then None else Some (Indexed a)) ≡ (if t || is_listed (q, a) ps then None else Some (Indexed a))
    go true = refl
    go false = refl
left_more p ps q (Some (Indexed a)) false e =
    ap (λ t. if (t && is_same a p.1) || is_listed (q, a) ps then None else Some (Indexed a)) (sym e)

forgotten_at : (listed : List (ℕ × model_record.Address)) (slots : ℕ → Option Slot) (q : ℕ) → forgotten listed slots q ≡ left_at listed q (slots q)
forgotten_at [] slots q = sym (none_left q (slots q))
forgotten_at (p ∷ ps) slots q =
    forgotten_at ps (put slots p.0 (without p.1 (slots p.0))) q
    ∙ ap (left_at ps q) (here (q == p.0) refl)
    ∙ left_more p ps q (slots q) (q == p.0) refl
  where
    here : (t : Bool) → (q == p.0) ≡ t → (if t then without p.1 (slots p.0) else slots q) ≡ (if t then without p.1 (slots q) else slots q)
    here true e = ap (λ k. without p.1 (slots k)) (sym (eqb-true q p.0 e))
    here false e = refl

-- the code's list is the model's
listed_same : (es : List HashedEntryAddress) (q : ℕ) (a : EntryAddress) → lists_address es q (Some (Address a)) ≡ is_listed (q, address_of a) (map listed_of es)
listed_same [] q a = refl
listed_same (e ∷ es) q a =
    ap (λ t. (t && is_same (address_of a) (address_of e.address)) || lists_address es q (Some (Address a))) (equal_turned e.hash q)
    ∙ ap (λ t. ((q == e.hash) && is_same (address_of a) (address_of e.address)) || t) (listed_same es q a)

no_mark : (es : List HashedEntryAddress) (q n : ℕ) → lists_address es q (Some (Tombstone n)) ≡ false
no_mark [] q n = refl
no_mark (e ∷ es) q n = go (e.hash == q) (no_mark es q n)
  where
    go : (t : Bool) → lists_address es q (Some (Tombstone n)) ≡ false → ((t && false) || lists_address es q (Some (Tombstone n))) ≡ false
    go true rest = rest
    go false rest = rest

left_is : (es : List HashedEntryAddress) (listed : List (ℕ × model_record.Address)) (q : ℕ)
    → ((a : model_record.Address) → is_listed (q, a) listed ≡ is_listed (q, a) (map listed_of es))
    → (held : Option Index) → left_at listed q (slot_of held) ≡ slot_of (if lists_address es q held then None else held)
unfolding left_at
left_is es listed q same None = go (lists_address es q None)
  where
    go : (t : Bool) → None ≡ slot_of (if t then None else None)
    go true = refl
    go false = refl
left_is es listed q same (Some (Tombstone n)) =
    ap (λ (t : Bool). slot_of (if t then None else Some (Tombstone n))) (sym (no_mark es q n))
left_is es listed q same (Some (Address a)) =
    ap (λ (t : Bool). if t then None else Some (Indexed (address_of a))) (same (address_of a) ∙ sym (listed_same es q a))
    ∙ go (lists_address es q (Some (Address a)))
  where
    go : (t : Bool) → (if t then None else Some (Indexed (address_of a))) ≡ slot_of (if t then None else Some (Address a))
    go true = refl
    go false = refl

-- Listed addresses leave the index as the model has it, whatever their order in the lists.
pub forgotten_is : (s : Settings) (held : IndexMap) (slots : ℕ → Option Slot) (es : List HashedEntryAddress) (listed : List (ℕ × model_record.Address))
    → ((p : ℕ × model_record.Address) → is_listed p listed ≡ is_listed p (map listed_of es)) → IsIndexedAs s held slots
    → IsIndexedAs s (without_addresses held es) (forgotten listed slots)
forgotten_is s held slots es listed same are = record {
  slot = λ q. forgotten_at listed slots q ∙ ap (left_at listed q) (are.slot q)
      ∙ left_is es listed q (λ a. same (q, a)) (finite.get held q) ∙ ap slot_of (sym (get-without_addresses held es q));
  there = λ q b is. below q b (lists_address es q (finite.get held q)) (sym (get-without_addresses held es q) ∙ is);
}
  where
    below : (q : ℕ) (b : EntryAddress) (t : Bool) → (if t then None else finite.get held q) ≡ Some (Address b) → b.block < s.blocks
    below q b true e = absurd (cc)
    below q b false e = are.there q b e

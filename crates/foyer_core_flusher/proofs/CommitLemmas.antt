-- The index after a commit, as the model has it.
use Rattle.std.proofs.Common.{◌≡◌, ℕ, ◌+◌, ◌<◌, ◌≤◌, ◌%◌, ◌==◌, Bool, true, false, if◌then◌else◌, cond, List, [], ◌∷◌, map, length, slice_index, Option, Some, None, refl, sym, ap, subst, ◌∙◌, arith}
use Rattle.std.proofs.lemmas.Bool.{eqb-true}
use Rattle.std.proofs.lemmas.List.Sums.{sum_by-cons}
use Rattle.std.specs.Cmp.{nat_cmp_total, unsigned_tied}
use Rattle.std.specs.FinMap as finite
use Rattle.foyer_block_index.specs.Committing.{committed_one, committed_all, put_count, PiecesHeld, is_put}
use Rattle.foyer_block_index.specs.Index.{IndexMap, belonging, HasRoomFor}
use Rattle.foyer_block_index.specs.Insertion.{inserted}
use Rattle.foyer_block_index.specs.Removal.{has_address}
use Rattle.foyer_block_index.specs.declared.indexer.EntryAddress.{EntryAddress}
use Rattle.foyer_block_index.specs.declared.indexer.HashedEntryAddress.{HashedEntryAddress}
use Rattle.foyer_block_index.specs.declared.indexer.Index.{Index}
use Rattle.foyer_block_index.specs.declared.indexer.Index.TheVariants.{Address, Tombstone}
use Rattle.foyer_core_model.specs.Commit.{commit_of, committed_one as model_one, taken_in, is_put as is_model_put, address_of as model_address}
use Rattle.foyer_core_model.specs.Index as index
use Rattle.foyer_core_model.specs.Numbers.{put}
use Rattle.foyer_core_model.specs.Record as model_record
use Rattle.foyer_core_blocks.specs.Content.{Content}
use Rattle.foyer_core_blocks.specs.Settings.{Settings}
use Rattle.foyer_core_blocks.specs.Addresses.{address_of}
use Rattle.foyer_core_blocks.specs.Standing.{IsIndexedAs, slot_of}
use Rattle.foyer_core_blocks.proofs.IndexLemmas.{entered_at}
use Rattle.foyer_core_blocks.proofs.SlotLemmas.{same_itself}
use Rattle.foyer_core_model.proofs.CommitSteps.{same_address as same_place}
use Rattle.foyer_core_flusher.specs.FlusherSteps.{settled}
use Rattle.foyer_core_flusher.specs.Flushing.{AreEntering, AreFrom}

-- the comparison goes either way
same_turned : (a b : model_record.Address) → index.is_same a b ≡ index.is_same b a
same_turned a b = go (index.is_same a b) refl (index.is_same b a) refl
  where
    go : (t : Bool) → index.is_same a b ≡ t → (u : Bool) → index.is_same b a ≡ u → t ≡ u
    go true e true f = refl
    go true e false f = absurd (let clash : true ≡ false = sym (same_itself a) ∙ ap (λ x. index.is_same x a) (same_place a b e) ∙ f in cc)
    go false e true f = absurd (let clash : true ≡ false = sym (same_itself b) ∙ ap (λ x. index.is_same x b) (same_place b a f) ∙ e in cc)
    go false e false f = refl

-- the very address is that of the model
pub holds_is : (held : Option Index) (a : EntryAddress) → index.holds (address_of a) (slot_of held) ≡ has_address held a
holds_is None a = refl
holds_is (Some (Tombstone n)) a = refl
holds_is (Some (Address b)) a = same_turned (address_of a) (address_of b)

-- a record that was read back enters over its very address
reread_at : (s : Settings) (m : IndexMap) (slots : ℕ → Option model_record.Slot) (e : HashedEntryAddress) (over : EntryAddress) → IsIndexedAs s m slots → (e.address).block < s.blocks
    → IsIndexedAs s (committed_one m e (Some over)) (put slots e.hash (if index.holds (address_of over) (slots e.hash) then Some (model_record.Indexed (address_of e.address)) else slots e.hash))
reread_at s m slots e over are lt = go (has_address (finite.get m e.hash) over) refl
  where
    shown : index.holds (address_of over) (slots e.hash) ≡ has_address (finite.get m e.hash) over
    shown = ap (index.holds (address_of over)) (are.slot e.hash) ∙ holds_is (finite.get m e.hash) over

    get_put : (q : ℕ) → finite.get (finite.insert m e.hash (Address e.address)) q ≡ (if q == e.hash then Some (Address e.address) else finite.get m q)
    get_put q = finite.get-insert nat_cmp_total m e.hash (Address e.address) q ∙ ap (λ b. cond b (Some (Address e.address)) (finite.get m q)) (unsigned_tied q e.hash)

    replaced : IsIndexedAs s (finite.insert m e.hash (Address e.address)) (put slots e.hash (Some (model_record.Indexed (address_of e.address))))
    replaced = record {
      slot = λ q. here q (q == e.hash) ∙ ap slot_of (sym (get_put q));
      there = λ q b is. below q b (q == e.hash) (sym (get_put q) ∙ is);
    }
      where
        here : (q : ℕ) (t : Bool) → (if t then Some (model_record.Indexed (address_of e.address)) else slots q) ≡ slot_of (if t then Some (Address e.address) else finite.get m q)
        here q true = refl
        here q false = are.slot q

        below : (q : ℕ) (b : EntryAddress) (t : Bool) → (if t then Some (Address e.address) else finite.get m q) ≡ Some (Address b) → b.block < s.blocks
        below q b true f = let same : e.address ≡ b = cc in subst (λ (x : EntryAddress). x.block < s.blocks) same lt
        below q b false f = are.there q b f

    kept : IsIndexedAs s m (put slots e.hash (slots e.hash))
    kept = record { slot = λ q. here q (q == e.hash) refl; there = are.there }
      where
        here : (q : ℕ) (t : Bool) → (q == e.hash) ≡ t → (if t then slots e.hash else slots q) ≡ slot_of (finite.get m q)
        here q true f = let same : q ≡ e.hash = eqb-true q e.hash f in ap slots (sym same) ∙ are.slot q
        here q false f = are.slot q

    go : (t : Bool) → has_address (finite.get m e.hash) over ≡ t
        → IsIndexedAs s (if has_address (finite.get m e.hash) over then finite.insert m e.hash (Address e.address) else m)
        (put slots e.hash (if index.holds (address_of over) (slots e.hash) then Some (model_record.Indexed (address_of e.address)) else slots e.hash))
    go true f =
        subst (λ t. IsIndexedAs s (if t then finite.insert m e.hash (Address e.address) else m) (put slots e.hash (if index.holds (address_of over) (slots e.hash) then Some (model_record.Indexed (address_of e.address)) else slots e.hash))) (sym f)
        (subst (λ t. IsIndexedAs s (finite.insert m e.hash (Address e.address)) (put slots e.hash (if t then Some (model_record.Indexed (address_of e.address)) else slots e.hash))) (sym (shown ∙ f)) replaced)
    go false f =
        subst (λ t. IsIndexedAs s (if t then finite.insert m e.hash (Address e.address) else m) (put slots e.hash (if index.holds (address_of over) (slots e.hash) then Some (model_record.Indexed (address_of e.address)) else slots e.hash))) (sym f)
        (subst (λ t. IsIndexedAs s m (put slots e.hash (if t then Some (model_record.Indexed (address_of e.address)) else slots e.hash))) (sym (shown ∙ f)) kept)

module _ (s : Settings) (block filling : ℕ) (lt : block < s.blocks) where
  -- one record enters as the model commits it
  abbrev Enters : HashedEntryAddress → Option EntryAddress → ℕ × model_record.Record Content → IndexMap → (ℕ → Option model_record.Slot) → Type 0
  Enters e o p held slots =
      IsIndexedAs s (committed_one held (settled block filling e) o) (model_one block filling p slots)
      × (is_put (finite.get held e.hash) o ≡ is_model_put (p.1).source (slots (p.1).hash))

  enters_one : (e : HashedEntryAddress) (o : Option EntryAddress) (p : ℕ × model_record.Record Content) (es : List HashedEntryAddress) (ps : List (ℕ × model_record.Record Content))
      (os : List (Option EntryAddress)) (held : IndexMap) (slots : ℕ → Option model_record.Slot)
      → AreEntering (e ∷ es) (p ∷ ps) → AreFrom (o ∷ os) (map (λ q. q.1) (p ∷ ps)) → IsIndexedAs s held slots → Enters e o p held slots
  enters_one e None p es ps os held slots are from stands =
      let a : EntryAddress = (settled block filling e).address in
      let same : address_of a ≡ model_address block filling p =
      (λ i. record { block = block; offset = are.2 i; len = are.3 i; sequence = are.1 i; filling = filling }) in (
        subst (λ (src : model_record.Source Content). IsIndexedAs s (inserted held e.hash (Address a))
            (put slots (p.1).hash (taken_in src (slots (p.1).hash) (model_address block filling p))))
            (sym ((from.0).1))
            (subst (λ h. IsIndexedAs s (inserted held e.hash (Address a)) (put slots h (index.inserted (slots h) (model_record.Indexed (model_address block filling p)))))
            are.0
            (subst (λ x. IsIndexedAs s (inserted held e.hash (Address a)) (put slots e.hash (index.inserted (slots e.hash) (model_record.Indexed x)))) same
            (entered_at s held slots e.hash a stands lt))),
        ap (λ (src : model_record.Source Content). is_model_put src (slots (p.1).hash)) (sym ((from.0).1)),
      )
  enters_one e (Some over) p es ps os held slots are from stands =
      let a : EntryAddress = (settled block filling e).address in
      let same : address_of a ≡ model_address block filling p =
      (λ i. record { block = block; offset = are.2 i; len = are.3 i; sequence = are.1 i; filling = filling }) in (
        subst (λ (src : model_record.Source Content). IsIndexedAs s (committed_one held (settled block filling e) (Some over))
            (put slots (p.1).hash (taken_in src (slots (p.1).hash) (model_address block filling p))))
            (sym ((from.0).0))
            (subst (λ h. IsIndexedAs s (committed_one held (settled block filling e) (Some over))
            (put slots h (if index.holds (address_of over) (slots h) then Some (model_record.Indexed (model_address block filling p)) else slots h)))
            are.0
            (subst (λ x. IsIndexedAs s (committed_one held (settled block filling e) (Some over))
            (put slots e.hash (if index.holds (address_of over) (slots e.hash) then Some (model_record.Indexed x) else slots e.hash))) same
            (reread_at s held slots (settled block filling e) over stands lt))),
        sym (holds_is (finite.get held e.hash) over) ∙ ap (index.holds (address_of over)) (sym (stands.slot e.hash)) ∙ ap (λ h. index.holds (address_of over) (slots h)) are.0
            ∙ ap (λ (src : model_record.Source Content). is_model_put src (slots (p.1).hash)) (sym ((from.0).0)),
      )

  -- A block's records enter as the model commits them.
  pub committed : (es : List HashedEntryAddress) (os : List (Option EntryAddress)) (ps : List (ℕ × model_record.Record Content)) (held : IndexMap) (slots : ℕ → Option model_record.Slot)
      → AreEntering es ps → AreFrom os (map (λ q. q.1) ps) → IsIndexedAs s held slots
      → IsIndexedAs s (committed_all held (map (settled block filling) es) os) (commit_of block filling ps slots).index
  committed [] os [] held slots are from stands = stands
  committed [] os (p ∷ ps) held slots are from stands = absurd are
  committed (e ∷ es) os [] held slots are from stands = absurd are
  committed (e ∷ es) [] (p ∷ ps) held slots are from stands = absurd from
  committed (e ∷ es) (o ∷ os) (p ∷ ps) held slots are from stands =
      committed es os ps (committed_one held (settled block filling e) o) (model_one block filling p slots) are.4 from.1
      (enters_one e o p es ps os held slots are from stands).0

  -- and as many of them are puts
  pub puts_all : (es : List HashedEntryAddress) (os : List (Option EntryAddress)) (ps : List (ℕ × model_record.Record Content)) (held : IndexMap) (slots : ℕ → Option model_record.Slot)
      → AreEntering es ps → AreFrom os (map (λ q. q.1) ps) → IsIndexedAs s held slots
      → put_count held (map (settled block filling) es) os ≡ length (commit_of block filling ps slots).puts
  puts_all [] os [] held slots are from stands = refl
  puts_all [] os (p ∷ ps) held slots are from stands = absurd are
  puts_all (e ∷ es) os [] held slots are from stands = absurd are
  puts_all (e ∷ es) [] (p ∷ ps) held slots are from stands = absurd from
  puts_all (e ∷ es) (o ∷ os) (p ∷ ps) held slots are from stands =
      let one = enters_one e o p es ps os held slots are from stands in
      ap (λ k. (if is_put (finite.get held e.hash) o then 1 else 0) + k)
      (puts_all es os ps (committed_one held (settled block filling e) o) (model_one block filling p slots) are.4 from.1 one.0)
      ∙ ap (λ t. (if t then 1 else 0) + length rest) one.1
      ∙ counted (is_model_put (p.1).source (slots (p.1).hash))
    where
      rest : List (model_record.Record Content)
      rest = (commit_of block filling ps (model_one block filling p slots)).puts

      counted : (t : Bool) → (if t then 1 else 0) + length rest ≡ length (if t then p.1 ∷ rest else rest)
      counted true = omega arith
      counted false = omega arith

-- what holds for records holds for them at the places where they are stored
pub held_settled : (slots : IndexMap) (block filling : ℕ) (es : List HashedEntryAddress) (os : List (Option EntryAddress)) → PiecesHeld slots es os → PiecesHeld slots (map (settled block filling) es) os
held_settled slots block filling [] os held = tt
held_settled slots block filling (e ∷ es) [] held = (held.0, held_settled slots block filling es [] held.1)
held_settled slots block filling (e ∷ es) (None ∷ os) held = (held.0, held_settled slots block filling es os held.1)
held_settled slots block filling (e ∷ es) (Some over ∷ os) held = held_settled slots block filling es os held

belonging_settled : (n i block filling : ℕ) (es : List HashedEntryAddress) → belonging n i (map (settled block filling) es) ≡ belonging n i es
belonging_settled n i block filling [] = refl
belonging_settled n i block filling (e ∷ es) = sum_by-cons (λ e. if e.hash % n == i then 1 else 0) (settled block filling e) (map (settled block filling) es)
    ∙ ap (λ k. (if e.hash % n == i then 1 else 0) + k) (belonging_settled n i block filling es) ∙ sym (sum_by-cons (λ e. if e.hash % n == i then 1 else 0) e es)

-- and there is room for them if there was room for the records
pub room_settled : (rooms : List ℕ) (block filling : ℕ) (es : List HashedEntryAddress) → HasRoomFor rooms es → HasRoomFor rooms (map (settled block filling) es)
room_settled rooms block filling es room = λ i lt. subst (λ k. k ≤ slice_index rooms i) (sym (belonging_settled (length rooms) i block filling es)) (room i lt)

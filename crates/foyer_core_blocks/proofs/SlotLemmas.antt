-- One hash of the index changes.
use Rattle.std.proofs.Common.{◌≡◌, ℕ, ◌<◌, ◌==◌, nat_le, Bool, true, false, cond, IsTrue, ◌↔◌, option_and_then, if◌then◌else◌, Option, Some, None, refl, sym, ap, subst, ◌∙◌}
use Rattle.std.proofs.lemmas.Bool.{eq-eqb}
use Rattle.std.specs.Bool.{OnTrue, OnFalse}
use Rattle.std.specs.Cmp.{nat_cmp_total, unsigned_tied}
use Rattle.std.specs.FinMap as finite
use Rattle.std.specs.FinMap.{get-remove}
use Rattle.foyer_block_index.proofs.Indexed.{get-inserted}
use Rattle.foyer_block_index.specs.Index.{IndexMap, sequence_of, address_of as block_address}
use Rattle.foyer_block_index.specs.Insertion.{entered, inserted}
use Rattle.foyer_block_index.specs.declared.indexer.EntryAddress.{EntryAddress}
use Rattle.foyer_block_index.specs.declared.indexer.Index.{Index}
use Rattle.foyer_block_index.specs.declared.indexer.Index.TheVariants.{Address, Tombstone}
use Rattle.foyer_core_model.specs.Index as plain
use Rattle.foyer_core_model.specs.Numbers.{put}
use Rattle.foyer_core_model.specs.Record as model_record
use Rattle.foyer_core_model.specs.Record.{Slot, Indexed, Mark}
use Rattle.foyer_core_model.proofs.Basics.{put_at}
use Rattle.foyer_core_model.proofs.CommitSteps.{same_address}
use Rattle.foyer_core_blocks.specs.Addresses.{address_of}
use Rattle.foyer_core_blocks.specs.Standing.{slot_of, IsIndexedAs}
use Rattle.foyer_core_laws.specs.Settings.{Settings}

abbrev pub plain_of : Index → Slot
plain_of (Address a) = Indexed (address_of a)
plain_of (Tombstone sequence) = Mark sequence

pub slot_some : (x : Index) → slot_of (Some x) ≡ Some (plain_of x)
slot_some (Address a) = refl
slot_some (Tombstone sequence) = refl

-- an address that is there
abbrev pub IsThereAt : ℕ → Index → Type 0
IsThereAt blocks (Address a) = a.block < blocks
IsThereAt blocks (Tombstone sequence) = Unit {0}

same_sequence : (x : Index) → plain.sequence_at (plain_of x) ≡ sequence_of x
same_sequence (Address a) = refl
same_sequence (Tombstone sequence) = refl

-- what a hash has after an insertion
pub slot_entered : (held : Option Index) (next : Index) → slot_of (Some (entered held next)) ≡ plain.inserted (slot_of held) (plain_of next)
slot_entered None next = slot_some next
slot_entered (Some held) next =
    go (nat_le (sequence_of held) (sequence_of next))
    ∙ ap (λ b. if b then Some (plain_of next) else Some (plain_of held)) (ap (λ n. nat_le n (sequence_of next)) (sym (same_sequence held)) ∙ ap (nat_le (plain.sequence_at (plain_of held))) (sym (same_sequence next)))
    ∙ ap (λ o. plain.inserted o (plain_of next)) (sym (slot_some held))
  where
    go : (b : Bool) → slot_of (Some (if b then next else held)) ≡ (if b then Some (plain_of next) else Some (plain_of held))
    go true = slot_some next
    go false = slot_some held

there_entered : (blocks : ℕ) (held : Option Index) (next : Index) → IsThereAt blocks next
    → ((a : EntryAddress) → held ≡ Some (Address a) → a.block < blocks) → (a : EntryAddress) → entered held next ≡ Address a → a.block < blocks
there_entered blocks None next there olds a = λ is. subst (IsThereAt blocks) is there
there_entered blocks (Some held) next there olds a = go (nat_le (sequence_of held) (sequence_of next))
  where
    go : (b : Bool) → (if b then next else held) ≡ Address a → a.block < blocks
    go true is = subst (IsThereAt blocks) is there
    go false is = olds a (ap (λ x. Some x) is)

module _ (s : Settings) where
  pub index_inserted : (index : IndexMap) (slots : ℕ → Option Slot) (hash : ℕ) (next : Index) → IsThereAt s.blocks next → IsIndexedAs s index slots
      → IsIndexedAs s (inserted index hash next) (put slots hash (plain.inserted (slots hash) (plain_of next)))
  index_inserted index slots hash next there is = record { slot = slot; there = theres }
    where
      now : (q : ℕ) → finite.get (inserted index hash next) q ≡ (if q == hash then Some (entered (finite.get index hash) next) else finite.get index q)
      now q = get-inserted index hash next q

      slot : (q : ℕ) → put slots hash (plain.inserted (slots hash) (plain_of next)) q ≡ slot_of (finite.get (inserted index hash next) q)
      slot q = go (q == hash) ∙ ap slot_of (sym (now q))
        where
          go : (b : Bool) → (if b then plain.inserted (slots hash) (plain_of next) else slots q) ≡ slot_of (if b then Some (entered (finite.get index hash) next) else finite.get index q)
          go true = ap (λ o. plain.inserted o (plain_of next)) (is.slot hash) ∙ sym (slot_entered (finite.get index hash) next)
          go false = is.slot q

      theres : (q : ℕ) (a : EntryAddress) → finite.get (inserted index hash next) q ≡ Some (Address a) → a.block < s.blocks
      theres q a at = go (q == hash) (sym (now q) ∙ at)
        where
          go : (b : Bool) → (if b then Some (entered (finite.get index hash) next) else finite.get index q) ≡ Some (Address a) → a.block < s.blocks
          go true e = there_entered s.blocks (finite.get index hash) next there (is.there hash) a (let g : entered (finite.get index hash) next ≡ Address a = cc in g)
          go false e = is.there q a e

-- a hash that has an address
pub held_address : (held : Option Index) (a : EntryAddress) → option_and_then block_address held ≡ Some a → held ≡ Some (Address a)
held_address None a is = absurd (cc)
held_address (Some (Tombstone sequence)) a is = absurd (cc)
held_address (Some (Address b)) a is = ap (λ x. Some (Address x)) (let e : b ≡ a = cc in e)

pub same_itself : (a : model_record.Address) → plain.is_same a a ≡ true
same_itself a = rw (eq-eqb a.block a.block refl, eq-eqb a.offset a.offset refl, eq-eqb a.len a.len refl, eq-eqb a.sequence a.sequence refl, eq-eqb a.filling a.filling refl)

-- the very address leaves the hash that has it
pub without_itself : (a : model_record.Address) (slot : Option Slot) → slot ≡ Some (Indexed a) → plain.without a slot ≡ None
without_itself a slot is = ap (plain.without a) is ∙ ap (λ b. if b then None else Some (Indexed a)) (same_itself a)

as_issued : (a b : EntryAddress) → address_of a ≡ address_of b → a ≡ b
as_issued a b same = λ i. record { block = (same i).block; offset = (same i).offset; len = (same i).len; sequence = (same i).sequence; filling = (same i).filling }

-- and no other
without_other : (a : EntryAddress) (held : Option Index) → (held ≡ Some (Address a) → ⊥) → plain.without (address_of a) (slot_of held) ≡ slot_of held
without_other a None ne = refl
without_other a (Some (Tombstone sequence)) ne = refl
without_other a (Some (Address b)) ne = go (plain.is_same (address_of a) (address_of b)) refl
  where
    go : (t : Bool) → plain.is_same (address_of a) (address_of b) ≡ t → (if t then None else Some (Indexed (address_of b))) ≡ Some (Indexed (address_of b))
    go true e = absurd (ne (ap (λ x. Some (Address x)) (sym (as_issued a b (same_address (address_of a) (address_of b) e)))))
    go false e = refl

module _ (s : Settings) where
  pub index_removed : (index next : IndexMap) (slots : ℕ → Option Slot) (hash : ℕ) (a : EntryAddress) (done : Bool)
      → (IsTrue done ↔ (finite.get index hash ≡ Some (Address a))) → OnTrue done (next ≡ finite.remove index hash) → OnFalse done (next ≡ index)
      → IsIndexedAs s index slots → IsIndexedAs s next (put slots hash (plain.without (address_of a) (slots hash)))
  index_removed index next slots hash a true answer removed unchanged is =
      subst (λ k. IsIndexedAs s k (put slots hash (plain.without (address_of a) (slots hash)))) (sym removed) (record { slot = slot; there = there })
    where
      now : (q : ℕ) → finite.get (finite.remove index hash) q ≡ (if q == hash then None else finite.get index q)
      now q = get-remove nat_cmp_total index hash q ∙ ap (λ b. cond b None (finite.get index q)) (unsigned_tied q hash)

      gone : plain.without (address_of a) (slots hash) ≡ None
      gone = without_itself (address_of a) (slots hash) (is.slot hash ∙ ap slot_of (answer.0 refl))

      slot : (q : ℕ) → put slots hash (plain.without (address_of a) (slots hash)) q ≡ slot_of (finite.get (finite.remove index hash) q)
      slot q = go (q == hash) ∙ ap slot_of (sym (now q))
        where
          go : (b : Bool) → (if b then plain.without (address_of a) (slots hash) else slots q) ≡ slot_of (if b then None else finite.get index q)
          go true = gone
          go false = is.slot q

      there : (q : ℕ) (x : EntryAddress) → finite.get (finite.remove index hash) q ≡ Some (Address x) → x.block < s.blocks
      there q x at = go (q == hash) (sym (now q) ∙ at)
        where
          go : (b : Bool) → (if b then None else finite.get index q) ≡ Some (Address x) → x.block < s.blocks
          go true e = absurd (cc)
          go false e = is.there q x e
  index_removed index next slots hash a false answer removed unchanged is =
      subst (λ k. IsIndexedAs s k (put slots hash (plain.without (address_of a) (slots hash)))) (sym unchanged) (record {
        slot = λ q. put_at (λ o. o ≡ slot_of (finite.get index q)) slots hash (plain.without (address_of a) (slots hash)) q
            (λ same. stays ∙ ap (λ k. slot_of (finite.get index k)) (sym same)) (λ ne. is.slot q);
        there = is.there;
      })
    where
      stays : plain.without (address_of a) (slots hash) ≡ slot_of (finite.get index hash)
      stays = ap (plain.without (address_of a)) (is.slot hash) ∙ without_other a (finite.get index hash) (λ e. let f : false ≡ true = answer.1 e in cc)

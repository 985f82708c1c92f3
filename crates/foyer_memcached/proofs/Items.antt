-- An item that is read is the one that was written, and one that was written is read.
use Rattle.std.proofs.Common.{◌≡◌, ℕ, ◌^◌, ◌<◌, ◌≤◌, Bool, true, false, cond, eqb, ltb, List, ◌∷◌, ◌++◌, length, drop, Option, Some, None, refl, sym, ap, subst, ◌∙◌, arith}
use Rattle.std.specs.Prelude.{IfSome, slice_index}
use Rattle.std.proofs.lemmas.Bool.{ltb-false, le-ltb, eqb-true}
use Rattle.std.proofs.lemmas.List.{drop_more}
use Rattle.std.proofs.lemmas.Nat.{from_le_bytes-to_le_bytes_4, from_le_bytes-to_le_bytes_8}
use Rattle.foyer_memcached.specs.declared.item.Item.{Item}
use Rattle.foyer_memcached.specs.Item.{Fits, Kept, Reads, kept, mark_byte, mark_of, item_bytes, item_of, item_at}
use Rattle.foyer_memcached.specs.Numbers.{four_bytes, four_at, eight_bytes, eight_at}
use Rattle.foyer_memcached.proofs.Fields.{IsBytes, four, four_fits, eight, eight_fits}
use Rattle.foyer_memcached.proofs.Options.{some_is, none_not, unless, when}

-- ---- marks

pub mark_again : (d : Bool) → mark_of (mark_byte d) ≡ Some d
mark_again true = refl
mark_again false = refl

pub mark_is : (b : ℕ) (d : Bool) → mark_of b ≡ Some d → b ≡ mark_byte d
mark_is b d e = go (eqb b 4) refl e
  where
    last : (t : Bool) → eqb b 0 ≡ t → cond t (Some false) None ≡ Some d → b ≡ mark_byte d
    last true is e = eqb-true _ _ is ∙ ap mark_byte (some_is false d e)
    last false is e = absurd (none_not d e)

    go : (t : Bool) → eqb b 4 ≡ t → cond t (Some true) (cond (eqb b 0) (Some false) None) ≡ Some d → b ≡ mark_byte d
    go true is e = eqb-true _ _ is ∙ ap mark_byte (some_is true d e)
    go false is e = last (eqb b 0) refl e

-- ---- items

-- the fields of an item that was made
record IsItemOf (o : Option Bool) (f e c : ℕ) (v : List ℕ) (i : Kept) : Type 0 where
  pub mark : o ≡ Some i.is_deleted
  pub flags : f ≡ i.flags
  pub expiry : e ≡ i.expiry
  pub cas : c ≡ i.cas
  pub value : v ≡ i.value

item_fields : (o : Option Bool) (f e c : ℕ) (v : List ℕ) (i : Kept) → item_of o f e c v ≡ Some i → IsItemOf o f e c v i
item_fields None f e c v i is = absurd (none_not i is)
item_fields (Some d) f e c v i is =
    let made : Kept = record { is_deleted = d; flags = f; expiry = e; cas = c; value = v } in
    subst (λ (x : Kept). IsItemOf (Some d) f e c v x) (some_is made i is) (record { mark = refl; flags = refl; expiry = refl; cas = refl; value = refl })

pub item_takes : (bytes : List ℕ) (i : Kept) → IsBytes bytes → item_at bytes ≡ Some i → Fits i × (bytes ≡ item_bytes i)
unfolding item_at
item_takes bytes i fits e =
    let made = item_of (mark_of (slice_index bytes 1)) (four_at 2 bytes) (four_at 6 bytes) (eight_at 10 bytes) (drop 18 bytes) in
    let a = unless (ltb (length bytes) 18) (cond (eqb (slice_index bytes 0) 109) made None) i e in
    let b = when (eqb (slice_index bytes 0) 109) made i a.1 in
    let long : 18 ≤ length bytes = ltb-false _ _ a.0 in
    let f = item_fields (mark_of (slice_index bytes 1)) (four_at 2 bytes) (four_at 6 bytes) (eight_at 10 bytes) (drop 18 bytes) i b.1 in
    let letter : slice_index bytes 0 ≡ 109 = eqb-true _ _ b.0 in
    let mark : slice_index bytes 1 ≡ mark_byte i.is_deleted = mark_is (slice_index bytes 1) i.is_deleted f.mark in
    let front : bytes ≡ slice_index bytes 0 ∷ drop 1 bytes = drop_more bytes 0 0 (omega arith) in
    let second : drop 1 bytes ≡ slice_index bytes 1 ∷ drop 2 bytes = drop_more bytes 1 0 (omega arith) in
    let one = four 2 bytes fits (omega arith) in
    let two = four 6 bytes fits (omega arith) in
    let three = eight 10 bytes fits (omega arith) in
    let spelled : bytes ≡ slice_index bytes 0 ∷ (slice_index bytes 1 ∷ (four_bytes (four_at 2 bytes) ++ (four_bytes (four_at 6 bytes) ++ (eight_bytes (eight_at 10 bytes) ++ drop 18 bytes)))) =
    front ∙ ap (λ (t : List ℕ). slice_index bytes 0 ∷ t) (second ∙ ap (λ (t : List ℕ). slice_index bytes 1 ∷ t) (one ∙ ap (λ (t : List ℕ). four_bytes (four_at 2 bytes) ++ t) (two ∙ ap (λ (t : List ℕ). four_bytes (four_at 6 bytes) ++ t) three))) in (
      record {
        flags = subst (λ (n : ℕ). n < 2 ^ 32) f.flags (four_fits 2 bytes fits);
        expiry = subst (λ (n : ℕ). n < 2 ^ 32) f.expiry (four_fits 6 bytes fits);
        cas = subst (λ (n : ℕ). n < 2 ^ 64) f.cas (eight_fits 10 bytes fits);
      },
      spelled ∙ again i (slice_index bytes 0) (slice_index bytes 1) (four_at 2 bytes) (four_at 6 bytes) (eight_at 10 bytes) (drop 18 bytes) letter mark f.flags f.expiry f.cas f.value,
    )
  where
    again : (i : Kept) (b m f e c : ℕ) (v : List ℕ) → b ≡ 109 → m ≡ mark_byte i.is_deleted → f ≡ i.flags → e ≡ i.expiry → c ≡ i.cas → v ≡ i.value
        → b ∷ (m ∷ (four_bytes f ++ (four_bytes e ++ (eight_bytes c ++ v)))) ≡ item_bytes i
    again i b m f e c v eb em ef ee ec ev = rw (eb, em, ef, ee, ec, ev) refl

item_made : (bytes : List ℕ) (i : Kept) → 18 ≤ length bytes → slice_index bytes 0 ≡ 109 → mark_of (slice_index bytes 1) ≡ Some i.is_deleted → four_at 2 bytes ≡ i.flags → four_at 6 bytes ≡ i.expiry → eight_at 10 bytes ≡ i.cas → drop 18 bytes ≡ i.value
    → item_at bytes ≡ Some i
unfolding item_at
item_made bytes i long eb em ef ee ec ev =
    chosen (ltb (length bytes) 18) (slice_index bytes 0) (mark_of (slice_index bytes 1)) (four_at 2 bytes) (four_at 6 bytes) (eight_at 10 bytes) (drop 18 bytes) (le-ltb (length bytes) 18 long) eb em ef ee ec ev
  where
    chosen : (t : Bool) (b : ℕ) (m : Option Bool) (f e c : ℕ) (v : List ℕ) → t ≡ false → b ≡ 109 → m ≡ Some i.is_deleted → f ≡ i.flags → e ≡ i.expiry → c ≡ i.cas → v ≡ i.value
        → cond t None (cond (eqb b 109) (item_of m f e c v) None) ≡ Some i
    chosen t b m f e c v et eb em ef ee ec ev = rw (et, eb, em, ef, ee, ec, ev) refl

pub item_again : (i : Kept) → Fits i → item_at (item_bytes i) ≡ Some i
item_again i fits =
    item_made (item_bytes i) i (omega arith) refl (mark_again i.is_deleted) (from_le_bytes-to_le_bytes_4 i.flags fits.flags) (from_le_bytes-to_le_bytes_4 i.expiry fits.expiry) (from_le_bytes-to_le_bytes_8 i.cas fits.cas) refl

pub is_found : (bytes : List ℕ) (x : Option Item) → IsBytes bytes → Reads kept x (item_at bytes) → IfSome x (λ i. Fits (kept i) × (bytes ≡ item_bytes (kept i)))
is_found bytes (Some i) fits reads = item_takes bytes (kept i) fits reads
is_found bytes None fits reads = tt

pub one_item : (i j : Kept) → Fits i → Fits j → item_bytes i ≡ item_bytes j → i ≡ j
one_item i j fi fj e = some_is i j (sym (item_again i fi) ∙ ap item_at e ∙ item_again j fj)

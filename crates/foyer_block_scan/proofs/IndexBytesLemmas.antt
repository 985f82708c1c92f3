-- Which bytes are an index.
use Rattle.std.proofs.Common.{◌≡◌, ℕ, zero, suc, ◌+◌, ◌%◌, ◌<◌, ◌≤◌, ◌==◌, nat_le, nat_lt, Bool, true, false, ◌&&◌, if◌then◌else◌, List, [], ◌∷◌, length, drop, Option, Some, None, slice_index_or, refl, sym, ap, subst, ◌∙◌, arith}
use Rattle.std.proofs.lemmas.Bool.{eqb-true, eq-eqb}
use Rattle.std.proofs.lemmas.Bool.Decides.{nat_tests}
use Rattle.std.proofs.lemmas.List.{at_drop_more, at_drop_all}
use Rattle.foyer_format_checksum.specs.Xxh64.{xxh64}
use Rattle.foyer_format_buffer.specs.Header.{number_at}
use Rattle.foyer_format_layout.specs.Page.{page_up}
use Rattle.foyer_format_buffer.specs.Blob.{IsSealed, entries_in, capacity_of}
use Rattle.foyer_format_buffer.proofs.BlobLemmas.{sealed_from}
use Rattle.foyer_format_layout.specs.Each.{Each}
use Rattle.foyer_format_layout.specs.Position.{Sizes}
use Rattle.foyer_format_buffer.specs.Listing.{Fits}
use Rattle.foyer_block_scan.specs.IndexBytes.{is_sealed, sealed_entries, fits, all_fit, index_at, IsIndexOf}
use Rattle.foyer_block_scan.specs.Walk.{Judges}
use Rattle.foyer_format_buffer.specs.BlobEntryIndex.{BlobEntryIndex}

-- both tests hold, or one doesn't
pub both : {a b : Bool} → a && b ≡ true → (a ≡ true) × (b ≡ true)
both {a} {b} e = go a b e
  where
    go : (a b : Bool) → a && b ≡ true → (a ≡ true) × (b ≡ true)
    go true true e = (refl, refl)
    go true false e = absurd (cc)
    go false b e = absurd (cc)

pub and_true : (a b : Bool) → a ≡ true → b ≡ true → a && b ≡ true
and_true a b p q = ap (λ t. t && b) p ∙ q

pub le_true : (a b : ℕ) → a ≤ b → nat_le a b ≡ true
le_true a b le = grind (arith, nat_tests)

pub true_le : (a b : ℕ) → nat_le a b ≡ true → a ≤ b
true_le a b e = grind (arith, nat_tests)

pub lt_true : (a b : ℕ) → a < b → nat_lt a b ≡ true
lt_true a b lt = grind (arith, nat_tests)

pub true_lt : (a b : ℕ) → nat_lt a b ≡ true → a < b
true_lt a b e = grind (arith, nat_tests)

-- an entry that fits, by the tests and in words
pub fits_so : (s : Sizes) (p : ℕ) (e : BlobEntryIndex) → fits s p e ≡ true → Fits s p e
fits_so s p e is =
    let a = both is in
    let b = both a.0 in
    let c = both b.0 in
    record {
      some = true_lt 0 e.len c.0;
      behind = true_le s.index e.offset c.1;
      aligned = eqb-true (e.offset % 4096) 0 b.1;
      within = true_le (p + e.offset + page_up e.len) s.block a.1;
    }

so_fits : (s : Sizes) (p : ℕ) (e : BlobEntryIndex) → Fits s p e → fits s p e ≡ true
so_fits s p e f =
    and_true (nat_lt 0 e.len && nat_le s.index e.offset && (e.offset % 4096 == 0)) (nat_le (p + e.offset + page_up e.len) s.block)
    (and_true (nat_lt 0 e.len && nat_le s.index e.offset) (e.offset % 4096 == 0)
    (and_true (nat_lt 0 e.len) (nat_le s.index e.offset) (lt_true 0 e.len f.some) (le_true s.index e.offset f.behind))
    (eq-eqb (e.offset % 4096) 0 f.aligned))
    (le_true (p + e.offset + page_up e.len) s.block f.within)

pub all_so : (s : Sizes) (p : ℕ) (es : List BlobEntryIndex) → all_fit s p es ≡ true → Each (Fits s p) es
all_so s p [] is = tt
all_so s p (e ∷ es) is = let a = both is in (fits_so s p e a.0, all_so s p es a.1)

so_all : (s : Sizes) (p : ℕ) (es : List BlobEntryIndex) → Each (Fits s p) es → all_fit s p es ≡ true
so_all s p [] all = refl
so_all s p (e ∷ es) all = and_true (fits s p e) (all_fit s p es) (so_fits s p e all.0) (so_all s p es all.1)

sealed_so : (b : List ℕ) → is_sealed b ≡ true → IsSealed b (sealed_entries b)
sealed_so b is =
    let a = both is in
    let c = both a.0 in
    sealed_from b (sealed_entries b) (number_at 8 4 b) (true_le 12 (length b) c.0) (eqb-true (number_at 0 8 b) (xxh64 (drop 8 b)) c.1) refl
    (true_le (number_at 8 4 b) (capacity_of (length b)) a.1) refl

so_sealed : (b : List ℕ) (es : List BlobEntryIndex) → IsSealed b es → (is_sealed b ≡ true) × (sealed_entries b ≡ es)
so_sealed b es is = (
  and_true (nat_le 12 (length b) && (number_at 0 8 b == xxh64 (drop 8 b))) (nat_le (number_at 8 4 b) (capacity_of (length b)))
      (and_true (nat_le 12 (length b)) (number_at 0 8 b == xxh64 (drop 8 b)) (le_true 12 (length b) is.long) (eq-eqb (number_at 0 8 b) (xxh64 (drop 8 b)) is.checksum))
      (le_true (number_at 8 4 b) (capacity_of (length b)) (subst (λ n. n ≤ capacity_of (length b)) (sym is.count) is.room)),
  ap (entries_in b) is.count ∙ is.entries,
)

-- bytes that are sealed with entries that fit are that index
pub index_found : (s : Sizes) (p : ℕ) (b : List ℕ) (es : List BlobEntryIndex) → IsSealed b es → all_fit s p es ≡ true → index_at s p b ≡ Some es
index_found s p b es is all =
    let so : (is_sealed b ≡ true) × (sealed_entries b ≡ es) = so_sealed b es is in
    let fit : all_fit s p (sealed_entries b) ≡ true = ap (all_fit s p) so.1 ∙ all in
    ap (λ t. if t then Some (sealed_entries b) else None) (and_true (is_sealed b) (all_fit s p (sealed_entries b)) so.0 fit) ∙ ap Some so.1

-- bytes that are sealed, but whose entries don't all fit, are none
pub index_unfit : (s : Sizes) (p : ℕ) (b : List ℕ) (es : List BlobEntryIndex) → IsSealed b es → all_fit s p es ≡ false → index_at s p b ≡ None
index_unfit s p b es is not =
    let so : (is_sealed b ≡ true) × (sealed_entries b ≡ es) = so_sealed b es is in
    ap (λ t. if t && all_fit s p (sealed_entries b) then Some (sealed_entries b) else None) so.0
    ∙ ap (λ l. if all_fit s p l then Some (sealed_entries b) else None) so.1
    ∙ ap (λ t. if t then Some (sealed_entries b) else None) not

-- and neither are bytes that aren't sealed
pub index_unsealed : (s : Sizes) (p : ℕ) (b : List ℕ) → ((es : List BlobEntryIndex) → IsSealed b es → ⊥) → index_at s p b ≡ None
index_unsealed s p b none = go (is_sealed b) refl
  where
    go : (t : Bool) → is_sealed b ≡ t → (if t && all_fit s p (sealed_entries b) then Some (sealed_entries b) else None) ≡ None
    go true e = absurd (none (sealed_entries b) (sealed_so b e))
    go false e = refl

pub judged : (s : Sizes) (p : ℕ) (b : List ℕ) → Judges s p b
judged s p b = record {
  some = λ es is. go_some es (is_sealed b) refl (all_fit s p (sealed_entries b)) refl is;
  none = λ is es index. absurd (let found : index_at s p b ≡ Some es = index_found s p b es index.sealed (so_all s p es index.fits) in let clash : None ≡ Some es = sym is ∙ found in cc);
}
  where
    go_some : (es : List BlobEntryIndex) (t : Bool) → is_sealed b ≡ t → (u : Bool) → all_fit s p (sealed_entries b) ≡ u
        → (if t && u then Some (sealed_entries b) else None) ≡ Some es → IsIndexOf s p b es
    go_some es true e true f is =
        let same : sealed_entries b ≡ es = cc in
        subst (IsIndexOf s p b) same (record { sealed = sealed_so b e; fits = all_so s p (sealed_entries b) f })
    go_some es true e false f is = absurd (cc)
    go_some es false e u f is = absurd (cc)

-- the walk over the entries
pub fit_further : (s : Sizes) (p : ℕ) (xs : List BlobEntryIndex) (i : ℕ) (d : BlobEntryIndex) → i < length xs → all_fit s p xs ≡ all_fit s p (drop i xs)
    → fits s p (slice_index_or xs i d) ≡ true → all_fit s p xs ≡ all_fit s p (drop (i + 1) xs)
fit_further s p xs i d lt walk test =
    walk ∙ at_drop_more (all_fit s p) xs i d lt ∙ ap (λ t. t && all_fit s p (drop (i + 1) xs)) test

pub unfit_here : (s : Sizes) (p : ℕ) (xs : List BlobEntryIndex) (i : ℕ) (d : BlobEntryIndex) → i < length xs → all_fit s p xs ≡ all_fit s p (drop i xs)
    → fits s p (slice_index_or xs i d) ≡ false → false ≡ all_fit s p xs
unfit_here s p xs i d lt walk test =
    sym (walk ∙ at_drop_more (all_fit s p) xs i d lt ∙ ap (λ t. t && all_fit s p (drop (i + 1) xs)) test)

pub all_fitted : (s : Sizes) (p : ℕ) (xs : List BlobEntryIndex) (i : ℕ) → length xs ≤ i → all_fit s p xs ≡ all_fit s p (drop i xs) → true ≡ all_fit s p xs
all_fitted s p xs i le walk = sym (walk ∙ at_drop_all (all_fit s p) xs i le)

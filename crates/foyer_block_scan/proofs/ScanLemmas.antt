-- What the scanner makes of an index.
use Rattle.std.proofs.Common.{◌≡◌, ℕ, zero, suc, ◌+◌, ◌<◌, ◌≤◌, ◌==◌, Bool, true, false, Option, Some, None, List, [], ◌∷◌, ◌++◌, length, take, slice_index_or, refl, sym, ap, ◌∙◌, arith}
use Rattle.std.proofs.lemmas.Bool.{eqb-false}
use Rattle.std.proofs.lemmas.List.{take_more}
use Rattle.foyer_format_layout.specs.Page.{page_up}
use Rattle.foyer_format_layout.specs.Position.{Sizes}
use Rattle.foyer_format_buffer.specs.Listing.{Fits, behind, placed}
use Rattle.foyer_format_buffer.specs.Blob.{IsSealed}
use Rattle.foyer_block_scan.specs.IndexBytes.{all_fit}
use Rattle.foyer_block_scan.specs.ScanState.{Scan}
use Rattle.foyer_block_scan.specs.Scan.{info_of, infos_of, index_step, scan_end, scan_step}
use Rattle.foyer_block_scan.proofs.IndexBytesLemmas.{both, fits_so, index_found, index_unfit, index_unsealed}
use Rattle.foyer_format_buffer.specs.BlobEntryIndex.{BlobEntryIndex}
use Rattle.foyer_block_scan.specs.declared.block.scanner.EntryInfo.{EntryInfo}

-- the offset behind an index, by its last entry
pub behind_none : (s : Sizes) (p : ℕ) (es : List BlobEntryIndex) → length es ≡ 0 → p + s.block ≡ behind s p es
behind_none s p [] e = refl
behind_none s p (x ∷ es) e = absurd (omega arith)

pub behind_last : (s : Sizes) (p : ℕ) (es : List BlobEntryIndex) (i : ℕ) (d : BlobEntryIndex) → i + 1 ≡ length es
    → p + (slice_index_or es i d).offset + page_up (slice_index_or es i d).len ≡ behind s p es
behind_last s p [] i d e = absurd (omega arith)
behind_last s p (x ∷ []) zero d e = refl
behind_last s p (x ∷ []) (suc i) d e = absurd (omega arith)
behind_last s p (x ∷ y ∷ es) zero d e = absurd (omega arith)
behind_last s p (x ∷ y ∷ es) (suc i) d e = behind_last s p (y ∷ es) i d (omega arith)

-- a list that isn't empty
pub some_there : (n : ℕ) (r : Bool) → r ≡ (n == 0) → r ≡ false → 0 < n
some_there n r is not = let ne : n ≡ 0 → ⊥ = eqb-false n 0 (sym is ∙ not) in omega arith

-- each entry fits
pub fit_at : (s : Sizes) (p : ℕ) (es : List BlobEntryIndex) (i : ℕ) (d : BlobEntryIndex) → all_fit s p es ≡ true → i < length es
    → Fits s p (slice_index_or es i d)
fit_at s p [] i d all lt = absurd (omega arith)
fit_at s p (e ∷ es) zero d all lt = fits_so s p e (both all).0
fit_at s p (e ∷ es) (suc i) d all lt = fit_at s p es i d (both all).1 (omega arith)

infos_append : (block filling p : ℕ) (xs ys : List BlobEntryIndex)
    → infos_of block filling (placed p (xs ++ ys)) ≡ infos_of block filling (placed p xs) ++ infos_of block filling (placed p ys)
infos_append block filling p [] ys = refl
infos_append block filling p (x ∷ xs) ys =
    ap (λ (l : List EntryInfo). info_of block filling (record { hash = x.hash; sequence = x.sequence; offset = p + x.offset; len = x.len }) ∷ l)
    (infos_append block filling p xs ys)

-- one entry more
pub infos_more : (block filling p : ℕ) (xs : List BlobEntryIndex) (i : ℕ) (d : BlobEntryIndex) → i < length xs
    → infos_of block filling (placed p (take (i + 1) xs))
    ≡ infos_of block filling (placed p (take i xs)) ++ infos_of block filling (placed p (slice_index_or xs i d ∷ []))
infos_more block filling p xs i d lt =
    ap (λ l. infos_of block filling (placed p l)) (take_more xs i d lt) ∙ infos_append block filling p (take i xs) (slice_index_or xs i d ∷ [])

-- what the bytes of the offset give, by what they are
module _ (s : Scan) (p : ℕ) (b : List ℕ) (at : s.blob_offset ≡ Some p) where
  pub step_unsealed : ((es : List BlobEntryIndex) → IsSealed b es → ⊥) → scan_step s s.blob_offset b ≡ scan_end s
  step_unsealed none = ap (λ o. scan_step s o b) at ∙ ap (index_step s p) (index_unsealed s.sizes p b none)

  pub step_unfit : (es : List BlobEntryIndex) → IsSealed b es → all_fit s.sizes p es ≡ false → scan_step s s.blob_offset b ≡ scan_end s
  step_unfit es is not = ap (λ o. scan_step s o b) at ∙ ap (index_step s p) (index_unfit s.sizes p b es is not)

  pub step_index : (es : List BlobEntryIndex) → IsSealed b es → all_fit s.sizes p es ≡ true → scan_step s s.blob_offset b ≡ index_step s p (Some es)
  step_index es is all = ap (λ o. scan_step s o b) at ∙ ap (index_step s p) (index_found s.sizes p b es is all)

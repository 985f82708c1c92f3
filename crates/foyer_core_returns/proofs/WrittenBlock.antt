-- The first block once a record was written into it, over what an earlier life left.
use Rattle.std.proofs.Common.{◌≡◌, ℕ, ◌+◌, ◌%◌, ◌<◌, ◌≤◌, ◌⊎◌, nat_le, Bool, true, if◌then◌else◌, List, [], ◌∷◌, length, inl, inr, refl, sym, ap, subst, ◌∙◌, arith}
use Rattle.std.proofs.lemmas.Bool.Decides.{nat_tests}
use Rattle.foyer_format_blob.specs.Blob.{IsSealed}
use Rattle.foyer_format_blob.specs.declared.blob.BlobEntryIndex.{BlobEntryIndex}
use Rattle.foyer_format_layout.specs.BlockBytes.{laid, read, Index, Write, Data, zeros_write}
use Rattle.foyer_format_layout.specs.Page.{page_up}
use Rattle.foyer_format_layout.proofs.BlockBytesLaws.{read_whole, laid_beside, zeroed_there}
use Rattle.foyer_format_layout.proofs.PageLaws.{page_up-holds, page_up-least, even-page_up}
use Rattle.foyer_format_buffer.specs.Holding.{all_read}
use Rattle.foyer_format_buffer.specs.Listing.{IsIndex, behind, Chain, Lists}
use Rattle.foyer_format_buffer.proofs.ListingLemmas.{chain_step, sealed_one}
use Rattle.foyer_core_restart.specs.Restart.{IsScanned}
use Rattle.foyer_core_restart.specs.Restart.IsScanned.{here, later}
use Rattle.foyer_core_returns.proofs.LivedStop.{none_counted, zeros_end}
use Rattle.foyer_core_returns.proofs.OldBlocks.{four, four_sizes, swept}

-- its entry, and the three writes
abbrev pub stands : ℕ → BlobEntryIndex
stands n = record { hash = 7; sequence = 3; offset = 4096; len = n }

abbrev pub data_of : List ℕ → Write
data_of content = record { role = Data; offset = 0 + 4096; bytes = content }

abbrev pub zeros_of : List ℕ → Write
zeros_of content = zeros_write (0 + 4096 + length content)

abbrev pub index_of : List ℕ → Write
index_of index = record { role = Index; offset = 0; bytes = index }

abbrev pub left_by : (content index : List ℕ) → ℕ → ℕ
left_by content index = laid (index_of index) (laid (zeros_of content) (laid (data_of content) swept))

pub whole_page : (n : ℕ) → 0 < n → n ≤ 4096 → page_up n ≡ 4096
whole_page n some few =
    let whole : page_up n % 4096 ≡ 0 = even-page_up n in
    let above : n ≤ page_up n = page_up-holds n in
    let most : page_up n ≤ 4096 = page_up-least n 4096 few refl in
    omega arith

-- a record of a page at most, and its index
pub record IsFilledWith (n : ℕ) (content index : List ℕ) : Type 0 where
  pub page : page_up n ≡ 4096
  pub some : 0 < n
  pub filled : length content ≡ page_up n
  pub size : length index ≡ 4096
  pub sealed : IsSealed index (stands n ∷ [])

module _ (n : ℕ) (content index : List ℕ) (is : IsFilledWith n content index) where
  abbrev left : ℕ → ℕ
  left = left_by content index

  pub fits_zeros : nat_le (0 + 4096 + length content + 4096) 16384 ≡ true
  fits_zeros = let l : length content ≡ page_up n = is.filled in let m : page_up n ≡ 4096 = is.page in grind (arith, nat_tests)

  pub index_there : index ≡ read left 0 4096
  index_there = subst (λ k. index ≡ read left 0 k) is.size (sym (read_whole (index_of index) (laid (zeros_of content) (laid (data_of content) swept))))

  zeros_there : (i : ℕ) → 8192 ≤ i → i < 8192 + 4096 → left i ≡ 0
  zeros_there i low high =
      let at : 0 + 4096 + length content ≡ 8192 = omega (arith, is.filled, is.page) in
      laid_beside (index_of index) (laid (zeros_of content) (laid (data_of content) swept)) i (inr (omega (arith, is.size, low)))
      ∙ ap (λ (t : Bool). (if t then laid (zeros_of content) (laid (data_of content) swept) else laid (data_of content) swept) i) (sym fits_zeros)
      ∙ zeroed_there 16384 (0 + 4096 + length content) (laid (data_of content) swept) i fits_zeros (omega (arith, at, low)) (omega (arith, at, high))

  is_index : IsIndex four left all_read 0 (stands n ∷ [])
  is_index = record {
    room = omega arith;
    came = refl;
    sealed = subst (λ l. IsSealed l (stands n ∷ [])) index_there is.sealed;
    fits = (record { some = is.some; behind = omega arith; aligned = refl; within = omega (arith, is.page) }, tt);
  }

  ends_at : 0 + 4096 + page_up n ≡ 8192
  ends_at = omega (arith, is.page)

  pub listed : (ls : List BlobEntryIndex) → Lists four left all_read ls → ls ≡ stands n ∷ []
  listed ls lists =
      let step : (rest : List BlobEntryIndex) × Chain four left all_read (0 + 4096 + page_up n) rest lists.end × (ls ≡ stands n ∷ rest) =
      chain_step four left all_read 0 lists.end (stands n ∷ []) ls is_index lists.chain in
      step.2 ∙ ap (λ l. stands n ∷ l) (zeros_end four left all_read 8192 lists.end step.0 four_sizes zeros_there (subst (λ q. Chain four left all_read q step.0 lists.end) ends_at step.1))

  -- the places that are scanned: the block's start, where the data end, and after the block

  scanned_far : (B : ℕ → ℕ) (p q : ℕ) → 16384 ≤ p → IsScanned four B p q → 16384 ≤ q
  scanned_far B p q far (here) = far
  scanned_far B p q far (later at more) = let room : p + 4096 ≤ 16384 = at.room in absurd (omega arith)

  scanned_third : (q : ℕ) → IsScanned four left 8192 q → (q ≡ 8192) ⊎ (16384 ≤ q)
  scanned_third q (here) = inl refl
  scanned_third q (later {es = []} at more) = inr (scanned_far left (8192 + 16384) q (omega arith) more)
  scanned_third q (later {es = e ∷ es} at more) = absurd (let none : length (e ∷ es) ≡ 0 = none_counted four left 8192 (e ∷ es) four_sizes zeros_there at in omega arith)

  scanned_one : (q : ℕ) → IsScanned four left 0 q → (q ≡ 0) ⊎ (q ≡ 8192) ⊎ (16384 ≤ q)
  scanned_one q (here) = inl refl
  scanned_one q (later {es = es} at more) =
      let same : es ≡ stands n ∷ [] = sealed_one (read left 0 4096) es (stands n ∷ []) at.sealed is_index.sealed in
      inr (scanned_third q (subst (λ p. IsScanned four left p q) (ap (behind four 0) same ∙ ends_at) more))

  -- only at the first of them is an index with entries
  pub index_first : (q : ℕ) (e : BlobEntryIndex) (es : List BlobEntryIndex) → IsScanned four left 0 q → IsIndex four left all_read q (e ∷ es) → q ≡ 0
  index_first q e es scan at = elim (scanned_one q scan) [
    | inl first ↦ first
    | inr (inl third) ↦ absurd (let none : length (e ∷ es) ≡ 0 = none_counted four left q (e ∷ es) four_sizes (λ i low high. zeros_there i (omega (arith, third, low)) (omega (arith, third, high))) at in omega arith)
    | inr (inr far) ↦ absurd (let room : q + 4096 ≤ 16384 = at.room in omega arith)
  ]

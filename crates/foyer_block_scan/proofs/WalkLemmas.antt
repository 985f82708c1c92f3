-- The walk over a block is what it lists.
use Rattle.std.proofs.Common.{◌≡◌, ℕ, zero, suc, ◌+◌, ◌<◌, ◌≤◌, nat_le, Bool, true, false, if◌then◌else◌, List, [], ◌∷◌, ◌++◌, Option, Some, None, refl, sym, ap, subst, ◌∙◌, arith}
use Rattle.std.proofs.lemmas.Bool.Decides.{nat_tests}
use Rattle.foyer_format_layout.specs.Page.{page_up}
use Rattle.foyer_format_layout.proofs.PageLaws.{page_up-holds}
use Rattle.foyer_format_layout.specs.BlockBytes.{read}
use Rattle.foyer_format_layout.specs.Each.{Each}
use Rattle.foyer_format_buffer.specs.Fills.{AreSizes}
use Rattle.foyer_format_layout.specs.Position.{Sizes}
use Rattle.foyer_format_buffer.specs.Listing.{Fits, IsIndex, behind, placed, Chain, Lists}
use Rattle.foyer_format_buffer.specs.Listing.Chain.{ends, goes}
use Rattle.foyer_format_buffer.specs.BlobEntryIndex.{BlobEntryIndex}
use Rattle.foyer_block_scan.specs.IndexBytes.{index_at, IsIndexOf}
use Rattle.foyer_block_scan.specs.Scan.{next_blob}
use Rattle.foyer_block_scan.specs.Walk.{index_in, list_from, walk, list_of, Judges}
use Rattle.foyer_block_scan.proofs.IndexBytesLemmas.{judged}

-- the offset behind an index whose entries fit is farther than it, by the index at least
pub behind_far : (s : Sizes) (p : ℕ) (es : List BlobEntryIndex) → s.index ≤ s.block → Each (Fits s p) es → p + s.index ≤ behind s p es
behind_far s p [] le all = omega arith
behind_far s p (e ∷ []) le all = let past : s.index ≤ e.offset = (all.0).behind in omega arith
behind_far s p (e ∷ d ∷ es) le all = behind_far s p (d ∷ es) le all.1

module _ (s : Sizes) (B : ℕ → ℕ) (failed : ℕ → Bool) (sizes : AreSizes s) where
  -- what is stored at an offset with room is an index exactly if it is found
  pub index_there : (p : ℕ) (es : List BlobEntryIndex) → p + s.index ≤ s.block → index_in s B failed p ≡ Some es → IsIndex s B failed p es
  index_there p es room found = go (failed p) refl found
    where
      go : (t : Bool) → failed p ≡ t → (if t then None else index_at s p (read B p s.index)) ≡ Some es → IsIndex s B failed p es
      go true e is = absurd (cc)
      go false e is =
          let index : IsIndexOf s p (read B p s.index) es = (judged s p (read B p s.index)).some es is in
          record { room = room; came = e; sealed = index.sealed; fits = index.fits }

  no_index_there : (p : ℕ) → index_in s B failed p ≡ None → (es : List BlobEntryIndex) → IsIndex s B failed p es → ⊥
  no_index_there p found es is =
      (judged s p (read B p s.index)).none (sym (ap (λ t. if t then None else index_at s p (read B p s.index)) is.came) ∙ found) es
      (record { sealed = is.sealed; fits = is.fits })

  -- A walk of so many offsets that the block has no more bytes behind p.
  pub chain_walk : (n p : ℕ) → s.block < p + n → (q : ℕ) × Chain s B failed p (walk n s B failed (next_blob s p)) q
  chain_walk zero p far = at_offset (nat_le (p + s.index) s.block) refl
    where
      at_offset : (t : Bool) → nat_le (p + s.index) s.block ≡ t
          → (q : ℕ) × Chain s B failed p (walk zero s B failed (if t then Some p else None)) q
      at_offset true e = absurd (let room : p + s.index ≤ s.block = grind (arith, nat_tests) in omega arith)
      at_offset false e = (p, ends (λ es is. let room : p + s.index ≤ s.block = is.room in grind (arith, nat_tests)))
  chain_walk (suc n) p far = at_offset (λ q more. chain_walk n q more) (nat_le (p + s.index) s.block) refl
    where
      stands : ((q : ℕ) → s.block < q + n → (r : ℕ) × Chain s B failed q (walk n s B failed (next_blob s q)) r)
          → p + s.index ≤ s.block → (o : Option (List BlobEntryIndex)) → index_in s B failed p ≡ o
          → (q : ℕ) × Chain s B failed p (list_from s (walk n s B failed) p o) q
      stands later room None e = (p, ends (no_index_there p e))
      stands later room (Some es) e =
          let is : IsIndex s B failed p es = index_there p es room e in
          let some : 0 < s.index = sizes.some in
          let order : s.index < s.block = sizes.order in
          let far_on : p + s.index ≤ behind s p es = behind_far s p es (omega arith) is.fits in
          let rest = later (behind s p es) (omega arith) in
          (rest.0, goes is rest.1)

      at_offset : ((q : ℕ) → s.block < q + n → (r : ℕ) × Chain s B failed q (walk n s B failed (next_blob s q)) r)
          → (t : Bool) → nat_le (p + s.index) s.block ≡ t
          → (q : ℕ) × Chain s B failed p (walk (suc n) s B failed (if t then Some p else None)) q
      at_offset later true e = stands later (grind (arith, nat_tests)) (index_in s B failed p) refl
      at_offset later false e = (p, ends (λ es is. let room : p + s.index ≤ s.block = is.room in grind (arith, nat_tests)))

pub walk_lists : (s : Sizes) (B : ℕ → ℕ) (failed : ℕ → Bool) → AreSizes s → Lists s B failed (list_of s B failed)
walk_lists s B failed sizes = let found = chain_walk s B failed sizes (suc s.block) 0 (omega arith) in record { end = found.0; chain = found.1 }

-- What the steps of a scan give is what a walk lists.
use Rattle.std.proofs.Common.{◌≡◌, ℕ, zero, suc, ◌+◌, ◌<◌, ◌≤◌, nat_le, Bool, true, false, if◌then◌else◌, List, [], ◌∷◌, ◌++◌, map, Option, Some, None, refl, sym, ap, subst, ◌∙◌, arith}
use Rattle.std.proofs.lemmas.Bool.Decides.{nat_tests}
use Rattle.foyer_format_layout.specs.BlockBytes.{read}
use Rattle.foyer_format_buffer.specs.Fills.{AreSizes}
use Rattle.foyer_format_layout.specs.Position.{Sizes}
use Rattle.foyer_format_buffer.specs.Listing.{IsIndex, behind, placed}
use Rattle.foyer_format_buffer.specs.BlobEntryIndex.{BlobEntryIndex}
use Rattle.foyer_block_scan.specs.IndexBytes.{index_at}
use Rattle.foyer_block_scan.specs.Scan.{next_blob, info_of, infos_of, scan_step, scan_end, index_step}
use Rattle.foyer_block_scan.specs.ScanState.{Scan}
use Rattle.foyer_block_scan.specs.ScanRun.{rest_of, infos_in, GivesInTurn, Runs}
use Rattle.foyer_block_scan.specs.ScanRun.Runs.{ended, came, fault}
use Rattle.foyer_block_scan.specs.Walk.{index_in, list_from, walk, list_of}
use Rattle.foyer_block_scan.specs.declared.block.scanner.EntryInfo.{EntryInfo}
use Rattle.foyer_block_scan.proofs.WalkLemmas.{behind_far, index_there, walk_lists}

infos_both : (block filling : ℕ) (xs ys : List BlobEntryIndex) → infos_of block filling (xs ++ ys) ≡ infos_of block filling xs ++ infos_of block filling ys
infos_both block filling [] ys = refl
infos_both block filling (x ∷ xs) ys = ap (λ l. info_of block filling x ∷ l) (infos_both block filling xs ys)

module _ (s : Sizes) (B : ℕ → ℕ) (failed : ℕ → Bool) (sizes : AreSizes s) where
  -- one more offset changes nothing if the block has no more bytes
  walk_more : (n p : ℕ) → s.block < p + n → walk n s B failed (next_blob s p) ≡ walk (suc n) s B failed (next_blob s p)
  walk_more zero p far = go (nat_le (p + s.index) s.block) refl
    where
      go : (t : Bool) → nat_le (p + s.index) s.block ≡ t → walk zero s B failed (if t then Some p else None) ≡ walk (suc zero) s B failed (if t then Some p else None)
      go true e = absurd (let room : p + s.index ≤ s.block = grind (arith, nat_tests) in omega arith)
      go false e = refl
  walk_more (suc n) p far = go (λ q more. walk_more n q more) (nat_le (p + s.index) s.block) refl
    where
      here : ((q : ℕ) → s.block < q + n → walk n s B failed (next_blob s q) ≡ walk (suc n) s B failed (next_blob s q)) → p + s.index ≤ s.block
          → (o : Option (List BlobEntryIndex)) → index_in s B failed p ≡ o → list_from s (walk n s B failed) p o ≡ list_from s (walk (suc n) s B failed) p o
      here later room None e = refl
      here later room (Some es) e =
          let is : IsIndex s B failed p es = index_there s B failed sizes p es room e in
          let some : 0 < s.index = sizes.some in
          let order : s.index < s.block = sizes.order in
          let far_on : p + s.index ≤ behind s p es = behind_far s p es (omega arith) is.fits in
          ap (λ l. placed p es ++ l) (later (behind s p es) (omega arith))

      go : ((q : ℕ) → s.block < q + n → walk n s B failed (next_blob s q) ≡ walk (suc n) s B failed (next_blob s q)) → (t : Bool) → nat_le (p + s.index) s.block ≡ t
          → walk (suc n) s B failed (if t then Some p else None) ≡ walk (suc (suc n)) s B failed (if t then Some p else None)
      go later true e = here later (grind (arith, nat_tests)) (index_in s B failed p) refl
      go later false e = refl

module _ (B : ℕ → ℕ) (failed : ℕ → Bool) (s : Scan) (sizes : AreSizes s.sizes) where
  -- what a walk that begins at this offset lists
  rest_at : Option ℕ → List EntryInfo
  rest_at o = infos_of s.block s.filling (walk (suc (s.sizes).block) s.sizes B failed o)

  step_came : (p : ℕ) → p + (s.sizes).index ≤ (s.sizes).block → (o : Option (List BlobEntryIndex)) → index_in s.sizes B failed p ≡ o
      → infos_of s.block s.filling (list_from s.sizes (walk (s.sizes).block s.sizes B failed) p o)
      ≡ infos_in (index_step s p o).listed ++ rest_of B failed (index_step s p o).scan
  step_came p room None e = refl
  step_came p room (Some es) e =
      let is : IsIndex s.sizes B failed p es = index_there s.sizes B failed sizes p es room e in
      let some : 0 < (s.sizes).index = sizes.some in
      let order : (s.sizes).index < (s.sizes).block = sizes.order in
      let far_on : p + (s.sizes).index ≤ behind s.sizes p es = behind_far s.sizes p es (omega arith) is.fits in
      infos_both s.block s.filling (placed p es) (walk (s.sizes).block s.sizes B failed (next_blob s.sizes (behind s.sizes p es)))
      ∙ ap (λ l. infos_of s.block s.filling (placed p es) ++ infos_of s.block s.filling l) (walk_more s.sizes B failed sizes (s.sizes).block (behind s.sizes p es) (omega arith))

  pub gives_in_turn : GivesInTurn B failed s
  unfolding rest_at
  gives_in_turn = record {
    start = λ at. ap rest_at at;
    came = λ p at room ok.
        let found : index_in s.sizes B failed p ≡ index_at s.sizes p (read B p (s.sizes).index) = ap (λ (t : Bool). if t then None else index_at s.sizes p (read B p (s.sizes).index)) ok in
        ap rest_at at ∙ step_came p room (index_in s.sizes B failed p) refl
        ∙ ap (λ o. infos_in (index_step s p o).listed ++ rest_of B failed (index_step s p o).scan) found
        ∙ ap (λ o. infos_in (scan_step s o (read B p (s.sizes).index)).listed ++ rest_of B failed (scan_step s o (read B p (s.sizes).index)).scan) (sym at);
    fault = λ p at bad.
        let none : index_in s.sizes B failed p ≡ None = ap (λ (t : Bool). if t then None else index_at s.sizes p (read B p (s.sizes).index)) bad in
        ap rest_at at ∙ ap (λ o. infos_of s.block s.filling (list_from s.sizes (walk (s.sizes).block s.sizes B failed) p o)) none;
    end = λ at. ap rest_at at;
  }

-- a step leaves the sizes
step_sizes : (s : Scan) (o : Option ℕ) (b : List ℕ) → (scan_step s o b).scan.sizes ≡ s.sizes
step_sizes s None b = refl
step_sizes s (Some p) b = go (index_at s.sizes p b)
  where
    go : (o : Option (List BlobEntryIndex)) → (index_step s p o).scan.sizes ≡ s.sizes
    go None = refl
    go (Some es) = refl

pub run_gives : (B : ℕ → ℕ) (failed : ℕ → Bool) (s : Scan) (infos : List EntryInfo) → AreSizes s.sizes → Runs B failed s infos → infos ≡ rest_of B failed s
run_gives B failed s _ sizes (ended at) = sym ((gives_in_turn B failed s sizes).end at)
run_gives B failed s _ sizes (came {p = p} {rest = rest} at room ok later) =
    let step = scan_step s s.blob_offset (read B p (s.sizes).index) in
    ap (λ l. infos_in step.listed ++ l) (run_gives B failed step.scan rest (subst AreSizes (sym (step_sizes s s.blob_offset (read B p (s.sizes).index))) sizes) later)
    ∙ sym ((gives_in_turn B failed s sizes).came p at room ok)
run_gives B failed s infos sizes (fault {p = p} at bad later) =
    run_gives B failed (scan_end s).scan infos sizes later ∙ sym ((gives_in_turn B failed s sizes).fault p at bad)

-- The chain of a block as far as a scan has come.
use Rattle.std.proofs.Common.{◌≡◌, ℕ, suc, ◌+◌, ◌-◌, ◌<◌, ◌≤◌, ◌==◌, ◌^◌, nat_le, Bool, true, false, if◌then◌else◌, Option, Some, None, List, [], ◌∷◌, ◌++◌, length, slice_index, refl, sym, ap, subst, ◌∙◌, arith, append_assoc, append-nil, Result, Ok, Err, OnOk, is_ok}
use Rattle.std.proofs.lemmas.Bool.{eq-eqb, eqb-true}
use Rattle.std.proofs.lemmas.Bool.Decides.{nat_tests}
use Rattle.std.proofs.lemmas.List.{map-append}
use Rattle.foyer_format_layout.proofs.EachLaws.{each_join}
use Rattle.foyer_format_layout.specs.Page.{page_up}
use Rattle.foyer_block_scan.specs.BlobEntryIndex.{BlobEntryIndex}
use Rattle.foyer_block_index.specs.declared.indexer.HashedEntryAddress.{HashedEntryAddress}
use Rattle.foyer_format_layout.specs.BlockBytes.{read}
use Rattle.foyer_format_layout.specs.Each.{Each}
use Rattle.foyer_block_scan.specs.Fills.{AreSizes}
use Rattle.foyer_block_scan.specs.Holding.{all_read}
use Rattle.foyer_block_scan.specs.Listing.{Fits, IsIndex, behind, placed, Chain, Lists, rising, kept}
use Rattle.foyer_block_scan.specs.Listing.Chain.{ends, goes}
use Rattle.foyer_format_layout.specs.Position.{Sizes}
use Rattle.foyer_block_scan.specs.IndexBytes.{index_at, IsIndexOf}
use Rattle.foyer_block_scan.specs.Scan.{next_blob, info_of, infos_of, ScanStep, scan_step, index_step}
use Rattle.foyer_block_scan.specs.ScanRun.{infos_in}
use Rattle.foyer_block_scan.specs.ScanState.{Scan}
use Rattle.foyer_block_scan.specs.declared.block.scanner.EntryInfo.{EntryInfo}
use Rattle.foyer_block_scan.proofs.IndexBytesLemmas.{judged}
use Rattle.foyer_block_scan.proofs.WalkLemmas.{behind_far}
use Rattle.foyer_block_recover.specs.Chained.{hashed_entries, IsKeptOf}
use Rattle.foyer_block_recover.specs.Kept.{rising_infos, last_kept, hashed_infos}
use Rattle.foyer_block_recover.specs.Placed.{AllHashed, IsPlaced, IsSomeKept}
use Rattle.foyer_block_recover.proofs.KeptLemmas.{rising_both, last_both, hashed_both}

pub ok_holds : {T E : Type 0} (r : Result T E) (P : Type 0) → OnOk r P → is_ok r ≡ true → P
ok_holds (Ok x) P on is = on
ok_holds (Err e) P on is = absurd (cc)

-- bytes that stand there are what is read there
pub read_is : (g : ℕ → ℕ) (o : ℕ) (bs : List ℕ) → ((i : ℕ) → i < length bs → slice_index bs i ≡ g (o + i)) → bs ≡ read g o (length bs)
read_is g o [] stand = refl
read_is g o (b ∷ bs) stand =
    let here : b ≡ g o = let at : o + 0 ≡ o = omega arith in stand 0 (omega arith) ∙ ap g at in
    let there : bs ≡ read g (o + 1) (length bs) = read_is g (o + 1) bs (λ i lt. let at : o + suc i ≡ o + 1 + i = omega arith in stand (suc i) (omega arith) ∙ ap g at) in
    ap (λ x. x ∷ bs) here ∙ ap (λ l. g o ∷ l) there

-- what is kept of entries of a block
rising_entries : (b : ℕ) (n : ℕ) (es : List BlobEntryIndex) → rising_infos (Some n) (infos_of b 0 es) ≡ infos_of b 0 (rising n es)
rising_entries b n [] = refl
rising_entries b n (e ∷ es) = go (rising_entries b e.sequence es) (nat_le n e.sequence)
  where
    go : rising_infos (Some e.sequence) (infos_of b 0 es) ≡ infos_of b 0 (rising e.sequence es) → (t : Bool)
        → (if t then info_of b 0 e ∷ rising_infos (Some e.sequence) (infos_of b 0 es) else []) ≡ infos_of b 0 (if t then e ∷ rising e.sequence es else [])
    go later true = ap (λ l. info_of b 0 e ∷ l) later
    go later false = refl

-- the entries of an index at an offset, if one is there
abbrev pub listed_at : ℕ → Option (List BlobEntryIndex) → List BlobEntryIndex
listed_at p None = []
listed_at p (Some es) = placed p es

-- a step leaves what it is of
pub step_stays : (s : Scan) (o : Option ℕ) (b : List ℕ) → ((scan_step s o b).scan.sizes ≡ s.sizes) × ((scan_step s o b).scan.block ≡ s.block) × ((scan_step s o b).scan.filling ≡ s.filling)
step_stays s None b = (refl, refl, refl)
step_stays s (Some p) b = go (index_at s.sizes p b)
  where
    go : (o : Option (List BlobEntryIndex)) → ((index_step s p o).scan.sizes ≡ s.sizes) × ((index_step s p o).scan.block ≡ s.block) × ((index_step s p o).scan.filling ≡ s.filling)
    go None = (refl, refl, refl)
    go (Some es) = (refl, refl, refl)

-- how many offsets are left
abbrev pub offsets_left : ℕ → Option ℕ → ℕ
offsets_left size None = 0
offsets_left size (Some p) = suc size - p

-- From its start a chain lists these, and comes to an offset: whichever reads fail behind it, what is listed from there on
-- comes behind these. Or it has ended, and no read failed.
abbrev pub CameTo : Sizes → (ℕ → ℕ) → List BlobEntryIndex → Option ℕ → Type 0
CameTo s B given None = Lists s B all_read given
CameTo s B given (Some p) = (f : ℕ → Bool) → ((q : ℕ) → q < p → f q ≡ false) → (ls : List BlobEntryIndex) (q : ℕ) → Chain s B f p ls q → Chain s B f 0 (given ++ ls) q

-- so, and this is kept of it behind what a batch had
pub record IsAlong (s : Sizes) (B : ℕ → ℕ) (block : ℕ) (old now : List HashedEntryAddress) (least : Option ℕ) (offset : Option ℕ) : Type 0 where
  pub given : List BlobEntryIndex
  pub came : CameTo s B given offset
  pub kept : now ≡ old ++ hashed_infos (rising_infos (Some 0) (infos_of block 0 given))
  pub last : least ≡ last_kept (Some 0) (infos_of block 0 given)

-- an entry, by its offset in the block, lies behind the first index and within the block
pub record IsWithin (s : Sizes) (e : BlobEntryIndex) : Type 0 where
  pub behind : s.index ≤ e.offset
  pub within : e.offset + page_up e.len ≤ s.block

-- whatever was read, this is kept behind what a batch had
pub record IsSomeAlong (s : Sizes) (block : ℕ) (old now : List HashedEntryAddress) (least : Option ℕ) : Type 0 where
  pub given : List BlobEntryIndex
  pub within : Each (IsWithin s) given
  pub hashed : AllHashed (rising_infos (Some 0) (infos_of block 0 given))
  pub kept : now ≡ old ++ hashed_infos (rising_infos (Some 0) (infos_of block 0 given))
  pub last : least ≡ last_kept (Some 0) (infos_of block 0 given)

-- what is kept of entries that lie in their block
each_kept : (P : BlobEntryIndex → Type 0) (n : ℕ) (es : List BlobEntryIndex) → Each P es → Each P (rising n es)
each_kept P n [] are = tt
each_kept P n (e ∷ es) are = go (nat_le n e.sequence) (each_kept P e.sequence es are.1)
  where
    go : (t : Bool) → Each P (rising e.sequence es) → Each P (if t then e ∷ rising e.sequence es else [])
    go true rest = (are.0, rest)
    go false rest = tt

-- entries of an index lie in the block
fits_within : (s : Sizes) (p : ℕ) (es : List BlobEntryIndex) → Each (Fits s p) es → Each (IsWithin s) (placed p es)
fits_within s p [] fit = tt
fits_within s p (e ∷ es) fit = (
  record {
    behind = let on : s.index ≤ e.offset = (fit.0).behind in omega arith;
    within = (fit.0).within;
  },
  fits_within s p es fit.1,
)

within_placed : (s : Sizes) (block : ℕ) (es : List BlobEntryIndex) → Each (IsWithin s) es → AllHashed (infos_of block 0 es) → Each (IsPlaced s) es
within_placed s block [] within hashed = tt
within_placed s block (e ∷ es) within hashed =
    (record { hash = hashed.0; behind = (within.0).behind; within = (within.0).within }, within_placed s block es within.1 hashed.1)

module _ (s : Sizes) (B : ℕ → ℕ) (sizes : AreSizes s) where
  came_start : CameTo s B [] (next_blob s 0)
  came_start = go (nat_le (0 + s.index) s.block) refl
    where
      go : (t : Bool) → nat_le (0 + s.index) s.block ≡ t → CameTo s B [] (if t then Some 0 else None)
      go true e = λ f clear ls q chain. chain
      go false e = absurd (let order : s.index < s.block = sizes.order in let far : s.block < 0 + s.index = grind (arith, nat_tests) in omega arith)

  pub along_start : (block : ℕ) (old : List HashedEntryAddress) (offset : Option ℕ) → offset ≡ next_blob s 0 → IsAlong s B block old old (Some 0) offset
  along_start block old offset at = record {
    given = [];
    came = subst (CameTo s B []) (sym at) came_start;
    kept = sym (append-nil old);
    last = refl;
  }

  pub some_start : (block : ℕ) (old : List HashedEntryAddress) → IsSomeAlong s block old old (Some 0)
  some_start block old = record { given = []; within = tt; hashed = tt; kept = sym (append-nil old); last = refl }

  -- behind an index
  came_behind : (given es : List BlobEntryIndex) (p : ℕ) → p + s.index ≤ s.block → CameTo s B given (Some p) → IsIndexOf s p (read B p s.index) es
      → CameTo s B (given ++ placed p es) (next_blob s (behind s p es))
  came_behind given es p room came is = go (nat_le (behind s p es + s.index) s.block) refl
    where
      far : p < behind s p es
      far =
          let some : 0 < s.index = sizes.some in
          let order : s.index < s.block = sizes.order in
          let on : p + s.index ≤ behind s p es = behind_far s p es (omega arith) is.fits in
          omega arith

      go : (t : Bool) → nat_le (behind s p es + s.index) s.block ≡ t → CameTo s B (given ++ placed p es) (if t then Some (behind s p es) else None)
      go true e = λ f clear ls q chain.
          subst (λ l. Chain s B f 0 l q) (sym (append_assoc given (placed p es) ls))
          (came f (λ k lt. clear k (omega (arith, far, lt))) (placed p es ++ ls) q (goes (record { room = room; came = clear p far; sealed = is.sealed; fits = is.fits }) chain))
      go false e =
          let none : Chain s B all_read (behind s p es) [] (behind s p es) =
          ends (λ ds there. let on : behind s p es + s.index ≤ s.block = there.room in grind (arith, nat_tests)) in
          let chain : Chain s B all_read 0 (given ++ (placed p es ++ [])) (behind s p es) =
          came all_read (λ k lt. refl) (placed p es ++ []) (behind s p es) (goes (record { room = room; came = refl; sealed = is.sealed; fits = is.fits }) none) in
          record { end = behind s p es; chain = subst (λ l. Chain s B all_read 0 (given ++ l) (behind s p es)) (append-nil (placed p es)) chain }

  came_none : (given : List BlobEntryIndex) (p : ℕ) → CameTo s B given (Some p) → index_at s p (read B p s.index) ≡ None → CameTo s B (given ++ []) None
  came_none given p came none = record {
    end = p;
    chain = came all_read (λ k lt. refl) [] p (ends (λ es is. (judged s p (read B p s.index)).none none es (record { sealed = is.sealed; fits = is.fits })));
  }

  -- the batch behind an index
  kept_on : (block : ℕ) (old now : List HashedEntryAddress) (last : Option ℕ) (given more : List BlobEntryIndex)
      → now ≡ old ++ hashed_infos (rising_infos (Some 0) (infos_of block 0 given)) → last ≡ last_kept (Some 0) (infos_of block 0 given)
      → now ++ hashed_infos (rising_infos last (infos_of block 0 more)) ≡ old ++ hashed_infos (rising_infos (Some 0) (infos_of block 0 (given ++ more)))
  kept_on block old now last given more is at =
      let g : List EntryInfo = infos_of block 0 given in
      let m : List EntryInfo = infos_of block 0 more in
      let both : infos_of block 0 (given ++ more) ≡ g ++ m = map-append (info_of block 0) given more in
      ap (λ l. l ++ hashed_infos (rising_infos last m)) is
      ∙ ap (λ o. old ++ hashed_infos (rising_infos (Some 0) g) ++ hashed_infos (rising_infos o m)) at
      ∙ append_assoc old (hashed_infos (rising_infos (Some 0) g)) (hashed_infos (rising_infos (last_kept (Some 0) g) m))
      ∙ ap (λ l. old ++ l) (sym (hashed_both (rising_infos (Some 0) g) (rising_infos (last_kept (Some 0) g) m)))
      ∙ ap (λ l. old ++ hashed_infos l) (sym (rising_both (Some 0) g m))
      ∙ ap (λ l. old ++ hashed_infos (rising_infos (Some 0) l)) (sym both)

  last_on : (block : ℕ) (last : Option ℕ) (given more : List BlobEntryIndex) → last ≡ last_kept (Some 0) (infos_of block 0 given)
      → last_kept last (infos_of block 0 more) ≡ last_kept (Some 0) (infos_of block 0 (given ++ more))
  last_on block last given more at =
      ap (λ o. last_kept o (infos_of block 0 more)) at
      ∙ sym (last_both (Some 0) (infos_of block 0 given) (infos_of block 0 more))
      ∙ ap (last_kept (Some 0)) (sym (map-append (info_of block 0) given more))

  module _ (scan : Scan) (p : ℕ) (bytes : List ℕ) (same : scan.sizes ≡ s) (at : scan.blob_offset ≡ Some p) (room : p + s.index ≤ s.block) where
    -- what an index, or none, gives
    step_is : scan_step scan scan.blob_offset bytes ≡ index_step scan p (index_at s p bytes)
    step_is = ap (λ o. scan_step scan o bytes) at ∙ ap (λ z. index_step scan p (index_at z p bytes)) same

    pub falls : (new : Scan) → new ≡ (scan_step scan scan.blob_offset bytes).scan → offsets_left s.block new.blob_offset < offsets_left s.block scan.blob_offset
    falls new is = subst (λ o. offsets_left s.block new.blob_offset < offsets_left s.block o) (sym at)
        (go (index_at s p bytes) refl (is ∙ ap (λ (r : ScanStep). r.scan) step_is))
      where
        on : (es : List BlobEntryIndex) → p < behind s p es → (t : Bool) → nat_le (behind s p es + s.index) s.block ≡ t
            → offsets_left s.block (if t then Some (behind s p es) else None) < suc s.block - p
        on es far true e = let fits : behind s p es + s.index ≤ s.block = grind (arith, nat_tests) in omega arith
        on es far false e = omega arith

        go : (o : Option (List BlobEntryIndex)) → index_at s p bytes ≡ o → new ≡ (index_step scan p o).scan → offsets_left s.block new.blob_offset < suc s.block - p
        go None e now = subst (λ (n : Scan). offsets_left s.block n.blob_offset < suc s.block - p) (sym now) (omega arith)
        go (Some es) e now =
            let is : IsIndexOf s p bytes es = (judged s p bytes).some es e in
            let some : 0 < s.index = sizes.some in
            let order : s.index < s.block = sizes.order in
            let far : p + s.index ≤ behind s p es = behind_far s p es (omega arith) is.fits in
            subst (λ (n : Scan). offsets_left s.block n.blob_offset < suc s.block - p) (sym now)
            (subst (λ z. offsets_left s.block (next_blob z (behind z p es)) < suc s.block - p) (sym same) (on es (omega arith) (nat_le (behind s p es + s.index) s.block) refl))

    pub along_on : (block : ℕ) → scan.block ≡ block → scan.filling ≡ 0 → bytes ≡ read B p s.index
        → (new : Scan) (listed : Option (List EntryInfo)) (old now now' : List HashedEntryAddress) (last last' : Option ℕ)
        → new ≡ (scan_step scan scan.blob_offset bytes).scan → listed ≡ (scan_step scan scan.blob_offset bytes).listed
        → now' ≡ now ++ hashed_infos (rising_infos last (infos_in listed)) → last' ≡ last_kept last (infos_in listed)
        → IsAlong s B block old now last scan.blob_offset → IsAlong s B block old now' last' new.blob_offset
    along_on block here first read_so new listed old now now' last last' scan_is listed_is now_is last_is along =
        go (index_at s p bytes) refl (scan_is ∙ ap (λ (r : ScanStep). r.scan) step_is) (listed_is ∙ ap (λ (r : ScanStep). r.listed) step_is)
      where
        came : CameTo s B along.given (Some p)
        came = subst (CameTo s B along.given) at along.came

        with_more : (more : List BlobEntryIndex) (offset : Option ℕ) → infos_in listed ≡ infos_of block 0 more → CameTo s B (along.given ++ more) offset → IsAlong s B block old now' last' offset
        with_more more offset is come = record {
          given = along.given ++ more;
          came = come;
          kept = now_is ∙ ap (λ l. now ++ hashed_infos (rising_infos last l)) is ∙ kept_on block old now last along.given more along.kept along.last;
          last = last_is ∙ ap (last_kept last) is ∙ last_on block last along.given more along.last;
        }

        go : (o : Option (List BlobEntryIndex)) → index_at s p bytes ≡ o → new ≡ (index_step scan p o).scan → listed ≡ (index_step scan p o).listed
            → IsAlong s B block old now' last' new.blob_offset
        go None e new_is list_is =
            subst (λ (n : Scan). IsAlong s B block old now' last' n.blob_offset) (sym new_is)
            (with_more [] None (ap infos_in list_is) (came_none along.given p came (sym (ap (index_at s p) read_so) ∙ e)))
        go (Some es) e new_is list_is =
            let is : IsIndexOf s p (read B p s.index) es = subst (λ b. IsIndexOf s p b es) read_so ((judged s p bytes).some es e) in
            let infos : infos_in listed ≡ infos_of block 0 (placed p es) =
            ap infos_in list_is ∙ ap (λ b. infos_of b scan.filling (placed p es)) here ∙ ap (λ f. infos_of block f (placed p es)) first in
            subst (λ (n : Scan). IsAlong s B block old now' last' n.blob_offset) (sym new_is)
            (with_more (placed p es) (next_blob scan.sizes (behind scan.sizes p es)) infos
            (subst (λ z. CameTo s B (along.given ++ placed p es) (next_blob z (behind z p es))) (sym same) (came_behind along.given es p room came is)))

    -- whatever the bytes are
    pub some_on : (block : ℕ) → scan.block ≡ block → scan.filling ≡ 0
        → (listed : Option (List EntryInfo)) (old now now' : List HashedEntryAddress) (last last' : Option ℕ)
        → listed ≡ (scan_step scan scan.blob_offset bytes).listed → AllHashed (rising_infos last (infos_in listed))
        → now' ≡ now ++ hashed_infos (rising_infos last (infos_in listed)) → last' ≡ last_kept last (infos_in listed)
        → IsSomeAlong s block old now last → IsSomeAlong s block old now' last'
    some_on block here first listed old now now' last last' listed_is hashed now_is last_is along =
        go (index_at s p bytes) refl (listed_is ∙ ap (λ (r : ScanStep). r.listed) step_is)
      where
        with_more : (more : List BlobEntryIndex) → Each (IsWithin s) more → infos_in listed ≡ infos_of block 0 more → IsSomeAlong s block old now' last'
        with_more more are is = record {
          given = along.given ++ more;
          within = each_join (IsWithin s) along.given more along.within are;
          hashed =
              let g : List EntryInfo = infos_of block 0 along.given in
              let m : List EntryInfo = infos_of block 0 more in
              subst (λ l. AllHashed (rising_infos (Some 0) l)) (sym (map-append (info_of block 0) along.given more))
              (subst AllHashed (sym (rising_both (Some 0) g m))
              (each_join (λ (i : EntryInfo). i.hash < 2 ^ 64) (rising_infos (Some 0) g) (rising_infos (last_kept (Some 0) g) m) along.hashed
              (subst (λ o. AllHashed (rising_infos o m)) along.last (subst (λ l. AllHashed (rising_infos last l)) is hashed))));
          kept = now_is ∙ ap (λ l. now ++ hashed_infos (rising_infos last l)) is ∙ kept_on block old now last along.given more along.kept along.last;
          last = last_is ∙ ap (last_kept last) is ∙ last_on block last along.given more along.last;
        }

        go : (o : Option (List BlobEntryIndex)) → index_at s p bytes ≡ o → listed ≡ (index_step scan p o).listed → IsSomeAlong s block old now' last'
        go None e list_is = with_more [] tt (ap infos_in list_is)
        go (Some es) e list_is =
            let is : IsIndexOf s p bytes es = (judged s p bytes).some es e in
            let infos : infos_in listed ≡ infos_of block 0 (placed p es) =
            ap infos_in list_is ∙ ap (λ b. infos_of b scan.filling (placed p es)) here ∙ ap (λ f. infos_of block f (placed p es)) first in
            with_more (placed p es) (fits_within s p es is.fits) infos

  -- what is kept of entries, behind what a batch had
  kept_entries : (block : ℕ) (old now : List HashedEntryAddress) (given : List BlobEntryIndex) → now ≡ old ++ hashed_infos (rising_infos (Some 0) (infos_of block 0 given))
      → now ≡ old ++ hashed_entries block (kept given)
  kept_entries block old now given is = is ∙ ap (λ l. old ++ hashed_infos l) (rising_entries block 0 given)

  -- at the end of a chain of which each read came
  pub along_ends : (surely : ℕ → Type 0) (block : ℕ) (old now : List HashedEntryAddress) (last offset : Option ℕ) → offset ≡ None
      → IsAlong s B block old now last offset → IsKeptOf s B surely block old now false
  along_ends surely block old now last offset at along = record {
    failed = all_read;
    faults = λ p bad. absurd (cc);
    listed = along.given;
    lists = subst (CameTo s B along.given) at along.came;
    kept = kept_entries block old now along.given along.kept;
    cut = λ bad. absurd (cc);
    whole = λ is cut. let bad : false ≡ true = cut.4 in cc;
  }

  -- and if a read failed
  pub along_fails : (surely : ℕ → Type 0) (block p : ℕ) (old now : List HashedEntryAddress) (last offset : Option ℕ) → offset ≡ Some p
      → p + s.index ≤ s.block → (surely p → ⊥) → IsAlong s B block old now last offset → IsKeptOf s B surely block old now true
  along_fails surely block p old now last offset at room unsure along = record {
    failed = λ q. q == p;
    faults = λ q is sure. unsure (subst surely (eqb-true q p is) sure);
    listed = along.given;
    lists = record { end = p; chain = chain };
    kept = kept_entries block old now along.given along.kept;
    cut = λ _. (along.given, p, chain, room, here);
    whole = λ bad. absurd (cc);
  }
    where
      here : (p == p) ≡ true
      here = eq-eqb p p refl

      before : (q : ℕ) → q < p → (q == p) ≡ false
      before q lt = go (q == p) refl
        where
          go : (t : Bool) → (q == p) ≡ t → t ≡ false
          go true e = absurd (let same : q ≡ p = eqb-true q p e in omega arith)
          go false e = refl

      none : (es : List BlobEntryIndex) → IsIndex s B (λ q. q == p) p es → ⊥
      none es is = let bad : true ≡ false = sym here ∙ is.came in cc

      chain : Chain s B (λ q. q == p) 0 along.given p
      chain = subst (λ l. Chain s B (λ q. q == p) 0 l p) (append-nil along.given)
          (subst (CameTo s B along.given) at along.came (λ q. q == p) before [] p (ends none))

  -- wherever it ends
  pub some_ends : (block : ℕ) (old now : List HashedEntryAddress) (last : Option ℕ) → IsSomeAlong s block old now last → IsSomeKept s block old now
  some_ends block old now last along = record {
    keeps = kept along.given;
    placed = within_placed s block (kept along.given) (each_kept (IsWithin s) 0 along.given along.within)
        (subst AllHashed (rising_entries block 0 along.given) along.hashed);
    kept = kept_entries block old now along.given along.kept;
  }

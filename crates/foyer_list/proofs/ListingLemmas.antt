-- The chain of a block as far as a list has come, and why it ends.
use Rattle.std.proofs.Common.{◌≡◌, ℕ, zero, suc, ◌+◌, ◌-◌, ◌<◌, ◌≤◌, ◌==◌, nat_le, Bool, true, false, if◌then◌else◌, Option, Some, None, List, [], ◌∷◌, ◌++◌, length, map, refl, sym, ap, subst, ◌∙◌, arith, append_assoc, append-nil}
use Rattle.std.proofs.lemmas.Bool.{eq-eqb, eqb-true}
use Rattle.std.proofs.lemmas.Bool.Decides.{nat_tests}
use Rattle.std.proofs.lemmas.List.{map-append}
use Rattle.std.specs.Option.{option_map}
use Rattle.std.specs.declared.vec.Vec.{Vec}
use Rattle.foyer_format_blob.specs.declared.blob.BlobEntryIndex.{BlobEntryIndex}
use Rattle.foyer_format_layout.specs.BlockBytes.{read}
use Rattle.foyer_format_buffer.specs.Fills.{AreSizes}
use Rattle.foyer_format_buffer.specs.Holding.{all_read}
use Rattle.foyer_format_buffer.specs.Listing.{IsIndex, behind, placed, Chain, rising, kept}
use Rattle.foyer_format_buffer.specs.Listing.Chain.{ends, goes}
use Rattle.foyer_format_layout.specs.Position.{Sizes}
use Rattle.foyer_block_scan.specs.IndexBytes.{index_at, IsIndexOf}
use Rattle.foyer_block_scan.specs.Scan.{next_blob, info_of, infos_of, ScanStep, scan_step, index_step}
use Rattle.foyer_block_scan.specs.ScanState.{Scan}
use Rattle.foyer_block_scan.specs.declared.block.scanner.EntryInfo.{EntryInfo}
use Rattle.foyer_block_scan.proofs.IndexBytesLemmas.{judged}
use Rattle.foyer_block_scan.proofs.WalkLemmas.{behind_far}
use Rattle.foyer_block_recover.specs.Kept.{rising_infos}
use Rattle.foyer_list.specs.BlockListing.{EndsBy, IsListed}
use Rattle.foyer_list.specs.declared.listing.ChainEnd.TheVariants as end

-- as many infos are kept as entries
rising_as : (b n : ℕ) (es : List BlobEntryIndex) → length (rising_infos (Some n) (infos_of b 0 es)) ≡ length (rising n es)
rising_as b n [] = refl
rising_as b n (e ∷ es) = go (rising_as b e.sequence es) (nat_le n e.sequence)
  where
    go : length (rising_infos (Some e.sequence) (infos_of b 0 es)) ≡ length (rising e.sequence es) → (t : Bool)
        → length (if t then info_of b 0 e ∷ rising_infos (Some e.sequence) (infos_of b 0 es) else []) ≡ length (if t then e ∷ rising e.sequence es else [])
    go later true = ap suc later
    go later false = refl

pub kept_as : (b : ℕ) (es : List BlobEntryIndex) (infos : List EntryInfo) → infos ≡ infos_of b 0 es → length (rising_infos (Some 0) infos) ≡ length (kept es)
kept_as b es infos is = ap (λ l. length (rising_infos (Some 0) l)) is ∙ rising_as b 0 es

-- what a step gave, by what its call answered
pub none_listed : {A : Type 0} (r : Option (Vec EntryInfo A)) → r ≡ None → (listed : Option (List EntryInfo)) → option_map (λ v. v.items) r ≡ listed → None ≡ listed
none_listed r is listed e = sym (ap (option_map (λ v. v.items)) is) ∙ e

pub some_listed : {A : Type 0} (r : Option (Vec EntryInfo A)) (infos : Vec EntryInfo A) → r ≡ Some infos → (listed : Option (List EntryInfo)) → option_map (λ v. v.items) r ≡ listed
    → Some infos.items ≡ listed
some_listed r infos is listed e = sym (ap (option_map (λ v. v.items)) is) ∙ e

-- From its start a chain lists these, and comes to an offset. Whichever reads fail from that offset on, what is listed from
-- there on comes after these. Or the chain has ended where no index has room, and no read failed.
abbrev pub Reaches : Sizes → (ℕ → ℕ) → List BlobEntryIndex → Option ℕ → Type 0
Reaches s B given None = (q : ℕ) × Chain s B all_read 0 given q × (s.block < q + s.index)
Reaches s B given (Some p) = (f : ℕ → Bool) → ((q : ℕ) → q < p → f q ≡ false) → (ls : List BlobEntryIndex) (q : ℕ) → Chain s B f p ls q → Chain s B f 0 (given ++ ls) q

-- so, and these are its entries
pub record IsListedTo (s : Sizes) (B : ℕ → ℕ) (block : ℕ) (entries : List EntryInfo) (offset : Option ℕ) : Type 0 where
  pub given : List BlobEntryIndex
  pub reaches : Reaches s B given offset
  pub are : entries ≡ infos_of block 0 given

module _ (s : Sizes) (B : ℕ → ℕ) (sizes : AreSizes s) (block : ℕ) where
  start : Reaches s B [] (next_blob s 0)
  start = go (nat_le (0 + s.index) s.block) refl
    where
      go : (t : Bool) → nat_le (0 + s.index) s.block ≡ t → Reaches s B [] (if t then Some 0 else None)
      go true e = λ f clear ls q chain. chain
      go false e = absurd (let order : s.index < s.block = sizes.order in let far : s.block < 0 + s.index = grind (arith, nat_tests) in omega arith)

  pub listed_start : (offset : Option ℕ) → offset ≡ next_blob s 0 → IsListedTo s B block [] offset
  listed_start offset at = record { given = []; reaches = subst (Reaches s B []) (sym at) start; are = refl }

  -- behind an index
  reaches_behind : (given es : List BlobEntryIndex) (p : ℕ) → p + s.index ≤ s.block → Reaches s B given (Some p) → IsIndexOf s p (read B p s.index) es
      → Reaches s B (given ++ placed p es) (next_blob s (behind s p es))
  reaches_behind given es p room came is = go (nat_le (behind s p es + s.index) s.block) refl
    where
      far : p < behind s p es
      far =
          let some : 0 < s.index = sizes.some in
          let order : s.index < s.block = sizes.order in
          let on : p + s.index ≤ behind s p es = behind_far s p es (omega arith) is.fits in
          omega arith

      go : (t : Bool) → nat_le (behind s p es + s.index) s.block ≡ t → Reaches s B (given ++ placed p es) (if t then Some (behind s p es) else None)
      go true e = λ f clear ls q chain.
          subst (λ l. Chain s B f 0 l q) (sym (append_assoc given (placed p es) ls))
          (came f (λ k lt. clear k (omega (arith, far, lt))) (placed p es ++ ls) q (goes (record { room = room; came = clear p far; sealed = is.sealed; fits = is.fits }) chain))
      go false e =
          let past : s.block < behind s p es + s.index = grind (arith, nat_tests) in
          let none : Chain s B all_read (behind s p es) [] (behind s p es) =
          ends (λ ds there. let on : behind s p es + s.index ≤ s.block = there.room in omega arith) in
          let chain : Chain s B all_read 0 (given ++ (placed p es ++ [])) (behind s p es) =
          came all_read (λ k lt. refl) (placed p es ++ []) (behind s p es) (goes (record { room = room; came = refl; sealed = is.sealed; fits = is.fits }) none) in
          (behind s p es, subst (λ l. Chain s B all_read 0 (given ++ l) (behind s p es)) (append-nil (placed p es)) chain, past)

  module _ (scan : Scan) (p : ℕ) (bytes : List ℕ) (same : scan.sizes ≡ s) (at : scan.blob_offset ≡ Some p) (room : p + s.index ≤ s.block) (read_so : bytes ≡ read B p s.index) where
    step_is : scan_step scan scan.blob_offset bytes ≡ index_step scan p (index_at s p bytes)
    step_is = ap (λ o. scan_step scan o bytes) at ∙ ap (λ z. index_step scan p (index_at z p bytes)) same

    -- an index gave these infos
    pub listed_on : scan.block ≡ block → scan.filling ≡ 0 → (new : Scan) (infos : List EntryInfo) → new ≡ (scan_step scan scan.blob_offset bytes).scan
        → Some infos ≡ (scan_step scan scan.blob_offset bytes).listed → (entries : List EntryInfo) → IsListedTo s B block entries scan.blob_offset
        → IsListedTo s B block (entries ++ infos) new.blob_offset
    listed_on here first new infos new_is is entries along = go (index_at s p bytes) refl (new_is ∙ ap (λ (r : ScanStep). r.scan) step_is) (is ∙ ap (λ (r : ScanStep). r.listed) step_is)
      where
        reached : Reaches s B along.given (Some p)
        reached = subst (Reaches s B along.given) at along.reaches

        go : (o : Option (List BlobEntryIndex)) → index_at s p bytes ≡ o → new ≡ (index_step scan p o).scan → Some infos ≡ (index_step scan p o).listed
            → IsListedTo s B block (entries ++ infos) new.blob_offset
        go None e now gave = absurd (cc)
        go (Some es) e now gave =
            let index : IsIndexOf s p (read B p s.index) es = subst (λ b. IsIndexOf s p b es) read_so ((judged s p bytes).some es e) in
            let these : infos ≡ infos_of scan.block scan.filling (placed p es) = cc in
            let infos_are : infos ≡ infos_of block 0 (placed p es) = these ∙ ap (λ b. infos_of b scan.filling (placed p es)) here ∙ ap (λ f. infos_of block f (placed p es)) first in
            subst (λ (n : Scan). IsListedTo s B block (entries ++ infos) n.blob_offset) (sym now)
            (subst (λ z. IsListedTo s B block (entries ++ infos) (next_blob z (behind z p es))) (sym same)
            (record {
              given = along.given ++ placed p es;
              reaches = reaches_behind along.given es p room reached index;
              are = ap (λ l. l ++ infos) along.are ∙ ap (λ l. infos_of block 0 along.given ++ l) infos_are ∙ sym (map-append (info_of block 0) along.given (placed p es));
            }))

    -- no index stood there
    pub listed_none : (surely : ℕ → Type 0) → None ≡ (scan_step scan scan.blob_offset bytes).listed → (entries : List EntryInfo) → IsListedTo s B block entries scan.blob_offset
        → IsListed s B surely block entries (end.NoIndex p)
    listed_none surely is entries along = go (index_at s p bytes) refl (is ∙ ap (λ (r : ScanStep). r.listed) step_is)
      where
        go : (o : Option (List BlobEntryIndex)) → index_at s p bytes ≡ o → None ≡ (index_step scan p o).listed → IsListed s B surely block entries (end.NoIndex p)
        go (Some es) e gave = absurd (cc)
        go None e gave =
            let none : (es : List BlobEntryIndex) → IsIndexOf s p (read B p s.index) es → ⊥ =
            (λ es index. (judged s p (read B p s.index)).none (sym (ap (index_at s p) read_so) ∙ e) es index) in
            record {
              failed = all_read;
              faults = λ q bad. absurd (cc);
              listed = along.given;
              last = p;
              chain = subst (λ l. Chain s B all_read 0 l p) (append-nil along.given)
                  (subst (Reaches s B along.given) at along.reaches all_read (λ k lt. refl) [] p (ends (λ es there. none es (record { sealed = there.sealed; fits = there.fits }))));
              are = along.are;
              end = (refl, room, refl, none);
            }

  -- no other index has room
  pub listed_all : (surely : ℕ → Type 0) (entries : List EntryInfo) (offset : Option ℕ) → offset ≡ None → IsListedTo s B block entries offset
      → IsListed s B surely block entries end.BlockEnd
  listed_all surely entries offset at along =
      let reached : Reaches s B along.given None = subst (Reaches s B along.given) at along.reaches in
      record {
        failed = all_read;
        faults = λ q bad. absurd (cc);
        listed = along.given;
        last = reached.0;
        chain = reached.1;
        are = along.are;
        end = reached.2;
      }

  -- a read failed
  pub listed_failed : (surely : ℕ → Type 0) (entries : List EntryInfo) (offset : Option ℕ) (p : ℕ) → offset ≡ Some p → p + s.index ≤ s.block → (surely p → ⊥)
      → IsListedTo s B block entries offset → IsListed s B surely block entries (end.FailedRead p)
  listed_failed surely entries offset p at room unsure along = record {
    failed = λ q. q == p;
    faults = λ q is sure. unsure (subst surely (eqb-true q p is) sure);
    listed = along.given;
    last = p;
    chain = chain;
    are = along.are;
    end = (refl, room, here);
  }
    where
      here : (p == p) ≡ true
      here = eq-eqb p p refl

      before : (q : ℕ) → q < p → (q == p) ≡ false
      before q lt = go (q == p) refl
        where
          go : (t : Bool) → (q == p) ≡ t → t ≡ false
          go true e = absurd (let same : q ≡ p = eqb-true q p e in omega arith)
          go false e = refl

      none : (es : List BlobEntryIndex) → IsIndex s B (λ q. q == p) p es → ⊥
      none es is = let bad : true ≡ false = sym here ∙ is.came in cc

      chain : Chain s B (λ q. q == p) 0 along.given p
      chain = subst (λ l. Chain s B (λ q. q == p) 0 l p) (append-nil along.given)
          (subst (Reaches s B along.given) at along.reaches (λ q. q == p) before [] p (ends none))

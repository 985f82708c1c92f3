-- The blocks that were read, one more at a time.
use Rattle.std.proofs.Common.{◌≡◌, ◌≢◌, ℕ, suc, ◌+◌, ◌<◌, ◌==◌, max, Bool, true, false, if◌then◌else◌, Result, Err, IfErr, Option, Some, None, List, [], ◌∷◌, ◌++◌, length, refl, sym, ap, subst, ◌∙◌, arith, append-nil}
use Rattle.std.proofs.lemmas.List.{length-append, nil_from_length}
use Rattle.std.proofs.lemmas.Bool.{eqb-true, eqb-false, eq-eqb}
use Rattle.std.specs.FinMap as finite
use Rattle.std.specs.FinMap.{get-empty}
use Rattle.std.specs.Ordering.{nat_cmp}
use Rattle.foyer_device_page.specs.declared.error.Error.{Error}
use Rattle.foyer_device_page.specs.declared.error.Error.TheVariants.{Memory, Recover}
use Rattle.foyer_block_scan.specs.BlobEntryIndex.{BlobEntryIndex}
use Rattle.foyer_block_index.specs.declared.indexer.HashedEntryAddress.{HashedEntryAddress}
use Rattle.foyer_block_index.specs.Index.{IndexMap}
use Rattle.foyer_block_index.specs.Insertion.{inserted, inserted_all}
use Rattle.foyer_block_index.specs.declared.indexer.Index.TheVariants.{Address}
use Rattle.foyer_block_scan.specs.Listing.{Lists, kept}
use Rattle.foyer_format_layout.specs.Each.{Each}
use Rattle.foyer_format_layout.specs.Position.{Sizes}
use Rattle.foyer_block_recover.specs.BlocksKept.{held_by, HoldsKept, AreBlocksRead, IsBlockCut, gathered}
use Rattle.foyer_block_recover.specs.Chained.{hashed_entries, IsKeptOf}
use Rattle.foyer_block_recover.specs.Kept.{greatest_in}
use Rattle.foyer_block_recover.specs.Placed.{IsPlaced, IsSomeKept, AreSomeKept}
use Rattle.foyer_block_recover.specs.Sources.{Listing, IsSource, listing_at, sure_in, sure_of}
use Rattle.foyer_block_recover.specs.Opening.{winner, stand_in, all_stand, greatest, is_empty, clean_from, IsCut}
use Rattle.foyer_block_recover.specs.declared.block.blocks.BlocksRead.{BlocksRead}
use Rattle.foyer_block_recover.proofs.FoundLemmas.{index_block, greatest_block, all_stand_push, clean_push, all_stand_same, clean_same}

more_stand : (n : ℕ) (keeps : ℕ → List BlobEntryIndex) → all_stand 0 (n + 1) keeps ≡ all_stand 0 n keeps ++ stand_in n (keeps n)
more_stand n keeps =
    let more : n + 1 ≡ suc n = omega arith in
    let at : 0 + n ≡ n = omega arith in
    ap (λ k. all_stand 0 k keeps) more ∙ all_stand_push 0 n keeps ∙ ap (λ k. all_stand 0 n keeps ++ stand_in k (keeps k)) at

more_clean : (n : ℕ) (keeps : ℕ → List BlobEntryIndex) → clean_from 0 (n + 1) keeps ≡ clean_from 0 n keeps ++ (if is_empty (keeps n) then n ∷ [] else [])
more_clean n keeps =
    let more : n + 1 ≡ suc n = omega arith in
    let at : 0 + n ≡ n = omega arith in
    ap (λ k. clean_from 0 k keeps) more ∙ clean_push 0 n keeps ∙ ap (λ k. clean_from 0 n keeps ++ (if is_empty (keeps k) then k ∷ [] else [])) at

-- entries that are none in an index
pub none_kept : (b : ℕ) (es : List BlobEntryIndex) → hashed_entries b es ≡ [] → es ≡ []
none_kept b [] is = refl
none_kept b (e ∷ es) is = absurd (cc)

pub some_kept : (b : ℕ) (es : List BlobEntryIndex) → (hashed_entries b es ≡ [] → ⊥) → is_empty es ≡ false
some_kept b [] some = absurd (some refl)
some_kept b (e ∷ es) some = refl

-- what is sure in a block stays sure if more places of a disk are sure
sure_more : (o : Option Listing) (failed : ℕ → Bool) (fewer more : ℕ → Type 0) → ((p : ℕ) → fewer p → more p) → (p : ℕ) → sure_in o failed fewer p → sure_in o failed more p
sure_more None failed fewer more within p is = within p is
sure_more (Some l) failed fewer more within p is = is

pub sure_before : (s : Sizes) (slots : List (Option Listing)) (failed : ℕ → ℕ → Bool) (fewer more : ℕ → ℕ → ℕ → Type 0) → ((b o n : ℕ) → fewer b o n → more b o n)
    → (b o n : ℕ) → sure_of s slots failed fewer b o n → sure_of s slots failed more b o n
sure_before s slots failed fewer more within b o n is = sure_more (listing_at s b slots) (failed b) (λ p. fewer b p n) (λ p. more b p n) (λ p. within b p n) o is

-- what a block's source gave, of a disk of which no less was sure before
pub kept_here : (size n m : ℕ) (slots : List (Option Listing)) (listing : Option Listing) (seen has bytes : ℕ → ℕ → ℕ) (failed : ℕ → ℕ → Bool) (now before : ℕ → ℕ → ℕ → Type 0)
    (b : ℕ) (old new : List HashedEntryAddress) (is_cut : Bool) → m ≡ n → seen ≡ has → listing ≡ listing_at (record { block = size; index = n }) b slots
    → ((b o k : ℕ) → before b o k → now b o k)
    → (IsSource (record { block = size; index = m }) b listing (bytes b) (seen b) (failed b)
    → IsKeptOf (record { block = size; index = m }) (bytes b) (sure_in listing (failed b) (λ p. now b p m)) b old new is_cut)
    → IsSource (record { block = size; index = n }) b (listing_at (record { block = size; index = n }) b slots) (bytes b) (has b) (failed b)
    → IsKeptOf (record { block = size; index = n }) (bytes b) (λ p. sure_of (record { block = size; index = n }) slots failed before b p n) b old new is_cut
kept_here size n m slots listing seen has bytes failed now before b old new is_cut len same listing_is within keeps source = record {
  failed = here.failed;
  faults = λ p bad sure. here.faults p bad (sure_more (listing_at s b slots) (failed b) (λ q. before b q n) (λ q. now b q n) (λ q. within b q n) p sure);
  listed = here.listed;
  lists = here.lists;
  kept = here.kept;
  cut = here.cut;
  whole = here.whole;
}
  where
    s : Sizes
    s = record { block = size; index = n }

    own : IsSource s b listing (bytes b) (has b) (failed b)
    own = subst (λ (o : Option Listing). IsSource s b o (bytes b) (has b) (failed b)) (sym listing_is) source

    shown : IsSource s b listing (bytes b) (seen b) (failed b)
    shown = subst (λ (f : ℕ → ℕ → ℕ). IsSource s b listing (bytes b) (f b) (failed b)) (sym same) own

    sized : IsSource (record { block = size; index = m }) b listing (bytes b) (seen b) (failed b)
    sized = subst (λ k. IsSource (record { block = size; index = k }) b listing (bytes b) (seen b) (failed b)) (sym len) shown

    as_sized : IsKeptOf s (bytes b) (sure_in listing (failed b) (λ p. now b p n)) b old new is_cut
    as_sized = subst (λ k. IsKeptOf (record { block = size; index = k }) (bytes b) (sure_in listing (failed b) (λ p. now b p k)) b old new is_cut) len (keeps sized)

    here : IsKeptOf s (bytes b) (sure_in (listing_at s b slots) (failed b) (λ p. now b p n)) b old new is_cut
    here = subst (λ (o : Option Listing). IsKeptOf s (bytes b) (sure_in o (failed b) (λ p. now b p n)) b old new is_cut) listing_is as_sized

-- the same alone, without what a batch had
pub alone : (s : Sizes) (B : ℕ → ℕ) (surely : ℕ → Type 0) (b : ℕ) (old new : List HashedEntryAddress) (is_cut : Bool)
    → (is : IsKeptOf s B surely b old new is_cut) → IsKeptOf s B surely b [] (hashed_entries b (kept is.listed)) is_cut
alone s B surely b old new is_cut is = record { failed = is.failed; faults = is.faults; listed = is.listed; lists = is.lists; kept = refl; cut = is.cut; whole = is.whole }

pub some_alone : (s : Sizes) (b : ℕ) (old new : List HashedEntryAddress) → (is : IsSomeKept s b old new) → IsSomeKept s b [] (hashed_entries b is.keeps)
some_alone s b old new is = record { keeps = is.keeps; placed = is.placed; kept = refl }

-- want of memory isn't a chain that is cut
pub not_cut : {T : Type 0} (r : Result T Error) (e : Error) (P : Type 0) → r ≡ Err e → e ≡ Memory → IfErr r (λ e. e ≡ Recover → P)
not_cut r e P is memory = subst (λ o. IfErr o (λ e. e ≡ Recover → P)) (sym is) (λ recover. absurd (let both : Memory ≡ Recover = sym memory ∙ recover in cc))

-- an insertion of two batches is one of both
pub inserted_both : (m : IndexMap) (xs ys : List HashedEntryAddress) → inserted_all m (xs ++ ys) ≡ inserted_all (inserted_all m xs) ys
inserted_both m [] ys = refl
inserted_both m (x ∷ xs) ys = inserted_both (inserted m x.hash (Address x.address)) xs ys

pub greatest_both : (n : ℕ) (xs ys : List HashedEntryAddress) → greatest_in n (xs ++ ys) ≡ greatest_in (greatest_in n xs) ys
greatest_both n [] ys = refl
greatest_both n (x ∷ xs) ys = greatest_both (max n (x.address).sequence) xs ys

-- a batch that didn't grow got nothing
pub not_grown : (old es batch : List HashedEntryAddress) → batch ≡ old ++ es → length batch ≡ length old → es ≡ []
not_grown old es batch is same =
    let len : length (old ++ es) ≡ length old + length es = length-append old es in
    let all : length batch ≡ length (old ++ es) = ap (λ (l : List HashedEntryAddress). length l) is in
    nil_from_length es (omega (arith, len, all, same))

pub grown_by_some : (old es batch : List HashedEntryAddress) → batch ≡ old ++ es → (length batch ≡ length old → ⊥) → es ≡ [] → ⊥
grown_by_some old es batch is more none = more (ap (λ (l : List HashedEntryAddress). length l) (is ∙ ap (λ l. old ++ l) none ∙ append-nil old))

-- a block whose chain is cut
pub cut_here : (s : Sizes) (bytes : ℕ → ℕ → ℕ) (surely : ℕ → ℕ → ℕ → Type 0) (strict : Bool) (n b : ℕ) (old kept_of : List HashedEntryAddress) (is_cut : Bool)
    → b < n → strict ≡ true → is_cut ≡ true → IsKeptOf s (bytes b) (λ p. surely b p s.index) b old kept_of is_cut → IsBlockCut s n bytes surely strict
cut_here s bytes surely strict n b old kept_of is_cut lt is cut this = record { failed = this.failed; block = b; there = lt; strict = is; faults = this.faults; cut = this.cut cut }

module _ {A : Type 0} where
  pub none_holds : (read : BlocksRead A) (keeps : ℕ → List BlobEntryIndex) → read.index.slots ≡ finite.empty → read.greatest ≡ 0 → read.clean.items ≡ [] → HoldsKept read 0 keeps
  none_holds read keeps empty least clean = record {
    index = λ h. ap (λ (m : IndexMap). finite.get m h) empty ∙ get-empty nat_cmp h;
    greatest = least;
    clean = clean;
  }

  -- whatever room the list of clean blocks has
  pub holds_still : (old new : BlocksRead A) (n : ℕ) (keeps : ℕ → List BlobEntryIndex) → new.index.slots ≡ old.index.slots → new.greatest ≡ old.greatest → new.clean.items ≡ old.clean.items
      → HoldsKept old n keeps → HoldsKept new n keeps
  holds_still old new n keeps index_is greatest_is clean_is holds = record {
    index = λ h. ap (λ (m : IndexMap). finite.get m h) index_is ∙ holds.index h;
    greatest = greatest_is ∙ holds.greatest;
    clean = clean_is ∙ holds.clean;
  }

  -- a block that keeps nothing is clean
  pub taken_none : (old new : BlocksRead A) (n : ℕ) (keeps : ℕ → List BlobEntryIndex) → keeps n ≡ [] → new.index.slots ≡ old.index.slots → new.greatest ≡ old.greatest
      → new.clean.items ≡ old.clean.items ++ n ∷ [] → HoldsKept old n keeps → HoldsKept new (n + 1) keeps
  taken_none old new n keeps none index_is greatest_is clean_is holds = record {
    index = λ h. ap (λ (m : IndexMap). finite.get m h) index_is ∙ holds.index h ∙ ap (λ l. held_by (winner h l)) (sym stand);
    greatest = greatest_is ∙ holds.greatest ∙ ap greatest (sym stand);
    clean = clean_is ∙ ap (λ l. l ++ n ∷ []) holds.clean ∙ sym (more_clean n keeps ∙ ap (λ es. clean_from 0 n keeps ++ (if is_empty es then n ∷ [] else [])) none);
  }
    where
      stand : all_stand 0 (n + 1) keeps ≡ all_stand 0 n keeps
      stand = more_stand n keeps ∙ ap (λ es. all_stand 0 n keeps ++ stand_in n es) none ∙ append-nil (all_stand 0 n keeps)

  -- what another keeps goes into the index
  pub taken_some : (old new : BlocksRead A) (n : ℕ) (keeps : ℕ → List BlobEntryIndex) → is_empty (keeps n) ≡ false
      → new.index.slots ≡ inserted_all old.index.slots (hashed_entries n (keeps n)) → new.greatest ≡ greatest_in old.greatest (hashed_entries n (keeps n))
      → new.clean.items ≡ old.clean.items → HoldsKept old n keeps → HoldsKept new (n + 1) keeps
  taken_some old new n keeps some index_is greatest_is clean_is holds = record {
    index = λ h. ap (λ (m : IndexMap). finite.get m h) index_is ∙ index_block old.index.slots (all_stand 0 n keeps) n (keeps n) holds.index h
        ∙ ap (λ l. held_by (winner h l)) (sym (more_stand n keeps));
    greatest = greatest_is ∙ ap (λ k. greatest_in k (hashed_entries n (keeps n))) holds.greatest ∙ greatest_block (all_stand 0 n keeps) n (keeps n) ∙ ap greatest (sym (more_stand n keeps));
    clean = clean_is ∙ holds.clean
        ∙ sym (more_clean n keeps ∙ ap (λ (t : Bool). clean_from 0 n keeps ++ (if t then n ∷ [] else [])) some ∙ append-nil (clean_from 0 n keeps));
  }

  -- what another keeps goes behind a batch, or with it into the index
  pub gathered_some : (old new : BlocksRead A) (n : ℕ) (keeps : ℕ → List BlobEntryIndex) (before batch after : List HashedEntryAddress) → is_empty (keeps n) ≡ false
      → batch ≡ before ++ hashed_entries n (keeps n) → (gathered new after).index.slots ≡ inserted_all old.index.slots batch
      → (gathered new after).greatest ≡ greatest_in old.greatest batch → new.clean.items ≡ old.clean.items
      → HoldsKept (gathered old before) n keeps → HoldsKept (gathered new after) (n + 1) keeps
  gathered_some old new n keeps before batch after some is index_is greatest_is clean_is holds =
      taken_some (gathered old before) (gathered new after) n keeps some
      (index_is ∙ ap (inserted_all old.index.slots) is ∙ inserted_both old.index.slots before (hashed_entries n (keeps n)))
      (greatest_is ∙ ap (greatest_in old.greatest) is ∙ greatest_both old.greatest before (hashed_entries n (keeps n))) clean_is holds

  pub gathered_none : (old new : BlocksRead A) (n : ℕ) (keeps : ℕ → List BlobEntryIndex) (before batch : List HashedEntryAddress) → keeps n ≡ []
      → batch ≡ before ++ hashed_entries n (keeps n) → new.index.slots ≡ old.index.slots → new.greatest ≡ old.greatest
      → new.clean.items ≡ old.clean.items ++ n ∷ [] → HoldsKept (gathered old before) n keeps → HoldsKept (gathered new batch) (n + 1) keeps
  gathered_none old new n keeps before batch none is index_is greatest_is clean_is holds =
      taken_none (gathered old before) (gathered new batch) n keeps none
      (ap (λ (m : IndexMap). inserted_all m batch) index_is ∙ ap (inserted_all old.index.slots) same)
      (ap (λ k. greatest_in k batch) greatest_is ∙ ap (greatest_in old.greatest) same) clean_is holds
    where
      same : batch ≡ before
      same = is ∙ ap (λ (es : List BlobEntryIndex). before ++ hashed_entries n es) none ∙ append-nil before

  -- what other blocks keep doesn't matter
  pub holds_same : (read : BlocksRead A) (n : ℕ) (keeps others : ℕ → List BlobEntryIndex) → ((k : ℕ) → k < n → keeps k ≡ others k) → HoldsKept read n keeps → HoldsKept read n others
  holds_same read n keeps others same holds = record {
    index = λ h. holds.index h ∙ ap (λ l. held_by (winner h l)) stand;
    greatest = holds.greatest ∙ ap greatest stand;
    clean = holds.clean ∙ clean_same 0 n keeps others (λ k le lt. same k (omega (arith, lt)));
  }
    where
      stand : all_stand 0 n keeps ≡ all_stand 0 n others
      stand = all_stand_same 0 n keeps others (λ k le lt. same k (omega (arith, lt)))

  module _ (s : Sizes) where
    pub none_kept_of : (read : BlocksRead A) (n : ℕ) → HoldsKept read n (λ b. []) → AreSomeKept s n read
    none_kept_of read n holds = record { keeps = λ b. []; placed = λ b lt. tt; holds = holds }

    -- one block more, whatever was read of it
    pub more_kept : (n : ℕ) (old new : BlocksRead A) (batch : List HashedEntryAddress) → AreSomeKept s n old → IsSomeKept s n [] batch
        → ((keeps : ℕ → List BlobEntryIndex) → HoldsKept old n keeps → batch ≡ hashed_entries n (keeps n) → HoldsKept new (n + 1) keeps)
        → AreSomeKept s (n + 1) new
    more_kept n old new batch before this takes = record {
      keeps = keep;
      placed = λ b lt. is_placed b lt (b == n) refl;
      holds = takes keep (holds_same old n before.keeps keep (λ k lt. other k lt (k == n) refl) before.holds) (this.kept ∙ ap (hashed_entries n) (sym own));
    }
      where
        keep : ℕ → List BlobEntryIndex
        keep b = if b == n then this.keeps else before.keeps b

        own : keep n ≡ this.keeps
        own = ap (λ (t : Bool). if t then this.keeps else before.keeps n) (eq-eqb n n refl)

        other : (k : ℕ) → k < n → (t : Bool) → (k == n) ≡ t → before.keeps k ≡ keep k
        other k lt true e = absurd (let same : k ≡ n = eqb-true k n e in omega arith)
        other k lt false e = ap (λ (t : Bool). if t then this.keeps else before.keeps k) (sym e)

        is_placed : (b : ℕ) → b < n + 1 → (t : Bool) → (b == n) ≡ t → Each (IsPlaced s) (keep b)
        is_placed b lt true e = subst (Each (IsPlaced s)) (ap (λ (t : Bool). if t then this.keeps else before.keeps b) (sym e)) this.placed
        is_placed b lt false e =
            let ne : b ≢ n = eqb-false b n e in
            subst (Each (IsPlaced s)) (ap (λ (t : Bool). if t then this.keeps else before.keeps b) (sym e)) (before.placed b (omega arith))

  -- the same if fewer places are sure
  pub read_with_fewer : (s : Sizes) (n : ℕ) (bytes : ℕ → ℕ → ℕ) (more fewer : ℕ → ℕ → ℕ → Type 0) (strict : Bool) (read : BlocksRead A)
      → ((b o k : ℕ) → fewer b o k → more b o k) → AreBlocksRead s n bytes more strict read → AreBlocksRead s n bytes fewer strict read
  read_with_fewer s n bytes more fewer strict read within are = record {
    failed = are.failed;
    faults = λ b p lt bad sure. are.faults b p lt bad (within b p s.index sure);
    keeps = are.keeps;
    kept = are.kept;
    whole = are.whole;
    holds = are.holds;
  }

  -- once the last batch went into the index
  pub all_read : (s : Sizes) (n : ℕ) (bytes : ℕ → ℕ → ℕ) (surely : ℕ → ℕ → ℕ → Type 0) (strict : Bool) (old new : BlocksRead A) (batch : List HashedEntryAddress)
      → new.index.slots ≡ inserted_all old.index.slots batch → new.greatest ≡ greatest_in old.greatest batch → new.clean.items ≡ old.clean.items
      → AreBlocksRead s n bytes surely strict (gathered old batch) → AreBlocksRead s n bytes surely strict new
  all_read s n bytes surely strict old new batch index_is greatest_is clean_is are = record {
    failed = are.failed;
    faults = are.faults;
    keeps = are.keeps;
    kept = are.kept;
    whole = are.whole;
    holds = holds_still (gathered old batch) new n are.keeps index_is greatest_is clean_is are.holds;
  }

  pub all_some : (s : Sizes) (n : ℕ) (old new : BlocksRead A) (batch : List HashedEntryAddress)
      → new.index.slots ≡ inserted_all old.index.slots batch → new.greatest ≡ greatest_in old.greatest batch → new.clean.items ≡ old.clean.items
      → AreSomeKept s n (gathered old batch) → AreSomeKept s n new
  all_some s n old new batch index_is greatest_is clean_is are = record {
    keeps = are.keeps;
    placed = are.placed;
    holds = holds_still (gathered old batch) new n are.keeps index_is greatest_is clean_is are.holds;
  }

  module _ (s : Sizes) (bytes : ℕ → ℕ → ℕ) (surely : ℕ → ℕ → ℕ → Type 0) (strict : Bool) where
    pub none_read : (read : BlocksRead A) → ((keeps : ℕ → List BlobEntryIndex) → HoldsKept read 0 keeps) → AreBlocksRead s 0 bytes surely strict read
    none_read read holds = record {
      failed = λ b p. false;
      faults = λ b p lt. absurd (omega (arith, lt));
      keeps = λ b. [];
      kept = λ b lt. absurd (omega (arith, lt));
      whole = λ is b lt. absurd (omega (arith, lt));
      holds = holds (λ b. []);
    }

    -- one block more, whose chain isn't cut, or may be
    pub more_read : (n : ℕ) (old new : BlocksRead A) (kept_of : List HashedEntryAddress) (is_cut : Bool) → AreBlocksRead s n bytes surely strict old
        → IsKeptOf s (bytes n) (λ p. surely n p s.index) n [] kept_of is_cut → (strict ≡ true → is_cut ≡ false)
        → ((keeps : ℕ → List BlobEntryIndex) → HoldsKept old n keeps → kept_of ≡ hashed_entries n (keeps n) → HoldsKept new (n + 1) keeps)
        → AreBlocksRead s (n + 1) bytes surely strict new
    more_read n old new kept_of is_cut before this uncut takes = record {
      failed = fails;
      faults = λ b p lt. faulty b p lt (b == n) refl;
      keeps = keep;
      kept = λ b lt. is_kept b lt (b == n) refl;
      whole = λ is b lt. is_whole is b lt (b == n) refl;
      holds = takes keep (holds_same old n before.keeps keep (λ k lt. other k lt (k == n) refl) before.holds) (this.kept ∙ ap (hashed_entries n) (sym own));
    }
      where
        fails : ℕ → ℕ → Bool
        fails b p = if b == n then this.failed p else before.failed b p

        keep : ℕ → List BlobEntryIndex
        keep b = if b == n then kept this.listed else before.keeps b

        own : keep n ≡ kept this.listed
        own = ap (λ (t : Bool). if t then kept this.listed else before.keeps n) (eq-eqb n n refl)

        other : (k : ℕ) → k < n → (t : Bool) → (k == n) ≡ t → before.keeps k ≡ keep k
        other k lt true e = absurd (let same : k ≡ n = eqb-true k n e in omega arith)
        other k lt false e = ap (λ (t : Bool). if t then kept this.listed else before.keeps k) (sym e)

        -- what fails in a block
        fails_here : (b : ℕ) → (b == n) ≡ true → fails b ≡ this.failed
        fails_here b e = ap {B = ℕ → Bool} (λ t. λ p. if t then this.failed p else before.failed b p) e

        fails_there : (b : ℕ) → (b == n) ≡ false → fails b ≡ before.failed b
        fails_there b e = ap {B = ℕ → Bool} (λ t. λ p. if t then this.failed p else before.failed b p) e

        below : (b : ℕ) → b < n + 1 → (b == n) ≡ false → b < n
        below b lt e = let ne : b ≢ n = eqb-false b n e in omega arith

        faulty : (b p : ℕ) → b < n + 1 → (t : Bool) → (b == n) ≡ t → fails b p ≡ true → surely b p s.index → ⊥
        faulty b p lt true e bad sure = this.faults p (sym (ap (λ (f : ℕ → Bool). f p) (fails_here b e)) ∙ bad) (subst (λ k. surely k p s.index) (eqb-true b n e) sure)
        faulty b p lt false e bad sure = before.faults b p (below b lt e) (sym (ap (λ (f : ℕ → Bool). f p) (fails_there b e)) ∙ bad) sure

        is_kept : (b : ℕ) → b < n + 1 → (t : Bool) → (b == n) ≡ t → (ls : List BlobEntryIndex) × Lists s (bytes b) (fails b) ls × (keep b ≡ kept ls)
        is_kept b lt true e = (
          this.listed,
          subst (λ k. Lists s (bytes k) (fails b) this.listed) (sym (eqb-true b n e)) (subst (λ f. Lists s (bytes n) f this.listed) (sym (fails_here b e)) this.lists),
          ap (λ (t : Bool). if t then kept this.listed else before.keeps b) e,
        )
        is_kept b lt false e =
            let k = before.kept b (below b lt e) in
            (k.0, subst (λ f. Lists s (bytes b) f k.0) (sym (fails_there b e)) k.1, ap (λ (t : Bool). if t then kept this.listed else before.keeps b) e ∙ k.2)

        is_whole : strict ≡ true → (b : ℕ) → b < n + 1 → (t : Bool) → (b == n) ≡ t → IsCut s (bytes b) (fails b) → ⊥
        is_whole is b lt true e cut = this.whole (uncut is) (subst (λ f. IsCut s (bytes n) f) (fails_here b e) (subst (λ k. IsCut s (bytes k) (fails b)) (eqb-true b n e) cut))
        is_whole is b lt false e cut = before.whole is b (below b lt e) (subst (λ f. IsCut s (bytes b) f) (fails_there b e) cut)

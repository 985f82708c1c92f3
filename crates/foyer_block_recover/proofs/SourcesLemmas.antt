-- Listings, and what is kept of their blocks.
use Rattle.std.proofs.Common.{◌≡◌, ℕ, zero, suc, Result, IfOk, IfSome, ◌+◌, ◌<◌, ◌==◌, ◌&&◌, Bool, true, false, if◌then◌else◌, Option, Some, None, List, [], ◌∷◌, ◌++◌, map, slice_get, refl, sym, ap, subst, ◌∙◌, arith, append_assoc, append-nil}
use Rattle.foyer_format_layout.proofs.EachLaws.{each_join}
use Rattle.std.proofs.lemmas.Bool.{eqb-true}
use Rattle.foyer_format_layout.specs.Each.{Each}
use Rattle.foyer_format_layout.specs.Position.{Sizes}
use Rattle.foyer_block_scan.specs.BlobEntryIndex.{BlobEntryIndex}
use Rattle.foyer_block_index.specs.declared.indexer.HashedEntryAddress.{HashedEntryAddress}
use Rattle.foyer_block_recover.specs.Chained.{hashed_entries, IsKeptBy, IsKeptOf}
use Rattle.foyer_block_recover.specs.Placed.{IsPlaced, IsSomeKept}
use Rattle.foyer_block_recover.specs.Sources.{AreListed, Listing, IsListingOf, IsOwnListing, IsWithinBlock, IsSource, is_shared, share_of, AreSources, is_of, if_of, listing_in, listing_at, sure_in, sure_of, ListingsAreSources}

-- an address as an entry of its block
entry_of : HashedEntryAddress → BlobEntryIndex
entry_of e = record { hash = e.hash; sequence = (e.address).sequence; offset = (e.address).offset; len = (e.address).len }

with_place : HashedEntryAddress → ℕ → ℕ → HashedEntryAddress
with_place e b f = record { hash = e.hash; address = record { block = b; offset = (e.address).offset; len = (e.address).len; sequence = (e.address).sequence; filling = f } }

placed_of : (s : Sizes) (b : ℕ) (es : List HashedEntryAddress) → Each (IsWithinBlock s b) es → Each (IsPlaced s) (map entry_of es)
unfolding entry_of
placed_of s b [] within = tt
placed_of s b (e ∷ es) within = (record { hash = within.0.0; behind = within.0.3; within = within.0.4 }, placed_of s b es within.1)

entries_back : (s : Sizes) (b : ℕ) (es : List HashedEntryAddress) → Each (IsWithinBlock s b) es → es ≡ hashed_entries b (map entry_of es)
unfolding with_place entry_of
entries_back s b [] within = refl
entries_back s b (e ∷ es) within =
    let here : e ≡ with_place e b 0 = ap (λ k. with_place e k (e.address).filling) within.0.1 ∙ ap (with_place e b) within.0.2 in
    ap (λ x. x ∷ es) here ∙ ap (λ l. with_place e b 0 ∷ l) (entries_back s b es within.1)

-- entries that lie in their block are some that may be kept of it
pub some_by : (s : Sizes) (b : ℕ) (old es : List HashedEntryAddress) → Each (IsWithinBlock s b) es → IsSomeKept s b old (old ++ es)
some_by s b old es within = record { keeps = map entry_of es; placed = placed_of s b es within; kept = ap (λ l. old ++ l) (entries_back s b es within) }

within_entries : (s : Sizes) (b : ℕ) (es : List BlobEntryIndex) → Each (IsPlaced s) es → Each (IsWithinBlock s b) (hashed_entries b es)
within_entries s b [] placed = tt
within_entries s b (e ∷ es) placed = ((placed.0.hash, refl, refl, placed.0.behind, placed.0.within), within_entries s b es placed.1)

-- and the other way round
pub within_by : (s : Sizes) (b : ℕ) (es : List HashedEntryAddress) → IsSomeKept s b [] es → Each (IsWithinBlock s b) es
within_by s b es some = subst (Each (IsWithinBlock s b)) (sym some.kept) (within_entries s b some.keeps some.placed)

-- what a chain gave, by the reads that failed
pub by_failed : (s : Sizes) (B : ℕ → ℕ) (surely : ℕ → Type 0) (b : ℕ) (old new : List HashedEntryAddress) (is_cut : Bool)
    → (is : IsKeptOf s B surely b old new is_cut) → IsKeptBy s B is.failed b old new is_cut
by_failed s B surely b old new is_cut is = record { listed = is.listed; lists = is.lists; kept = is.kept; cut = is.cut; whole = is.whole }

-- and after what a batch had, if the reads of all other places are sure
pub behind_batch : (s : Sizes) (B : ℕ → ℕ) (failed : ℕ → Bool) (b : ℕ) (old es : List HashedEntryAddress) (is_cut : Bool)
    → IsKeptBy s B failed b [] es is_cut → IsKeptOf s B (λ p. failed p ≡ false) b old (old ++ es) is_cut
behind_batch s B failed b old es is_cut is = record {
  failed = failed;
  faults = λ p bad sure. absurd (cc);
  listed = is.listed;
  lists = is.lists;
  kept = ap (λ l. old ++ l) is.kept;
  cut = is.cut;
  whole = is.whole;
}

pub within_of : (s : Sizes) (b : ℕ) (l : Listing) → (l.block ≡ b) × (l.sizes ≡ s) → Each (IsWithinBlock l.sizes l.block) l.kept → Each (IsWithinBlock s b) l.kept
within_of s b l these within = subst (λ (k : Sizes). Each (IsWithinBlock k b) l.kept) these.1 (subst (λ k. Each (IsWithinBlock l.sizes k) l.kept) these.0 within)

-- what the disk gave of a block without a listing
pub by_disk : {T E : Type 0} (s : Sizes) (b : ℕ) (o : Option Listing) (B has : ℕ → ℕ) (failed : ℕ → Bool) (sure : ℕ → Type 0) (old : List HashedEntryAddress)
    (r : Result T E) (kept_in : T → List HashedEntryAddress) (cut_in : T → Bool) → o ≡ None → IsSource s b o B has failed
    → IfOk r (λ t. IsKeptOf s has sure b old (kept_in t) (cut_in t)) → IfOk r (λ t. IsKeptOf s B (sure_in o failed sure) b old (kept_in t) (cut_in t))
by_disk s b o B has failed sure old r kept_in cut_in none source given =
    let same : B ≡ has = subst (λ (x : Option Listing). IsSource s b x B has failed) none source in
    subst (λ (x : Option Listing). IfOk r (λ t. IsKeptOf s B (sure_in x failed sure) b old (kept_in t) (cut_in t))) (sym none)
    (subst (λ (f : ℕ → ℕ). IfOk r (λ t. IsKeptOf s f sure b old (kept_in t) (cut_in t))) (sym same) given)

-- one block more of a worker's share
share_push : (w ws b n : ℕ) → share_of w ws b (suc n) ≡ share_of w ws b n ++ (if is_shared w ws (b + n) then (b + n) ∷ [] else [])
share_push w ws b zero =
    let at : b ≡ b + 0 = omega arith in
    ap (λ k. if is_shared w ws k then k ∷ [] else []) at
share_push w ws b (suc n) =
    let at : b + 1 + n ≡ b + suc n = omega arith in
    go (share_push w ws (b + 1) n ∙ ap (λ k. share_of w ws (b + 1) n ++ (if is_shared w ws k then k ∷ [] else [])) at) (is_shared w ws b)
  where
    go : share_of w ws (b + 1) (suc n) ≡ share_of w ws (b + 1) n ++ (if is_shared w ws (b + suc n) then (b + suc n) ∷ [] else [])
        → (t : Bool) → (if t then b ∷ share_of w ws (b + 1) (suc n) else share_of w ws (b + 1) (suc n))
        ≡ (if t then b ∷ share_of w ws (b + 1) n else share_of w ws (b + 1) n) ++ (if is_shared w ws (b + suc n) then (b + suc n) ∷ [] else [])
    go rest true = ap (λ l. b ∷ l) rest
    go rest false = rest

more_shared : (w ws n : ℕ) → share_of w ws 0 (n + 1) ≡ share_of w ws 0 n ++ (if is_shared w ws n then n ∷ [] else [])
more_shared w ws n =
    let more : n + 1 ≡ suc n = omega arith in
    let at : 0 + n ≡ n = omega arith in
    ap (share_of w ws 0) more ∙ share_push w ws 0 n ∙ ap (λ k. share_of w ws 0 n ++ (if is_shared w ws k then k ∷ [] else [])) at

pub none_listed_to : (s : Sizes) (blocks worker workers : ℕ) (known : Type 0) (bytes : ℕ → ℕ → ℕ) (surely : ℕ → ℕ → ℕ → Type 0) (old : List Listing)
    → AreListed s blocks worker workers known bytes surely old old
none_listed_to s blocks worker workers known bytes surely old = record { more = []; items = sym (append-nil old); own = tt; lists = λ k. tt }

-- fewer places are sure
each_fewer : (s : Sizes) (bytes : ℕ → ℕ → ℕ) (fewer more : ℕ → ℕ → ℕ → Type 0) → ((b p n : ℕ) → fewer b p n → more b p n) → (ls : List Listing)
    → Each (λ (l : Listing). IsListingOf s (bytes l.block) (λ p. more l.block p s.index) l) ls → Each (λ (l : Listing). IsListingOf s (bytes l.block) (λ p. fewer l.block p s.index) l) ls
each_fewer s bytes fewer more within [] each = tt
each_fewer s bytes fewer more within (l ∷ ls) each = (with_fewer s (bytes l.block) (λ p. fewer l.block p s.index) (λ p. more l.block p s.index) l (λ p. within l.block p s.index) each.0, each_fewer s bytes fewer more within ls each.1)
  where
    with_fewer : (s : Sizes) (B : ℕ → ℕ) (fewer more : ℕ → Type 0) (l : Listing) → ((p : ℕ) → fewer p → more p) → IsListingOf s B more l → IsListingOf s B fewer l
    with_fewer s B fewer more l within is = record { failed = is.failed; faults = λ p bad sure. is.faults p bad (within p sure); listed = is.listed; lists = is.lists; kept = is.kept; cut = is.cut; whole = is.whole }

-- one listing more
pub one_listed : (s : Sizes) (blocks worker workers n : ℕ) (known : Type 0) (bytes : ℕ → ℕ → ℕ) (surely : ℕ → ℕ → ℕ → Type 0) (old new : List Listing) (l : Listing)
    → is_shared worker workers n ≡ true → n < blocks → l.block ≡ n → l.sizes ≡ s → new ≡ old ++ l ∷ []
    → (known → IsListingOf s (bytes n) (λ p. surely n p s.index) l) → AreListed s blocks worker workers known bytes surely old new
one_listed s blocks worker workers n known bytes surely old new l own lt block sizes pushed lists = record {
  more = l ∷ [];
  items = pushed;
  own = ((sizes, subst (λ k. k < blocks) (sym block) lt, subst (λ k. is_shared worker workers k ≡ true) (sym block) own), tt);
  lists = λ k. (subst (λ b. IsListingOf s (bytes b) (λ p. surely b p s.index) l) (sym block) (lists k), tt);
}

-- and more behind these
pub both_listed : (s : Sizes) (blocks worker workers : ℕ) (known seen : Type 0) (bytes has : ℕ → ℕ → ℕ) (before behind all : ℕ → ℕ → ℕ → Type 0) (old mid new : List Listing)
    → (known → seen) → has ≡ bytes → ((b p k : ℕ) → all b p k → before b p k) → ((b p k : ℕ) → all b p k → behind b p k)
    → AreListed s blocks worker workers known bytes before old mid → AreListed s blocks worker workers seen has behind mid new
    → AreListed s blocks worker workers known bytes all old new
both_listed s blocks worker workers known seen bytes has before behind all old mid new to same up on is next = record {
  more = is.more ++ next.more;
  items = next.items ∙ ap (λ ls. ls ++ next.more) is.items ∙ append_assoc old is.more next.more;
  own = each_join (IsOwnListing s blocks worker workers) is.more next.more is.own next.own;
  lists = λ k. each_join (λ (m : Listing). IsListingOf s (bytes m.block) (λ p. all m.block p s.index) m) is.more next.more
      (each_fewer s bytes all before up is.more (is.lists k))
      (each_fewer s bytes all behind on next.more
      (subst (λ (f : ℕ → ℕ → ℕ). Each (λ (m : Listing). IsListingOf s (f m.block) (λ p. behind m.block p s.index) m) next.more) same (next.lists (to k))));
}

pub share_more : (mid new olds : List ℕ) (w ws n : ℕ) → mid ≡ olds ++ share_of w ws 0 n → new ≡ mid ++ (if is_shared w ws n then n ∷ [] else [])
    → new ≡ olds ++ share_of w ws 0 (n + 1)
share_more mid new olds w ws n is next =
    let last = if is_shared w ws n then n ∷ [] else [] in
    next ∙ ap (λ l. l ++ last) is ∙ append_assoc olds (share_of w ws 0 n) last ∙ ap (λ l. olds ++ l) (sym (more_shared w ws n))

-- whatever came of a block, its own or none is found
and_true : (a b : Bool) → (a && b) ≡ true → (a ≡ true) × (b ≡ true)
and_true true b is = (refl, is)
and_true false b is = absurd (cc)

pub of_this : (s : Sizes) (b : ℕ) (l : Listing) → is_of s b l ≡ true → (l.block ≡ b) × (l.sizes ≡ s)
of_this s b l is =
    let both = and_true ((l.block == b) && ((l.sizes).block == s.block)) ((l.sizes).index == s.index) is in
    let first = and_true (l.block == b) ((l.sizes).block == s.block) both.0 in
    let block : (l.sizes).block ≡ s.block = eqb-true (l.sizes).block s.block first.1 in
    let index : (l.sizes).index ≡ s.index = eqb-true (l.sizes).index s.index both.1 in
    let sizes : l.sizes ≡ s = ap (λ k. sized k (l.sizes).index) block ∙ ap (sized s.block) index in
    (eqb-true l.block b first.0, sizes)
  where
    sized : ℕ → ℕ → Sizes
    sized k i = record { block = k; index = i }

-- the listing of a block is of it
listing_of : (s : Sizes) (b : ℕ) (o : Option Listing) (l : Listing) → if_of s b o ≡ Some l → is_of s b l ≡ true
listing_of s b None l is = absurd (cc)
listing_of s b (Some m) l is = go (is_of s b m) refl is
  where
    go : (t : Bool) → is_of s b m ≡ t → (if t then Some m else None) ≡ Some l → is_of s b l ≡ true
    go true e same = let this : m ≡ l = cc in subst (λ x. is_of s b x ≡ true) this e
    go false e same = absurd (cc)

pub own_listing : (s : Sizes) (b : ℕ) (slots : List (Option Listing)) (o : Option Listing) → o ≡ listing_at s b slots → IfSome o (λ l. is_of s b l ≡ true)
own_listing s b slots None is = tt
own_listing s b slots (Some l) is = listing_of s b (listing_in (slice_get slots b)) l (sym is)

-- a source of a block whose listing lists these bytes
source_of : (s : Sizes) (b : ℕ) (o : Option Listing) (B : ℕ → ℕ) (failed : ℕ → Bool)
    → ((l : Listing) → o ≡ Some l → is_of s b l ≡ true → IsKeptBy s B failed b [] l.kept l.is_cut) → IsSource s b (if_of s b o) B B failed
source_of s b None B failed lists = refl
source_of s b (Some l) B failed lists = go (is_of s b l) refl
  where
    go : (t : Bool) → is_of s b l ≡ t → IsSource s b (if t then Some l else None) B B failed
    go true e = lists l refl e
    go false e = refl

listing_there : (o : Option (Option Listing)) (l : Listing) → listing_in o ≡ Some l → o ≡ Some (Some l)
listing_there None l is = absurd (cc)
listing_there (Some o) l is = ap Some is

pub listings_are_sources : ListingsAreSources
listings_are_sources s n slots bytes failed lists = λ b lt. source_of s b (listing_in (slice_get slots b)) (bytes b) (failed b)
    (λ l is of. let these = of_this s b l of in
    subst (λ (k : Sizes). IsKeptBy k (bytes b) (failed b) b [] l.kept l.is_cut) these.1
    (subst (λ k. IsKeptBy l.sizes (bytes k) (failed k) k [] l.kept l.is_cut) these.0 (lists b l lt (listing_there (slice_get slots b) l is))))

-- of no listing all is the disk's own
pub none_listed : (s : Sizes) (n : ℕ) (bytes : ℕ → ℕ → ℕ) (slots : List (Option Listing)) → slots ≡ [] → AreSources s n slots bytes bytes (λ b p. false)
none_listed s n bytes slots none = λ b lt. subst (λ (l : List (Option Listing)). IsSource s b (listing_at s b l) (bytes b) (bytes b) (λ p. false)) (sym none) refl

-- and it is as sure of the disk's places as the disk is
pub sure_of_none : (s : Sizes) (slots : List (Option Listing)) → slots ≡ [] → (sure : ℕ → ℕ → ℕ → Type 0) (P : (ℕ → ℕ → ℕ → Type 0) → Type 0)
    → P (sure_of s slots (λ b p. false) sure) → P sure
sure_of_none s slots none sure P is = subst (λ (l : List (Option Listing)). P (sure_of s l (λ b p. false) sure)) none is

-- The source of what is kept of each block: a listing that a worker read, or the disk itself.
use Rattle.std.specs.Prelude.{◌≡◌, ℕ, zero, suc, ◌+◌, ◌<◌, ◌≤◌, ◌==◌, ◌%◌, ◌^◌, ◌&&◌, ◌++◌, if◌then◌else◌, Bool, true, false, List, [], ◌∷◌, Option, Some, None, slice_get}
use Rattle.foyer_format_layout.specs.Each.{Each}
use Rattle.foyer_format_layout.specs.Page.{page_up}
use Rattle.foyer_format_layout.specs.Position.{Sizes}
use Rattle.foyer_block_index.specs.declared.indexer.HashedEntryAddress.{HashedEntryAddress}
use Rattle.foyer_io_disk.specs.Disk.{SurelyCame}
use Rattle.foyer_block_recover.specs.Chained.{IsKeptBy, IsKeptOf}

-- what a reading of one block's chain gave: what is kept of it, and whether a failed read ended it
pub record Listing : Type 0 where
  pub block : ℕ
  pub sizes : Sizes
  pub kept : List HashedEntryAddress
  pub is_cut : Bool

-- its entries are kept of a block of these bytes; some reads may have failed, but none of a place that is sure
abbrev pub IsListingOf : Sizes → (B : ℕ → ℕ) → (surely : ℕ → Type 0) → Listing → Type 0
IsListingOf s B surely l = IsKeptOf s B surely l.block [] l.kept l.is_cut

-- an address lies in the block, behind the first index, in the filling with which a core begins, and its hash has 64 bits
abbrev pub IsWithinBlock : Sizes → ℕ → HashedEntryAddress → Type 0
IsWithinBlock s block e =
    (e.hash < 2 ^ 64) × ((e.address).block ≡ block) × ((e.address).filling ≡ 0) × (s.index ≤ (e.address).offset)
    × ((e.address).offset + page_up (e.address).len ≤ s.block)

module _ {X : Type 0} (is_known : X → Type 0) (byte_at : X → ℕ → ℕ → ℕ) (surely_has surely_lies : X → ℕ → ℕ → ℕ → Type 0) (faults : X → ℕ) where
  -- Some disk gave it, between these two of the disk's states. If contracts see the disk's bytes, it lists these bytes.
  pub record IsReadFrom (l : Listing) : Type 0 where
    pub before : X
    pub after : X
    pub lists : is_known before → IsListingOf l.sizes (byte_at before l.block)
        (λ p. SurelyCame (surely_has before) (surely_lies before) (faults before) (faults after) l.block p (l.sizes).index) l

  -- What its type keeps: some disk gave it, and whatever that showed, its entries lie in the block.
  abbrev pub IsListing : Listing → Type 0
  IsListing l = ∥ IsReadFrom l ∥₁ × Each (IsWithinBlock l.sizes l.block) l.kept

-- a listing of this block, in these sizes
abbrev pub is_of : Sizes → ℕ → Listing → Bool
is_of s b l = (l.block == b) && ((l.sizes).block == s.block) && ((l.sizes).index == s.index)

abbrev pub if_of : Sizes → ℕ → Option Listing → Option Listing
if_of s b None = None
if_of s b (Some l) = if is_of s b l then Some l else None

-- the listing at a place, if one is there
abbrev pub listing_in : Option (Option Listing) → Option Listing
listing_in None = None
listing_in (Some l) = l

-- the listing of a block, if one is there
abbrev pub listing_at : Sizes → ℕ → List (Option Listing) → Option Listing
listing_at s b slots = if_of s b (listing_in (slice_get slots b))

-- Bytes B are those of a block. If the block has a listing, it lists them, given that these reads failed. Else the disk has them.
abbrev pub IsSource : Sizes → ℕ → Option Listing → (B has : ℕ → ℕ) → (failed : ℕ → Bool) → Type 0
IsSource s b None B has failed = B ≡ has
IsSource s b (Some l) B has failed = IsKeptBy s B failed b [] l.kept l.is_cut

-- of which places it is sure that they were read: those that its listing read, or that the disk surely gave
abbrev pub sure_in : Option Listing → (failed : ℕ → Bool) → (sure : ℕ → Type 0) → ℕ → Type 0
sure_in None failed sure = sure
sure_in (Some l) failed sure = λ p. failed p ≡ false

-- and of each of n blocks
abbrev pub AreSources : Sizes → ℕ → List (Option Listing) → (bytes has : ℕ → ℕ → ℕ) → (failed : ℕ → ℕ → Bool) → Type 0
AreSources s n slots bytes has failed =
    (b : ℕ) → b < n → IsSource s b (listing_at s b slots) (bytes b) (has b) (failed b)

abbrev pub sure_of : Sizes → List (Option Listing) → (failed : ℕ → ℕ → Bool) → (sure : ℕ → ℕ → ℕ → Type 0) → ℕ → ℕ → ℕ → Type 0
sure_of s slots failed sure b p n = sure_in (listing_at s b slots) (failed b) (λ q. sure b q n) p

-- Whatever came first: bytes of which each listing that is there lists its own block's are those of all blocks.
abbrev pub ListingsAreSources : Type 0
ListingsAreSources =
    (s : Sizes) (n : ℕ) (slots : List (Option Listing)) (bytes : ℕ → ℕ → ℕ) (failed : ℕ → ℕ → Bool)
    → ((b : ℕ) (l : Listing) → b < n → slice_get slots b ≡ Some (Some l) → IsKeptBy l.sizes (bytes l.block) (failed l.block) l.block [] l.kept l.is_cut)
    → AreSources s n slots bytes bytes failed

-- whether a block is one worker's, of so many
abbrev pub is_shared : (worker workers : ℕ) → ℕ → Bool
is_shared worker workers b = b % workers == worker

-- the worker's blocks among n
abbrev pub share_of : (worker workers from n : ℕ) → List ℕ
share_of worker workers b zero = []
share_of worker workers b (suc n) =
    if is_shared worker workers b then b ∷ share_of worker workers (b + 1) n else share_of worker workers (b + 1) n

-- a listing of one of its blocks, in these sizes
abbrev pub IsOwnListing : Sizes → (blocks worker workers : ℕ) → Listing → Type 0
IsOwnListing s blocks worker workers l = (l.sizes ≡ s) × (l.block < blocks) × (is_shared worker workers l.block ≡ true)

abbrev pub block_of : Listing → ℕ
block_of l = l.block

-- Behind the listings that were there stand more, each of one of the worker's blocks. Each lists what the disk has there, except for
-- reads that failed.
pub record AreListed (s : Sizes) (blocks worker workers : ℕ) (known : Type 0) (bytes : ℕ → ℕ → ℕ) (surely : ℕ → ℕ → ℕ → Type 0) (old new : List Listing) : Type 0 where
  pub more : List Listing
  pub items : new ≡ old ++ more
  pub own : Each (IsOwnListing s blocks worker workers) more
  pub lists : known → Each (λ (l : Listing). IsListingOf s (bytes l.block) (λ p. surely l.block p s.index) l) more

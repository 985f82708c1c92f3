-- What the chain of one block gives, of a disk whose bytes contracts see.
use Rattle.std.specs.Prelude.{◌≡◌, ℕ, Bool, true, false, List, ◌++◌}
use Rattle.foyer_block_scan.specs.BlobEntryIndex.{BlobEntryIndex}
use Rattle.foyer_block_index.specs.declared.indexer.HashedEntryAddress.{HashedEntryAddress}
use Rattle.foyer_format_layout.specs.Position.{Sizes}
use Rattle.foyer_block_scan.specs.Listing.{Lists, kept}
use Rattle.foyer_block_scan.specs.Scan.{infos_of}
use Rattle.foyer_block_recover.specs.Kept.{hashed_infos}
use Rattle.foyer_block_recover.specs.Opening.{IsCut}

-- entries of a block as they go into an index, in the filling with which a core begins
abbrev pub hashed_entries : ℕ → List BlobEntryIndex → List HashedEntryAddress
hashed_entries block es = hashed_infos (infos_of block 0 es)

-- Of a block of these bytes this was kept behind what a batch had; some reads may have failed, none of a place that is
-- sure, and by one of them the chain is cut, or by none.
pub record IsKeptOf (s : Sizes) (B : ℕ → ℕ) (surely : ℕ → Type 0) (block : ℕ) (old new : List HashedEntryAddress) (is_cut : Bool) : Type 0 where
  pub failed : ℕ → Bool
  pub faults : (p : ℕ) → failed p ≡ true → surely p → ⊥
  pub listed : List BlobEntryIndex
  pub lists : Lists s B failed listed
  pub kept : new ≡ old ++ hashed_entries block (kept listed)
  pub cut : is_cut ≡ true → IsCut s B failed
  pub whole : is_cut ≡ false → IsCut s B failed → ⊥

-- the same of these failed places
pub record IsKeptBy (s : Sizes) (B : ℕ → ℕ) (failed : ℕ → Bool) (block : ℕ) (old new : List HashedEntryAddress) (is_cut : Bool) : Type 0 where
  pub listed : List BlobEntryIndex
  pub lists : Lists s B failed listed
  pub kept : new ≡ old ++ hashed_entries block (kept listed)
  pub cut : is_cut ≡ true → IsCut s B failed
  pub whole : is_cut ≡ false → IsCut s B failed → ⊥

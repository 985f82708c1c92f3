-- What a block lists, and why its chain of indices ends.
use Rattle.std.specs.Prelude.{◌≡◌, ℕ, ◌+◌, ◌<◌, ◌≤◌, Bool, true, false, List, length}
use Rattle.foyer_format_blob.specs.declared.blob.BlobEntryIndex.{BlobEntryIndex}
use Rattle.foyer_format_layout.specs.BlockBytes.{read}
use Rattle.foyer_format_buffer.specs.Listing.{Chain, kept}
use Rattle.foyer_format_layout.specs.Position.{Sizes}
use Rattle.foyer_block_scan.specs.IndexBytes.{IsIndexOf}
use Rattle.foyer_block_scan.specs.Scan.{infos_of}
use Rattle.foyer_block_scan.specs.declared.block.scanner.EntryInfo.{EntryInfo}
use Rattle.foyer_list.specs.declared.listing.ChainEnd.{ChainEnd}
use Rattle.foyer_list.specs.declared.listing.ChainEnd.TheVariants as end
use Rattle.foyer_list.specs.declared.listing.Listing.{Listing}

-- Why a chain ends at offset q of a block of these bytes, if the reads of these offsets failed. Either no index has room there. Or an index
-- has room, and its read failed. Or its read came, and the bytes are no index whose entries fit.
abbrev pub EndsBy : Sizes → (ℕ → ℕ) → (ℕ → Bool) → ℕ → ChainEnd → Type 0
EndsBy s B failed q end.BlockEnd = s.block < q + s.index
EndsBy s B failed q (end.FailedRead offset) = (offset ≡ q) × (q + s.index ≤ s.block) × (failed q ≡ true)
EndsBy s B failed q (end.NoIndex offset) =
    (offset ≡ q) × (q + s.index ≤ s.block) × (failed q ≡ false) × ((es : List BlobEntryIndex) → IsIndexOf s q (read B q s.index) es → ⊥)

-- A block of these bytes lists these entries, and its chain ends so; some reads may have failed, of none of which it is sure
-- that the disk has it.
pub record IsListed (s : Sizes) (B : ℕ → ℕ) (surely : ℕ → Type 0) (block : ℕ) (entries : List EntryInfo) (by : ChainEnd) : Type 0 where
  pub failed : ℕ → Bool
  pub faults : (p : ℕ) → failed p ≡ true → surely p → ⊥
  pub listed : List BlobEntryIndex
  pub last : ℕ
  pub chain : Chain s B failed 0 listed last
  pub are : entries ≡ infos_of block 0 listed
  pub end : EndsBy s B failed last by

-- So the block is listed, and as many entries are said to be kept as are kept of what it lists.
pub record IsListing {A : Type 0} (s : Sizes) (B : ℕ → ℕ) (surely : ℕ → Type 0) (block : ℕ) (listing : Listing A) : Type 0 where
  pub listed : IsListed s B surely block listing.entries.items listing.end
  pub kept : listing.kept ≡ length (kept listed.listed)

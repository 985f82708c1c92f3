-- The scan of a block as a machine whose steps are what was read at each offset.
use Rattle.std.specs.Prelude.{◌≡◌, ℕ, ◌+◌, nat_le, if◌then◌else◌, List, [], ◌∷◌, map, Option, Some, None}
use Rattle.foyer_block_index.specs.declared.indexer.EntryAddress.{EntryAddress}
use Rattle.foyer_format_layout.specs.Position.{Sizes}
use Rattle.foyer_format_buffer.specs.Listing.{behind, placed}
use Rattle.foyer_block_scan.specs.IndexBytes.{index_at}
use Rattle.foyer_block_scan.specs.ScanState.{Scan}
use Rattle.foyer_format_buffer.specs.BlobEntryIndex.{BlobEntryIndex}
use Rattle.foyer_block_scan.specs.declared.block.scanner.EntryInfo.{EntryInfo}

-- the offset at which the chain goes on, if there is room for an index
abbrev pub next_blob : Sizes → ℕ → Option ℕ
next_blob s p = if nat_le (p + s.index) s.block then Some p else None

-- the entry of a list of the block, as an address of a filling
abbrev pub info_of : (block filling : ℕ) → BlobEntryIndex → EntryInfo
info_of block filling e = record {
  hash = e.hash;
  addr = record { block = block; offset = e.offset; len = e.len; sequence = e.sequence; filling = filling };
}

abbrev pub infos_of : (block filling : ℕ) → List BlobEntryIndex → List EntryInfo
infos_of block filling es = map (info_of block filling) es

-- what an index at offset p, or no index, gives: its entries, and the scan as it goes on
pub record ScanStep : Type 0 where
  pub listed : Option (List EntryInfo)
  pub scan : Scan

-- the scan has ended
abbrev pub scan_end : Scan → ScanStep
scan_end s = record { listed = None; scan = record s { blob_offset = None } }

abbrev pub index_step : Scan → ℕ → Option (List BlobEntryIndex) → ScanStep
index_step s p None = scan_end s
index_step s p (Some es) = record {
  listed = Some (infos_of s.block s.filling (placed p es));
  scan = record s { blob_offset = next_blob s.sizes (behind s.sizes p es) };
}

-- what the bytes of the offset give; after the end nothing more
abbrev pub scan_step : Scan → Option ℕ → List ℕ → ScanStep
scan_step s None b = record { listed = None; scan = s }
scan_step s (Some p) b = index_step s p (index_at s.sizes p b)

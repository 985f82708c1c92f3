-- What is issued of a block: its writes, and the records that enter the index when they are done.
use Rattle.std.specs.Prelude.{ℕ, ◌+◌, nat_le, if◌then◌else◌, List, [], ◌∷◌, ◌++◌, length, map, replicate}
use Rattle.foyer_block_index.specs.declared.indexer.HashedEntryAddress.{HashedEntryAddress}
use Rattle.foyer_format_blob.specs.declared.blob.BlobEntryIndex.{BlobEntryIndex}
use Rattle.foyer_format_buffer.specs.declared.split.BlobPart.{BlobPart}
use Rattle.foyer_device_page.specs.Section.{bytes_of}
use Rattle.foyer_format_layout.specs.BlockBytes as layout
use Rattle.foyer_core_flusher.specs.declared.batch.Write.{Write}
use Rattle.foyer_core_flusher.specs.declared.batch.WriteBytes.{WriteBytes}
use Rattle.foyer_core_flusher.specs.declared.batch.WriteBytes.TheVariants.{Data, Zeros, Index}

-- a record of a blob that begins at this offset of a block, which isn't known yet
abbrev pub entering : ℕ → BlobEntryIndex → HashedEntryAddress
entering blob e = record {
  hash = e.hash;
  address = record { block = 0; offset = blob + e.offset; len = e.len; sequence = e.sequence; filling = 0 };
}

module _ {A : Type 0} where
  -- the bytes that are written
  abbrev pub written_bytes : WriteBytes A → List ℕ
  written_bytes (Data section) = bytes_of section
  written_bytes Zeros = replicate 4096 0
  written_bytes (Index bytes) = bytes

  -- the records of these parts
  abbrev pub entering_of : List (BlobPart A) → List HashedEntryAddress
  entering_of [] = []
  entering_of (p ∷ ps) = map (entering p.blob_block_offset) p.indices.items ++ entering_of ps

  -- if a block of n bytes has room for a page at an offset, zeros are written there before these
  abbrev pub with_zeros : (n o : ℕ) → List (Write A) → List (Write A)
  with_zeros n o ws = if nat_le (o + 4096) n then record { offset = o; bytes = Zeros } ∷ ws else ws

  -- the writes of these parts into a block of n bytes: of each its data, a page of zeros behind them if there is room, and
  -- then its blob's index
  abbrev pub writes_of : ℕ → List (BlobPart A) → List (Write A)
  writes_of n [] = []
  writes_of n (p ∷ ps) =
      record { offset = p.blob_block_offset + p.part_blob_offset; bytes = Data p.part_data }
      ∷ with_zeros n (p.blob_block_offset + p.part_blob_offset + length (bytes_of p.part_data))
      (record { offset = p.blob_block_offset; bytes = Index p.index } ∷ writes_of n ps)

  -- whether records and what stands behind them or an index are written
  abbrev pub role_of : WriteBytes A → layout.Role
  role_of (Data section) = layout.Data
  role_of Zeros = layout.Data
  role_of (Index bytes) = layout.Index

  -- a write as the model's
  abbrev pub write_of : Write A → layout.Write
  write_of w = record { role = role_of w.bytes; offset = w.offset; bytes = written_bytes w.bytes }

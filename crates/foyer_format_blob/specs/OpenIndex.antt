-- An index that is being filled.
use Rattle.std.specs.Prelude.{ℕ, List, length}
use Rattle.foyer_format_blob.specs.Blob.{entries_in, capacity_of}
use Rattle.foyer_format_blob.specs.declared.blob.BlobEntryIndex.{BlobEntryIndex}

-- its bytes, and how many entries were written into them
pub record OpenIndex : Type 0 where
  pub bytes : List ℕ
  pub count : ℕ

abbrev pub entries_of : OpenIndex → List BlobEntryIndex
entries_of i = entries_in i.bytes i.count

abbrev pub room_of : OpenIndex → ℕ
room_of i = capacity_of (length i.bytes)

-- Records that stand in a block.
use Rattle.std.specs.Prelude.{◌≡◌, ℕ, ◌+◌, ◌-◌, ◌<◌, ◌≤◌, List, [], ◌∷◌, length, take, drop}
use Rattle.foyer_format_layout.specs.Page.{page_up}
use Rattle.foyer_format_layout.specs.BlockBytes.{read}
use Rattle.foyer_format_buffer.specs.Entries.{Entry}
use Rattle.foyer_format_buffer.specs.declared.BufferEntryInfo.{BufferEntryInfo}
use Rattle.foyer_format_blob.specs.declared.blob.BlobEntryIndex.{BlobEntryIndex}

-- a record that stands at an offset of a block
pub record Stored : Type 0 where
  pub hash : ℕ
  pub sequence : ℕ
  pub offset : ℕ
  pub bytes : List ℕ

abbrev pub entry_of : Stored → BlobEntryIndex
entry_of r =
    record { hash = r.hash; sequence = r.sequence; offset = r.offset; len = length r.bytes }

-- the same without its place
abbrev pub content_of : Stored → Entry
content_of r = record { hash = r.hash; sequence = r.sequence; bytes = r.bytes }

-- the records of these entries of a blob, whose data begin at this offset of the blob
abbrev pub stored_at : (blob at : ℕ) → List ℕ → List BlobEntryIndex → List Stored
stored_at blob at content [] = []
stored_at blob at content (e ∷ es) =
    record {
      hash = e.hash;
      sequence = e.sequence;
      offset = blob + e.offset;
      bytes = take e.len (drop (e.offset - at) content);
    } ∷ stored_at blob at content es

-- the records stand at their offsets
abbrev pub AllStand : (ℕ → ℕ) → List Stored → Type 0
AllStand g [] = Unit {0}
AllStand g (r ∷ rs) = (read g r.offset (length r.bytes) ≡ r.bytes) × AllStand g rs

-- no byte of these records' pages has the property
abbrev pub AllOutside : (ℕ → Type 0) → List Stored → Type 0
AllOutside P [] = Unit {0}
AllOutside P (r ∷ rs) =
    ((o : ℕ) → r.offset ≤ o → o < r.offset + page_up (length r.bytes) → P o → ⊥) × AllOutside P rs

-- these are the records of a batch from byte start on, in order, each with its padding
abbrev pub AreRecords : List ℕ → (start : ℕ) → List BufferEntryInfo → List Stored → Type 0
AreRecords whole start [] [] = Unit {0}
AreRecords whole start [] (r ∷ rs) = ⊥
AreRecords whole start (i ∷ is) [] = ⊥
AreRecords whole start (i ∷ is) (r ∷ rs) =
    (r.hash ≡ i.hash) × (r.sequence ≡ i.sequence) × (r.bytes ≡ take i.len (drop start whole))
    × (length r.bytes ≡ i.len) × AreRecords whole (start + page_up i.len) is rs

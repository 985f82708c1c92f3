-- The index of a blob: its checksum, its count, and its entries.
use Rattle.std.specs.Prelude.{◌≡◌, ℕ, zero, suc, ◌+◌, ◌-◌, ◌*◌, ◌/◌, ◌<◌, ◌≤◌, ◌^◌, List, [], ◌∷◌, ◌++◌, length, drop}
use Rattle.byteorder.specs.Endian.{big_bytes}
use Rattle.foyer_format_record.specs.Xxh64.{xxh64}
use Rattle.foyer_format_record.specs.Header.{number_at}
use Rattle.foyer_format_blob.specs.declared.blob.BlobEntryIndex.{BlobEntryIndex}

-- the 24 bytes of an entry
unfoldable pub entry_bytes : BlobEntryIndex → List ℕ
entry_bytes e =
    big_bytes 8 e.hash ++ (big_bytes 8 e.sequence ++ (big_bytes 4 e.offset ++ big_bytes 4 e.len))

-- each number fits its field
pub record FitsEntry (e : BlobEntryIndex) : Type 0 where
  pub hash : e.hash < 2 ^ 64
  pub sequence : e.sequence < 2 ^ 64
  pub offset : e.offset < 2 ^ 32
  pub len : e.len < 2 ^ 32

-- the entry that the first 24 bytes of b spell
unfoldable pub entry_of : List ℕ → BlobEntryIndex
entry_of b = record {
  hash = number_at 0 8 b;
  sequence = number_at 8 8 b;
  offset = number_at 16 4 b;
  len = number_at 20 4 b;
}

-- the first n entries of an index
unfoldable pub entries_in : List ℕ → ℕ → List BlobEntryIndex
entries_in b zero = []
entries_in b (suc n) = entries_in b n ++ entry_of (drop (12 + 24 * n) b) ∷ []

-- how many entries an index of this size has room for
abbrev pub capacity_of : ℕ → ℕ
capacity_of size = (size - 12) / 24

-- b is an index whose checksum is right, whose count is within its capacity, and whose first
-- entries, as many as it counts, are these
pub record IsSealed (b : List ℕ) (es : List BlobEntryIndex) : Type 0 where
  pub long : 12 ≤ length b
  pub checksum : number_at 0 8 b ≡ xxh64 (drop 8 b)
  pub count : number_at 8 4 b ≡ length es
  pub room : length es ≤ capacity_of (length b)
  pub entries : entries_in b (length es) ≡ es

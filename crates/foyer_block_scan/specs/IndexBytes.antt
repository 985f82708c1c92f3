-- Which bytes at an offset of a block are an index, as a function of the bytes.
use Rattle.std.specs.Prelude.{ℕ, ◌+◌, ◌%◌, ◌==◌, nat_le, nat_lt, Bool, true, ◌&&◌, if◌then◌else◌, List, [], ◌∷◌, length, drop, Option, Some, None}
use Rattle.foyer_format_checksum.specs.Xxh64.{xxh64}
use Rattle.foyer_format_buffer.specs.Header.{number_at}
use Rattle.foyer_format_layout.specs.Page.{page_up}
use Rattle.foyer_format_buffer.specs.Blob.{IsSealed, entries_in, capacity_of}
use Rattle.foyer_format_layout.specs.Each.{Each}
use Rattle.foyer_format_layout.specs.Position.{Sizes}
use Rattle.foyer_format_buffer.specs.Listing.{Fits}
use Rattle.foyer_format_buffer.specs.BlobEntryIndex.{BlobEntryIndex}

-- the checksum is right, and the count within the capacity
abbrev pub is_sealed : List ℕ → Bool
is_sealed b = nat_le 12 (length b) && (number_at 0 8 b == xxh64 (drop 8 b)) && nat_le (number_at 8 4 b) (capacity_of (length b))

-- the entries that it counts
abbrev pub sealed_entries : List ℕ → List BlobEntryIndex
sealed_entries b = entries_in b (number_at 8 4 b)

-- the entry of an index at offset p isn't empty, and lies behind the index, on a page, and within the block
abbrev pub fits : Sizes → ℕ → BlobEntryIndex → Bool
fits s p e = nat_lt 0 e.len && nat_le s.index e.offset && (e.offset % 4096 == 0) && nat_le (p + e.offset + page_up e.len) s.block

abbrev pub all_fit : Sizes → ℕ → List BlobEntryIndex → Bool
all_fit s p [] = true
all_fit s p (e ∷ es) = fits s p e && all_fit s p es

-- the entries of the index that these bytes of offset p are, if they are one
abbrev pub index_at : Sizes → ℕ → List ℕ → Option (List BlobEntryIndex)
index_at s p b = if is_sealed b && all_fit s p (sealed_entries b) then Some (sealed_entries b) else None

-- the same in words: the bytes of offset p are a sealed index with these entries, and each of them fits
pub record IsIndexOf (s : Sizes) (p : ℕ) (b : List ℕ) (es : List BlobEntryIndex) : Type 0 where
  pub sealed : IsSealed b es
  pub fits : Each (Fits s p) es

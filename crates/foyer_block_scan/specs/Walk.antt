-- A block that is scanned to its end.
use Rattle.std.specs.Prelude.{◌≡◌, ℕ, zero, suc, ◌+◌, ◌≤◌, Bool, true, false, if◌then◌else◌, List, [], ◌∷◌, ◌++◌, Option, Some, None}
use Rattle.foyer_format_layout.specs.BlockBytes.{read}
use Rattle.foyer_format_buffer.specs.Fills.{AreSizes}
use Rattle.foyer_format_layout.specs.Position.{Sizes}
use Rattle.foyer_format_buffer.specs.Listing.{IsIndex, behind, placed, Chain, Lists}
use Rattle.foyer_block_scan.specs.IndexBytes.{index_at, IsIndexOf}
use Rattle.foyer_block_scan.specs.Scan.{next_blob}
use Rattle.foyer_format_buffer.specs.BlobEntryIndex.{BlobEntryIndex}

-- the index that stands at offset p of a block, if its read came
abbrev pub index_in : Sizes → (ℕ → ℕ) → (ℕ → Bool) → ℕ → Option (List BlobEntryIndex)
index_in s B failed p = if failed p then None else index_at s p (read B p s.index)

-- what an index at offset p lists, and behind it the rest
abbrev pub list_from : Sizes → (Option ℕ → List BlobEntryIndex) → ℕ → Option (List BlobEntryIndex) → List BlobEntryIndex
list_from s rest p None = []
list_from s rest p (Some es) = placed p es ++ rest (next_blob s (behind s p es))

-- what is listed from an offset on, over at most n offsets
abbrev pub walk : ℕ → Sizes → (ℕ → ℕ) → (ℕ → Bool) → Option ℕ → List BlobEntryIndex
walk n s B failed None = []
walk zero s B failed (Some p) = []
walk (suc n) s B failed (Some p) = list_from s (walk n s B failed) p (index_in s B failed p)

-- what a block lists: a scan reads no more offsets than the block has bytes
abbrev pub list_of : Sizes → (ℕ → ℕ) → (ℕ → Bool) → List BlobEntryIndex
list_of s B failed = walk (suc s.block) s B failed (next_blob s 0)

-- the function says which bytes are an index
pub record Judges (s : Sizes) (p : ℕ) (b : List ℕ) : Type 0 where
  pub some : (es : List BlobEntryIndex) → index_at s p b ≡ Some es → IsIndexOf s p b es
  pub none : index_at s p b ≡ None → (es : List BlobEntryIndex) → IsIndexOf s p b es → ⊥

abbrev pub IndexIsJudged : Type 0
IndexIsJudged = (s : Sizes) (p : ℕ) (b : List ℕ) → Judges s p b

-- whatever the bytes and the failed offsets, the scan's walk is what the block lists
abbrev pub WalkIsListed : Type 0
WalkIsListed = (s : Sizes) (B : ℕ → ℕ) (failed : ℕ → Bool) → AreSizes s → Lists s B failed (list_of s B failed)

-- What a block lists: the entries of its chain of indices.
use Rattle.std.specs.Prelude.{◌≡◌, ℕ, ◌+◌, ◌%◌, ◌<◌, ◌≤◌, nat_le, if◌then◌else◌, Bool, false, List, [], ◌∷◌, ◌++◌}
use Rattle.foyer_format_layout.specs.Page.{page_up}
use Rattle.foyer_format_blob.specs.Blob.{IsSealed}
use Rattle.foyer_format_layout.specs.BlockBytes.{read}
use Rattle.foyer_format_layout.specs.Each.{Each}
use Rattle.foyer_format_layout.specs.Position.{Sizes}
use Rattle.foyer_format_blob.specs.declared.blob.BlobEntryIndex.{BlobEntryIndex}

-- the entry of an index at place p isn't empty, and lies behind the index, on a page, and within
-- the block
pub record Fits (s : Sizes) (p : ℕ) (e : BlobEntryIndex) : Type 0 where
  pub some : 0 < e.len
  pub behind : s.index ≤ e.offset
  pub aligned : e.offset % 4096 ≡ 0
  pub within : p + e.offset + page_up e.len ≤ s.block

-- At place p of a block of these bytes stands an index with these entries: there is room for it,
-- its read didn't fail, it is sealed, and each entry fits.
pub record IsIndex (s : Sizes) (B : ℕ → ℕ) (failed : ℕ → Bool) (p : ℕ) (es : List BlobEntryIndex)
    : Type 0 where
  pub room : p + s.index ≤ s.block
  pub came : failed p ≡ false
  pub sealed : IsSealed (read B p s.index) es
  pub fits : Each (Fits s p) es

-- the place behind the last record of an index; behind one without entries the block ends
abbrev pub behind : Sizes → ℕ → List BlobEntryIndex → ℕ
behind s p [] = p + s.block
behind s p (e ∷ []) = p + e.offset + page_up e.len
behind s p (e ∷ d ∷ es) = behind s p (d ∷ es)

-- the entries of an index at place p, with offsets from the block's start
abbrev pub placed : ℕ → List BlobEntryIndex → List BlobEntryIndex
placed p [] = []
placed p (e ∷ es) =
    record { hash = e.hash; sequence = e.sequence; offset = p + e.offset; len = e.len }
    ∷ placed p es

-- The chain of indices from a place on lists these entries. It ends at a place where no index
-- can be read.
pub data Chain (s : Sizes) (B : ℕ → ℕ) (failed : ℕ → Bool)
    : ℕ → List BlobEntryIndex → ℕ → Type 0 where
  ends : {p : ℕ} → ((es : List BlobEntryIndex) → IsIndex s B failed p es → ⊥)
      → Chain s B failed p [] p
  goes : {p q : ℕ} {es rest : List BlobEntryIndex} → IsIndex s B failed p es
      → Chain s B failed (behind s p es) rest q → Chain s B failed p (placed p es ++ rest) q

-- A block of these bytes lists these entries, if the reads of these places failed.
pub record Lists (s : Sizes) (B : ℕ → ℕ) (failed : ℕ → Bool) (es : List BlobEntryIndex)
    : Type 0 where
  pub end : ℕ
  pub chain : Chain s B failed 0 es end

-- the longest front in which no sequence is below the one before it, the first not below n
abbrev pub rising : ℕ → List BlobEntryIndex → List BlobEntryIndex
rising n [] = []
rising n (e ∷ es) = if nat_le n e.sequence then e ∷ rising e.sequence es else []

-- what recovery keeps of what a block lists
abbrev pub kept : List BlobEntryIndex → List BlobEntryIndex
kept es = rising 0 es

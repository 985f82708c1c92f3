-- What a filling of a block has put, as the front of what the block lists.
use Rattle.std.specs.Prelude.{◌≡◌, ℕ, ◌+◌, ◌%◌, ◌<◌, ◌≤◌, false, Bool, List, [], ◌∷◌, ◌++◌, length}
use Rattle.foyer_format_blob.specs.Blob.{IsSealed}
use Rattle.foyer_format_layout.specs.BlockBytes.{read}
use Rattle.foyer_format_layout.specs.Each.{Each}
use Rattle.foyer_format_layout.specs.Position.{Sizes, tail_of}
use Rattle.foyer_format_buffer.specs.Position.{Position}
use Rattle.foyer_format_buffer.specs.Listing.{Fits, IsIndex, behind, placed}
use Rattle.foyer_format_blob.specs.declared.blob.BlobEntryIndex.{BlobEntryIndex}

-- no read failed
abbrev pub all_read : ℕ → Bool
all_read p = false

-- From place p the chain begins with indices that list these, and comes to place q.
pub data Leads (s : Sizes) (B : ℕ → ℕ) : ℕ → List BlobEntryIndex → ℕ → Type 0 where
  here : {p : ℕ} → Leads s B p [] p
  over : {p q : ℕ} {e : BlobEntryIndex} {es rest : List BlobEntryIndex}
      → IsIndex s B all_read p (e ∷ es)
      → Leads s B (behind s p (e ∷ es)) rest q → Leads s B p (placed p (e ∷ es) ++ rest) q

-- In a block of these bytes the chain begins with what a filling has put so far: these entries.
pub record Holds (s : Sizes) (B : ℕ → ℕ) (f : Position) (es : List BlobEntryIndex) : Type 0 where
  pub before : List BlobEntryIndex  -- those of the blobs that were left
  pub front : Leads s B 0 before f.blob
  pub past : s.index ≤ f.at
  pub aligned : f.at % 4096 ≡ 0
  pub fits : Each (Fits s f.blob) f.listed
  pub room : 0 < length f.listed → f.blob + s.index ≤ s.block
  pub sealed : 0 < length f.listed → IsSealed (read B f.blob s.index) f.listed
  pub end : 0 < length f.listed → behind s f.blob f.listed ≡ tail_of f
  pub all : es ≡ before ++ placed f.blob f.listed

-- What the restart law asks of a core's rules and of its placing: the format of indices, and the splitter's relation.
use Rattle.std.specs.Prelude.{◌≡◌, ℕ, ◌+◌, ◌≤◌, List, [], ◌∷◌, ◌++◌, length, map, Some, None}
use Rattle.foyer_format_layout.specs.Position.{Sizes, fresh}
use Rattle.foyer_device_page.specs.Section.{Section, bytes_of}
use Rattle.foyer_format_layout.specs.Page.{page_up}
use Rattle.foyer_format_blob.specs.Blob.{IsSealed}
use Rattle.foyer_format_blob.specs.declared.blob.BlobEntryIndex.{BlobEntryIndex}
use Rattle.foyer_format_layout.specs.Each.{Each}
use Rattle.foyer_format_buffer.specs.Position as laid
use Rattle.foyer_format_buffer.specs.Fills.{AreSizes, Fills}
use Rattle.foyer_format_buffer.specs.Listing.{Fits}
use Rattle.foyer_format_buffer.specs.Stored.{stored_at}
use Rattle.foyer_format_buffer.specs.declared.BufferEntryInfo.{BufferEntryInfo}
use Rattle.foyer_format_buffer.specs.declared.split.BlobPart.{BlobPart}
use Rattle.foyer_core_model.specs.Record.{IndexEntry, Record}
use Rattle.foyer_format_layout.specs.BlockBytes.{Data, Index, with_zeros}
use Rattle.foyer_core_model.specs.Position.{Position, Part, BlockLayout}
use Rattle.foyer_core_model.specs.Layout.{AllFitBlock}
use Rattle.foyer_core_model.specs.Rules.{Rules, Splitting, sizes_of}
use Rattle.foyer_core_restart.specs.Entries.{entry_in, filled_to, stored}

-- the model's part is this part of a blob
pub record IsSamePart {A C : Type 0} (q : Part C) (p : BlobPart A) : Type 0 where
  pub blob : q.blob ≡ p.blob_block_offset
  pub at : q.at ≡ p.part_blob_offset
  pub content : q.content ≡ bytes_of p.part_data
  pub index : q.index ≡ p.index
  pub records : map stored q.records ≡ stored_at p.blob_block_offset p.part_blob_offset (bytes_of p.part_data) p.indices.items

-- these are those
abbrev pub AreSameParts : {A C : Type 0} → List (Part C) → List (BlobPart A) → Type 0
AreSameParts [] [] = Unit {0}
AreSameParts [] (p ∷ ps) = ⊥
AreSameParts (q ∷ qs) [] = ⊥
AreSameParts (q ∷ qs) (p ∷ ps) = IsSamePart q p × AreSameParts qs ps

-- block after block is filled as the splitter's relation says, the first from a filling on, the others from nothing
abbrev pub AreSpread : Type 0 → {C : Type 0} → Sizes → Section → (start : ℕ) → laid.Position → List BufferEntryInfo → List (BlockLayout C) → Type 0
AreSpread A s whole start f infos [] = Unit {0}
AreSpread A s whole start f infos (b ∷ bs) =
    (now : List BufferEntryInfo) × (later : List BufferEntryInfo) × (parts : List (BlobPart A)) × (infos ≡ now ++ later)
    × Fills s whole start f now parts (filled_to b.end) × AreSameParts b.parts parts
    × AreSpread A s whole (start + laid.taken now) (fresh s) later bs

-- a batch that is within its bytes, and whose records aren't empty and fit into a block, is so spread
pub record IsSpread (A : Type 0) {C : Type 0} (s : Sizes) (f : laid.Position) (blocks : List (BlockLayout C)) : Type 0 where
  pub whole : Section
  pub start : ℕ
  pub infos : List BufferEntryInfo
  pub room : start + laid.taken infos ≤ length (bytes_of whole)
  pub each : Each (laid.FitsBlock s) infos
  pub spread : AreSpread A s whole start f infos blocks

-- the rules are those of the real format: whole pages, each part's data, a page of zeros behind them if there is room, and
-- then its index, and what an index lists
pub record IsFormat {C : Type 0} (rules : Rules C) : Type 0 where
  pub sizes : AreSizes (sizes_of rules)
  pub pages : (n : ℕ) → rules.page_up n ≡ page_up n
  pub writes : (p : Part C) → rules.writes_of p
      ≡ record { role = Data; offset = p.blob + p.at; bytes = p.content }
      ∷ with_zeros rules.block_size (p.blob + p.at + length p.content) (record { role = Index; offset = p.blob; bytes = p.index } ∷ [])
  pub lists : (p : ℕ) (b : List ℕ) (es : List IndexEntry) → rules.entries_of p b ≡ Some es
      → IsSealed b (map entry_in es) × Each (Fits (sizes_of rules) p) (map entry_in es)
  pub ends : (p : ℕ) (b : List ℕ) (es : List BlobEntryIndex) → rules.entries_of p b ≡ None
      → IsSealed b es → Each (Fits (sizes_of rules) p) es → ⊥

-- and batches of records that fit into a block are placed by the real splitter's relation
pub record IsReal (A : Type 0) {C : Type 0} (rules : Rules C) (Splits : Splitting C) : Type 0 where
  pub format : IsFormat rules
  pub places : (f : Position) (records : List (Record C)) (blocks : List (BlockLayout C)) → AllFitBlock rules records → Splits f records blocks
      → IsSpread A (sizes_of rules) (filled_to f) blocks

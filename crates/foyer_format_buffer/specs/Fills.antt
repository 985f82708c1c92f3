-- What goes into one block, and what that makes of it.
use Rattle.std.specs.Prelude.{◌≡◌, ℕ, ◌+◌, ◌<◌, ◌≤◌, ◌%◌, List, [], ◌∷◌, ◌++◌, length, ◌⊎◌}
use Rattle.foyer_device_page.specs.Section.{Section, bytes_of}
use Rattle.foyer_format_blob.specs.Blob.{capacity_of}
use Rattle.foyer_format_layout.specs.BlockBytes.{Write, all_laid, AllWithin, Data, Index, with_zeros}
use Rattle.foyer_format_layout.specs.Each.{Each}
use Rattle.foyer_format_layout.specs.Position.{Sizes, fresh, next_blob, MayWrite}
use Rattle.foyer_format_buffer.specs.Position.{Position, taken, with_records}
use Rattle.foyer_format_buffer.specs.Layout.{IsPart}
use Rattle.foyer_format_buffer.specs.Stored.{Stored, stored_at, AllStand, AllOutside, AreRecords}
use Rattle.foyer_format_buffer.specs.declared.BufferEntryInfo.{BufferEntryInfo}
use Rattle.foyer_format_buffer.specs.declared.split.BlobPart.{BlobPart}

-- whole pages, an index, and room for data behind it
pub record AreSizes (s : Sizes) : Type 0 where
  pub pages : s.index % 4096 ≡ 0
  pub some : 0 < s.index
  pub order : s.index < s.block

module _ {A : Type 0} where
  -- the data of a part
  abbrev pub data_write : BlobPart A → Write
  data_write p =
      record { role = Data; offset = p.blob_block_offset + p.part_blob_offset; bytes = bytes_of p.part_data }

  -- the index of a part, at its blob's start
  abbrev pub index_write : BlobPart A → Write
  index_write p = record { role = Index; offset = p.blob_block_offset; bytes = p.index }

  -- where the data of a part end in the block
  abbrev pub data_end : BlobPart A → ℕ
  data_end p = p.blob_block_offset + p.part_blob_offset + length (bytes_of p.part_data)

  -- the writes of these parts into a block of so many bytes: of each its data, a page of zeros behind them if there is
  -- room, and then its index
  abbrev pub writes_of : ℕ → List (BlobPart A) → List Write
  writes_of n [] = []
  writes_of n (p ∷ ps) = data_write p ∷ with_zeros n (data_end p) (index_write p ∷ writes_of n ps)

  -- the records of these parts
  abbrev pub records_in : List (BlobPart A) → List Stored
  records_in [] = []
  records_in (p ∷ ps) =
      stored_at p.blob_block_offset p.part_blob_offset (bytes_of p.part_data) p.indices.items
      ++ records_in ps

  -- q comes behind the data of p, and so does its index, unless both are in one blob
  pub record ComesBehind (p q : BlobPart A) : Type 0 where
    pub content : data_end p ≤ q.blob_block_offset + q.part_blob_offset
    pub index : (q.blob_block_offset ≡ p.blob_block_offset) ⊎ (data_end p ≤ q.blob_block_offset)

  -- a part's data are within the block and behind its index, which has exactly its size
  pub record LiesWithin (s : Sizes) (p : BlobPart A) : Type 0 where
    pub size : length p.index ≡ s.index
    pub behind : s.index ≤ p.part_blob_offset
    pub within : data_end p ≤ s.block

  -- each part comes behind those before it
  abbrev pub InOrder : Sizes → List (BlobPart A) → Type 0
  InOrder s [] = Unit {0}
  InOrder s (p ∷ ps) = LiesWithin s p × Each (ComesBehind p) ps × InOrder s ps

  -- from a filling on, and from byte start of the batch on, these records go into these parts of
  -- one block, and a filling is left
  pub data Fills (s : Sizes) (whole : Section) : (start : ℕ) → Position → List BufferEntryInfo
      → List (BlobPart A) → Position → Type 0 where
    stays : {start : ℕ} {f : Position} → Fills s whole start f [] [] f
    part : {start : ℕ} {f g : Position} {now rest : List BufferEntryInfo} {p : BlobPart A}
        {parts : List (BlobPart A)}
        → IsPart s whole start f now p
        → Fills s whole (start + taken now) (with_records f now) rest parts g
        → Fills s whole start f (now ++ rest) (p ∷ parts) g
    blob : {start : ℕ} {f g : Position} {infos : List BufferEntryInfo} {parts : List (BlobPart A)}
        → length f.listed ≡ capacity_of s.index → Fills s whole start (next_blob s f) infos parts g
        → Fills s whole start f infos parts g

  -- one block after the other is filled, the first from f on and the others from nothing
  pub data Blocks (s : Sizes) (whole : Section) : (start : ℕ) → Position → List BufferEntryInfo
      → List (List (BlobPart A)) → Position → Type 0 where
    last : {start : ℕ} {f g : Position} {infos : List BufferEntryInfo} {parts : List (BlobPart A)}
        → Fills s whole start f infos parts g → Blocks s whole start f infos (parts ∷ []) g
    more : {start : ℕ} {f g h : Position} {now rest : List BufferEntryInfo}
        {parts : List (BlobPart A)} {blocks : List (List (BlobPart A))}
        → Fills s whole start f now parts h
        → Blocks s whole (start + taken now) (fresh s) rest blocks g
        → Blocks s whole start f (now ++ rest) (parts ∷ blocks) g

  -- What the parts of one block make of it. Nothing overlaps; every write falls behind all that the
  -- filling had, or into the index of its present blob, and so will later ones; after the writes,
  -- over any bytes, each record stands at its offset, and no later write falls into its pages.
  pub record IsLaid (s : Sizes) (whole : Section) (start : ℕ) (f : Position)
      (infos : List BufferEntryInfo) (parts : List (BlobPart A)) (g : Position) : Type 0 where
    pub order : InOrder s parts
    pub within : AllWithin (MayWrite s.index f) (writes_of s.block parts)
    pub shrinks : (o : ℕ) → MayWrite s.index g o → MayWrite s.index f o
    pub past : s.index ≤ g.at
    pub records : AreRecords (bytes_of whole) start infos (records_in parts)
    pub stand : (B : ℕ → ℕ) → AllStand (all_laid (writes_of s.block parts) B) (records_in parts)
    pub outside : AllOutside (MayWrite s.index g) (records_in parts)

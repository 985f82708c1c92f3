-- How the records of a batch are placed into blocks, blobs and parts.
use Rattle.std.specs.Prelude.{◌≡◌, ℕ, ◌+◌, ◌<◌, ◌≤◌, List, [], ◌∷◌, ◌++◌, length, map}
use Rattle.foyer_format_layout.specs.Page.{page_up}
use Rattle.foyer_device_page.specs.Section.{Section, part_of}
use Rattle.foyer_format_blob.specs.Blob.{IsSealed, capacity_of}
use Rattle.foyer_format_layout.specs.Position.{Sizes, tail_of, fresh, next_blob}
use Rattle.foyer_format_buffer.specs.Position.{Position, taken, entries_from, with_records}
use Rattle.foyer_format_buffer.specs.declared.BufferEntryInfo.{BufferEntryInfo}
use Rattle.foyer_format_buffer.specs.declared.split.BlobPart.{BlobPart}
use Rattle.foyer_format_buffer.specs.declared.split.Block.{Block}
use Rattle.foyer_format_buffer.specs.declared.split.Batch.{Batch}

-- what goes into a block
abbrev pub parts_of : {A : Type 0} → Block A → List (BlobPart A)
parts_of b = b.blob_parts.items

-- The part holds these records. Its data are the batch's bytes from start on, and stand behind all
-- that the filling has, within the block. Its index has exactly the size of an index, is sealed,
-- and lists all entries of its blob since the blob began.
pub record IsPart {A : Type 0} (s : Sizes) (whole : Section) (start : ℕ) (f : Position)
    (now : List BufferEntryInfo) (p : BlobPart A) : Type 0 where
  pub some : 0 < length now
  pub blob : p.blob_block_offset ≡ f.blob
  pub at : p.part_blob_offset ≡ f.at
  pub content : p.part_data ≡ part_of whole start (start + taken now)
  pub indices : p.indices.items ≡ entries_from f.at now
  pub index : IsSealed p.index (with_records f now).listed
  pub size : length p.index ≡ s.index
  pub within : tail_of f + taken now ≤ s.block

-- LaidOut: from a filling of a block on, and from byte start of the batch on, the records are placed
-- into these parts of the block and into these further blocks, and a filling is left.
-- Left says the same if the present part takes no more of the batch.
mutual
  pub data LaidOut {A : Type 0} (s : Sizes) (whole : Section) : (start : ℕ) → Position
      → List BufferEntryInfo → List (BlobPart A) → List (List (BlobPart A)) → Position → Type 0 where
    -- the next records make a part
    part : {start : ℕ} {f g : Position} {now rest : List BufferEntryInfo} {p : BlobPart A}
        {parts : List (BlobPart A)} {blocks : List (List (BlobPart A))}
        → IsPart s whole start f now p
        → Left s whole (start + taken now) (with_records f now) rest parts blocks g
        → LaidOut s whole start f (now ++ rest) (p ∷ parts) blocks g
    -- no record goes there
    none : {start : ℕ} {f g : Position} {infos : List BufferEntryInfo} {parts : List (BlobPart A)}
        {blocks : List (List (BlobPart A))}
        → Left s whole start f infos parts blocks g → LaidOut s whole start f infos parts blocks g

  pub data Left {A : Type 0} (s : Sizes) (whole : Section) : (start : ℕ) → Position
      → List BufferEntryInfo → List (BlobPart A) → List (List (BlobPart A)) → Position → Type 0 where
    -- the batch ends, and the next one goes on in the same blob
    done : {start : ℕ} {f : Position} → length f.listed < capacity_of s.index
        → Left s whole start f [] [] [] f
    -- a blob is left if its index is full
    blob : {start : ℕ} {f g : Position} {infos : List BufferEntryInfo} {parts : List (BlobPart A)}
        {blocks : List (List (BlobPart A))}
        → length f.listed ≡ capacity_of s.index
        → LaidOut s whole start (next_blob s f) infos parts blocks g
        → Left s whole start f infos parts blocks g
    -- a block is left if the next record doesn't fit in it
    block : {start : ℕ} {f g : Position} {i : BufferEntryInfo} {infos : List BufferEntryInfo}
        {parts : List (BlobPart A)} {blocks : List (List (BlobPart A))}
        → length f.listed < capacity_of s.index → s.block < tail_of f + page_up i.len
        → LaidOut s whole start (fresh s) (i ∷ infos) parts blocks g
        → Left s whole start f (i ∷ infos) [] (parts ∷ blocks) g

-- the same of all blocks of a batch, of which there is at least one
abbrev pub Places : {A : Type 0} → Sizes → Section → Position → List BufferEntryInfo
    → List (List (BlobPart A)) → Position → Type 0
Places s whole f infos [] g = ⊥
Places s whole f infos (parts ∷ blocks) g = LaidOut s whole 0 f infos parts blocks g

-- from the filling f on, the batch places these records, and the filling g is left
pub record IsLaidOut {A : Type 0} (s : Sizes) (whole : Section) (infos : List BufferEntryInfo)
    (f : Position) (b : Batch A) (g : Position) : Type 0 where
  pub bytes : b.bytes ≡ whole
  pub placed : Places s whole f infos (map parts_of b.blocks.items) g

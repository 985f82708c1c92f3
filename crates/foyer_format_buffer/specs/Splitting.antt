-- What a splitter keeps while it goes over the records of a batch.
use Rattle.std.specs.Prelude.{◌≡◌, ℕ, ◌+◌, ◌<◌, ◌≤◌, List, [], ◌∷◌, ◌++◌, length, map}
use Rattle.foyer_device_page.specs.Section.{Section}
use Rattle.foyer_format_blob.specs.Blob.{capacity_of}
use Rattle.foyer_format_blob.specs.OpenIndex.{entries_of}
use Rattle.foyer_format_layout.specs.Position.{Sizes}
use Rattle.foyer_format_buffer.specs.Position.{Position, Context, taken, entries_from}
use Rattle.foyer_format_buffer.specs.Layout.{LaidOut, Left, Places, parts_of}
use Rattle.foyer_format_buffer.specs.declared.BufferEntryInfo.{BufferEntryInfo}
use Rattle.foyer_format_buffer.specs.declared.split.BlobPart.{BlobPart}
use Rattle.foyer_format_buffer.specs.declared.split_progress.SplitProgress.{SplitProgress}

module _ {A : Type 0} where
  abbrev pub sizes_of : SplitProgress A → Sizes
  sizes_of w = record { block = w.block_size; index = w.index_size }

  abbrev pub position_of : SplitProgress A → Position
  position_of w = record { blob = w.blob; at = w.at; listed = entries_of w.index }

  -- the batch's blocks, if these parts and blocks follow
  abbrev pub blocks_with : SplitProgress A → List (BlobPart A) → List (List (BlobPart A))
      → List (List (BlobPart A))
  blocks_with w parts blocks = map parts_of w.blocks.items ++ (w.parts.items ++ parts) ∷ blocks

  -- Whatever places the collected records and the rest completes the batch.
  pub record Going (whole : Section) (f0 : Position) (all : List BufferEntryInfo) (w : SplitProgress A)
      (rest : List BufferEntryInfo) : Type 0 where
    pub f : Position
    pub now : List BufferEntryInfo
    pub goes : (parts : List (BlobPart A)) (blocks : List (List (BlobPart A))) (g : Position)
        → LaidOut (sizes_of w) whole w.start f (now ++ rest) parts blocks g
        → Places (sizes_of w) whole f0 all (blocks_with w parts blocks) g
    pub blob : f.blob ≡ w.blob
    pub at : f.at ≡ w.at
    pub size : taken now ≡ w.size
    pub indices : w.indices.items ≡ entries_from w.at now
    pub listed : entries_of w.index ≡ f.listed ++ w.indices.items
    pub within : 0 < length now → w.blob + w.at + w.size ≤ w.block_size

  -- The same holds if no record is collected, and the present part takes no more.
  pub record Closed (whole : Section) (f0 : Position) (all : List BufferEntryInfo) (w : SplitProgress A)
      (rest : List BufferEntryInfo) : Type 0 where
    pub f : Position
    pub goes : (parts : List (BlobPart A)) (blocks : List (List (BlobPart A))) (g : Position)
        → Left (sizes_of w) whole w.start f rest parts blocks g
        → Places (sizes_of w) whole f0 all (blocks_with w parts blocks) g
    pub blob : f.blob ≡ w.blob
    pub at : f.at ≡ w.at
    pub listed : entries_of w.index ≡ f.listed
    pub none : w.indices.items ≡ []
    pub size : w.size ≡ 0

  -- the sizes stay, and so many bytes more were taken
  pub record Moves (bytes : ℕ) (old new : SplitProgress A) : Type 0 where
    pub block_size : new.block_size ≡ old.block_size
    pub index_size : new.index_size ≡ old.index_size
    pub sum : new.start + new.size ≡ old.start + old.size + bytes

  -- a split begins where the context says, and nothing is collected
  pub record IsBegun (c : Context) (w : SplitProgress A) : Type 0 where
    pub sizes : sizes_of w ≡ c.sizes
    pub filling : position_of w ≡ c.filling
    pub start : w.start ≡ 0
    pub size : w.size ≡ 0
    pub indices : w.indices.items ≡ []
    pub parts : w.parts.items ≡ []
    pub blocks : w.blocks.items ≡ []
    pub room : w.index.count < capacity_of w.index_size

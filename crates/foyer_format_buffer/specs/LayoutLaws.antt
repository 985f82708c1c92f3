-- What holds of every placing, in the order in which a reader needs it.
use Rattle.std.specs.Prelude.{◌≡◌, ℕ, ◌+◌, ◌<◌, ◌≤◌, Bool, List, [], ◌++◌, length, map, All}
use Rattle.foyer_device_page.specs.Section.{Section, bytes_of}
use Rattle.foyer_format_layout.specs.BlockBytes.{all_laid}
use Rattle.foyer_format_layout.specs.Each.{Each}
use Rattle.foyer_format_buffer.specs.Entries.{Entries, IsFinished, IsPacked, entries_at}
use Rattle.foyer_format_layout.specs.Position.{Sizes, fresh}
use Rattle.foyer_format_buffer.specs.Position.{Position, FitsBlock, taken}
use Rattle.foyer_format_buffer.specs.Fills.{AreSizes, writes_of, records_in, Fills, Blocks, IsLaid}
use Rattle.foyer_format_buffer.specs.Stored.{Stored, AreRecords, content_of, entry_of}
use Rattle.foyer_format_buffer.specs.Holding.{all_read, Holds}
use Rattle.foyer_format_buffer.specs.Listing.{Lists}
use Rattle.foyer_format_buffer.specs.Layout.{IsLaidOut, parts_of}
use Rattle.foyer_format_buffer.specs.declared.BufferEntryInfo.{BufferEntryInfo}
use Rattle.foyer_format_blob.specs.declared.blob.BlobEntryIndex.{BlobEntryIndex}
use Rattle.foyer_format_buffer.specs.declared.split.BlobPart.{BlobPart}
use Rattle.foyer_format_buffer.specs.declared.split.Batch.{Batch}

-- a block lists one list at most
abbrev pub OneList : Type 0
OneList =
    (s : Sizes) (B : ℕ → ℕ) (failed : ℕ → Bool) (xs ys : List BlobEntryIndex)
    → Lists s B failed xs → Lists s B failed ys → xs ≡ ys

-- what a buffer has finished may be split, if no entry is empty and a block has room for the
-- greatest
abbrev pub FinishedFits : Type 0
FinishedFits =
    (s : Sizes) (b : Entries) (bytes : List ℕ) (infos : List BufferEntryInfo)
    → IsFinished b bytes infos → s.index + b.greatest ≤ s.block
    → Each (λ e. 0 < length e.bytes) b.entries
    → All (FitsBlock s) infos × Each (FitsBlock s) infos

-- a batch is one block after the other; the first continues where the context was
abbrev pub BatchIsBlocks : Type 0 → Type 0
BatchIsBlocks A =
    (s : Sizes) (whole : Section) (infos : List BufferEntryInfo) (f g : Position) (b : Batch A)
    → IsLaidOut s whole infos f b g → Blocks s whole 0 f infos (map parts_of b.blocks.items) g

-- the parts of a block overlap nothing, and their records are stored where their indices say
abbrev pub BlockIsLaid : Type 0 → Type 0
BlockIsLaid A =
    (s : Sizes) (whole : Section) (start : ℕ) (f g : Position)
    (infos : List BufferEntryInfo) (parts : List (BlobPart A))
    → s.index ≤ f.at → start + taken infos ≤ length (bytes_of whole)
    → Fills s whole start f infos parts g → IsLaid s whole start f infos parts g

-- the records of a batch that stand in blocks are the entries of the buffer that it came from
abbrev pub RecordsAreEntries : Type 0
RecordsAreEntries =
    (whole : List ℕ) (start : ℕ) (infos : List BufferEntryInfo) (records : List Stored)
    → IsPacked start infos → AreRecords whole start infos records
    → map content_of records ≡ entries_at whole infos

-- a new filling holds nothing, whatever the block's bytes are
abbrev pub FreshHolds : Type 0
FreshHolds = (s : Sizes) (B : ℕ → ℕ) → AreSizes s → Holds s B (fresh s) []

-- once the parts of a block are written, it holds their records behind what it held
abbrev pub WrittenHolds : Type 0 → Type 0
WrittenHolds A =
    (s : Sizes) (whole : Section) (B : ℕ → ℕ) (start : ℕ) (f g : Position) (es : List BlobEntryIndex)
    (infos : List BufferEntryInfo) (parts : List (BlobPart A))
    → AreSizes s → start + taken infos ≤ length (bytes_of whole) → Each (FitsBlock s) infos
    → Fills s whole start f infos parts g → Holds s B f es
    → Holds s (all_laid (writes_of s.block parts) B) g (es ++ map entry_of (records_in parts))

-- a block lists first what it holds, in order
abbrev pub HeldIsListed : Type 0
HeldIsListed =
    (s : Sizes) (B : ℕ → ℕ) (f : Position) (es all : List BlobEntryIndex)
    → Holds s B f es → Lists s B all_read all → (rest : List BlobEntryIndex) × (all ≡ es ++ rest)

-- once records were written into a block, it lists what it holds and nothing behind it, whatever its bytes were
abbrev pub WrittenEnds : Type 0 → Type 0
WrittenEnds A =
    (s : Sizes) (whole : Section) (B : ℕ → ℕ) (start : ℕ) (f g : Position) (es all : List BlobEntryIndex)
    (infos : List BufferEntryInfo) (parts : List (BlobPart A))
    → AreSizes s → start + taken infos ≤ length (bytes_of whole) → Each (FitsBlock s) infos
    → Fills s whole start f infos parts g → 0 < length infos → Holds s B f es
    → Lists s (all_laid (writes_of s.block parts) B) all_read all → all ≡ es ++ map entry_of (records_in parts)

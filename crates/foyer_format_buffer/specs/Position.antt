-- How far a block is filled, and the entries of records that stand one behind another.
use Rattle.std.specs.Prelude.{ℕ, ◌+◌, ◌<◌, ◌≤◌, List, [], ◌∷◌, ◌++◌}
use Rattle.foyer_format_layout.specs.Page.{page_up}
use Rattle.foyer_format_layout.specs.Position as layout
use Rattle.foyer_format_layout.specs.Position.{Sizes, fresh}
use Rattle.foyer_format_buffer.specs.declared.BufferEntryInfo.{BufferEntryInfo}
use Rattle.foyer_format_blob.specs.declared.blob.BlobEntryIndex.{BlobEntryIndex}

-- how far a filling of a block has come
abbrev pub Position : Type 0
Position = layout.Position BlobEntryIndex

-- where a splitter continues
pub record Context : Type 0 where
  pub sizes : Sizes
  pub filling : Position

-- at the start of a block
abbrev pub fresh_context : Sizes → Context
fresh_context s = record { sizes = s; filling = fresh s }

-- how many bytes records take, each padded to whole pages
unfoldable pub taken : List BufferEntryInfo → ℕ
taken [] = 0
taken (i ∷ is) = page_up i.len + taken is

-- the entries of records that stand one behind another, the first at this offset
unfoldable pub entries_from : ℕ → List BufferEntryInfo → List BlobEntryIndex
entries_from at [] = []
entries_from at (i ∷ is) =
    record { hash = i.hash; sequence = i.sequence; offset = at; len = i.len }
    ∷ entries_from (at + page_up i.len) is

-- the filling with these records behind it
abbrev pub with_records : Position → List BufferEntryInfo → Position
with_records f now =
    record { blob = f.blob; at = f.at + taken now; listed = f.listed ++ entries_from f.at now }

-- the record isn't empty, and fits into a block into which nothing was written
pub record FitsBlock (s : Sizes) (i : BufferEntryInfo) : Type 0 where
  pub some : 0 < i.len
  pub room : s.index + page_up i.len ≤ s.block

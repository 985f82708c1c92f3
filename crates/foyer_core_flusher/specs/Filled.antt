-- The records that a flusher received: in pages that are still written into, or in pages that may have several owners.
use Rattle.std.specs.Prelude.{◌≡◌, ℕ, ◌+◌, ◌≤◌, ◌<◌, List, [], length}
use Rattle.foyer_format_layout.specs.Each.{Each}
use Rattle.foyer_format_buffer.specs.Entries.{Entry, Entries, IsPacked, EachTakes, IsFinished, entries_at, left_of}
use Rattle.foyer_format_layout.specs.Position.{Sizes}
use Rattle.foyer_format_buffer.specs.Position.{Position, taken}
use Rattle.foyer_format_buffer.specs.Layout.{IsLaidOut}
use Rattle.foyer_format_buffer.specs.declared.BufferEntryInfo.{BufferEntryInfo}
use Rattle.foyer_format_buffer.specs.declared.split.Batch.{Batch}
use Rattle.foyer_device_page.specs.Section.{Section, bytes_of, all_of}
use Rattle.foyer_format_layout.specs.Page.{page_up}
use Rattle.foyer_core_flusher.specs.declared.filled.State.{State}
use Rattle.foyer_core_flusher.specs.declared.filled.State.TheVariants as state

-- no entry is empty
abbrev pub AreSome : List Entry → Type 0
AreSome entries = Each (λ e. 0 < length e.bytes) entries

-- there is room for a record whose value and key take n bytes together
pub record HasRoom (b : Entries) (n : ℕ) : Type 0 where
  pub room : 36 + n ≤ left_of b
  pub greatest : page_up (36 + n) ≤ b.greatest

-- there is room for a record of n bytes, which are some
pub record HasRoomFor (b : Entries) (n : ℕ) : Type 0 where
  pub some : 0 < n
  pub room : page_up n ≤ left_of b
  pub greatest : page_up n ≤ b.greatest

-- the entries stand as these infos say, and none takes more than it may
pub record AreShared (greatest : ℕ) (bytes : Section) (infos : List BufferEntryInfo) : Type 0 where
  pub packed : IsPacked 0 infos
  pub within : taken infos ≤ length (bytes_of bytes)
  pub each : EachTakes greatest infos

-- the pages are all of a buffer with this room, into which so many bytes were written
pub record IsFull (room greatest : ℕ) (bytes : Section) (infos : List BufferEntryInfo) (written : ℕ) : Type 0 where
  pub all : bytes ≡ all_of bytes.whole
  pub size : length bytes.whole ≡ room
  pub shared : AreShared greatest bytes infos
  pub count : taken infos ≡ written

-- the entries in pages that may have several owners
pub record IsShared (b : Entries) (whole : Section) (infos : List BufferEntryInfo) : Type 0 where
  pub shared : AreShared b.greatest whole infos
  pub entries : entries_at (bytes_of whole) infos ≡ b.entries
  pub some : AreSome b.entries

module _ {A : Type 0} where
  abbrev pub entries_in : State A → List Entry
  entries_in state.Empty = []
  entries_in (state.Open buffer) = buffer.entries
  entries_in (state.Full bytes infos written) = entries_at (bytes_of bytes) infos.items

  abbrev pub IsState : (room greatest : ℕ) → State A → Type 0
  IsState room greatest state.Empty = Unit {0}
  IsState room greatest (state.Open buffer) = (buffer.room ≡ room) × (buffer.greatest ≡ greatest)
  IsState room greatest (state.Full bytes infos written) = IsFull room greatest bytes infos.items written

  -- these entries were split, from this position of a block to that one
  pub record WasSplit (b : Entries) (s : Sizes) (f g : Position) (batch : Batch A) : Type 0 where
    pub bytes : List ℕ
    pub whole : Section
    pub infos : List BufferEntryInfo
    pub same : bytes_of whole ≡ bytes
    pub finished : IsFinished (record b { room = length bytes }) bytes infos
    pub laid : IsLaidOut s whole infos f batch g
    pub some : AreSome b.entries

-- What holds of every placing of the plain machine's records.
use Rattle.std.specs.Prelude.{◌≡◌, ◌+◌, ◌%◌, ◌^◌, ◌≤◌, ◌↔◌, ℕ, List, map, length}
use Rattle.foyer_format_layout.specs.Each.{Each}
use Rattle.foyer_format_buffer.specs.Entries.{Entries, IsFinished, left_of}
use Rattle.foyer_format_layout.specs.Position.{Sizes}
use Rattle.foyer_format_buffer.specs.Position as buffered
use Rattle.foyer_format_buffer.specs.Layout.{IsLaidOut as IsCodeLayout, parts_of}
use Rattle.foyer_format_buffer.specs.declared.BufferEntryInfo.{BufferEntryInfo}
use Rattle.foyer_format_buffer.specs.declared.split.Batch.{Batch}
use Rattle.foyer_device_page.specs.Section.{Section, bytes_of}
use Rattle.foyer_format_layout.specs.Page.{page_up}
use Rattle.foyer_core_model.specs.Position.{Position, BlockLayout, last_end}
use Rattle.foyer_core_model.specs.Layout.{KeepsRecords, PlacesAll}
use Rattle.foyer_core_model.specs.Receive.{Fits}
use Rattle.foyer_core_model.specs.Record.{Record}
use Rattle.foyer_core_model.specs.Rules.{Rules, sizes_of}
use Rattle.foyer_core_model.specs.State.{State, Flusher}
use Rattle.foyer_core_layout.specs.Bridge.{position_of, kept_of, AreBlocksAs}
use Rattle.foyer_core_layout.specs.Splits.{MayGoOn, IsLaidOut, AreRules, LiesWithin}

-- after a placing's writes, over any bytes, each record is stored where it was placed, and no later write falls into its pages
abbrev pub KeepsAll : Type 0 → Type 0
KeepsAll C = (rules : Rules C) → AreRules rules → KeepsRecords rules (IsLaidOut (sizes_of rules))

-- records that fit into a block can be placed from each position at which a batch may begin, if offsets have 32 bits
abbrev pub PlacesEach : Type 0 → Type 0
PlacesEach C = (rules : Rules C) → AreRules rules → rules.block_size ≤ 2 ^ 32 → PlacesAll rules (IsLaidOut (sizes_of rules))

-- a placing leaves a filling from which another may go on
abbrev pub GoesOn : Type 0 → Type 0
GoesOn C = (s : Sizes) (f : Position) (rs : List (Record C)) (spreads : List (BlockLayout C))
    → IsLaidOut s f rs spreads → MayGoOn s (last_end f spreads)

-- what was made of a split batch in plain words
pub record IsLaidAs {C A : Type 0} (s : Sizes) (f g : Position) (rs : List (Record C)) (batch : Batch A) : Type 0 where
  pub spreads : List (BlockLayout C)
  pub laid : IsLaidOut s f rs spreads
  pub are : AreBlocksAs (map parts_of batch.blocks.items) spreads
  pub last : last_end f spreads ≡ g

-- A buffer's batch that was split is a placing of the buffer's records, block by block and part by part.
abbrev pub BatchIsLaidOut : Type 0 → Type 0 → Type 0
BatchIsLaidOut C A =
    (s : Sizes) (b : Entries) (bytes : List ℕ) (infos : List BufferEntryInfo) (whole : Section) (f g : buffered.Position)
    (batch : Batch A) (rs : List (Record C))
    → IsFinished b bytes infos → bytes_of whole ≡ bytes → map kept_of rs ≡ b.entries → s.index ≤ f.at
    → IsCodeLayout s whole infos f batch g → IsLaidAs s (position_of f) (position_of g) rs batch

-- A record of 36 bytes and n more fits into the buffer exactly if the plain machine says so. That is, it fits into the room that is left of
-- the buffer, and into a block.
abbrev pub FitsAgree : Type 0 → Type 0
FitsAgree C =
    (rules : Rules C) (old : State C) (φ : Flusher C) (b : Entries) (n : ℕ) (bytes : List ℕ)
    → AreRules rules → b.room ≡ rules.room φ.context → b.room % 4096 ≡ 0 → rules.index_size + b.greatest ≡ rules.block_size
    → map kept_of φ.buffer ≡ b.entries → length bytes ≡ 36 + n
    → ((36 + n ≤ left_of b) × (page_up (36 + n) ≤ b.greatest)) ↔ Fits rules old φ bytes

-- what goes into a block lies within it
abbrev pub AllWithin : Type 0 → Type 0
AllWithin C = (s : Sizes) (f : Position) (rs : List (Record C)) (spreads : List (BlockLayout C))
    → IsLaidOut s f rs spreads → Each (LiesWithin s.block) spreads

-- The splitter's relation as a placing of the model.
use Rattle.std.specs.Prelude.{◌≡◌, ◌≢◌, ℕ, ◌+◌, ◌≤◌, List, [], ◌∷◌, length, map, take, drop}
use Rattle.foyer_format_layout.specs.Position.{Sizes}
use Rattle.foyer_device_page.specs.Section.{Section, bytes_of}
use Rattle.foyer_format_layout.specs.Page.{page_up}
use Rattle.foyer_format_layout.specs.Each.{Each}
use Rattle.foyer_format_buffer.specs.Position as laid
use Rattle.foyer_format_buffer.specs.Layout.{IsLaidOut, parts_of}
use Rattle.foyer_format_buffer.specs.declared.BufferEntryInfo.{BufferEntryInfo}
use Rattle.foyer_format_buffer.specs.declared.split.BlobPart.{BlobPart}
use Rattle.foyer_format_buffer.specs.declared.split.Batch.{Batch}
use Rattle.foyer_core_model.specs.Record.{Record}
use Rattle.foyer_core_model.specs.Position.{Position, BlockLayout, records_of, last_end}
use Rattle.foyer_core_model.specs.Rules.{Rules, HasRoundTrip, sizes_of}
use Rattle.foyer_core_restart.specs.Entries.{filled_to}
use Rattle.foyer_core_restart.specs.Real.{AreSameParts, AreSpread, IsFormat}
use Rattle.foyer_core_restart.specs.Restart.{FindsAgain, FindsAll}

-- these records stand in a batch's bytes one behind another, as these say
abbrev pub AreBuffered : {C : Type 0} → List ℕ → (start : ℕ) → List BufferEntryInfo → List (Record C) → Type 0
AreBuffered whole start [] [] = Unit {0}
AreBuffered whole start [] (r ∷ rs) = ⊥
AreBuffered whole start (i ∷ is) [] = ⊥
AreBuffered whole start (i ∷ is) (r ∷ rs) =
    (r.hash ≡ i.hash) × (r.sequence ≡ i.sequence) × (r.bytes ≡ take i.len (drop start whole)) × AreBuffered whole (start + page_up i.len) is rs

-- the model's blocks have the parts of these
abbrev pub AreSameBlocks : {A C : Type 0} → List (BlockLayout C) → List (List (BlobPart A)) → Type 0
AreSameBlocks [] [] = Unit {0}
AreSameBlocks [] (ps ∷ pss) = ⊥
AreSameBlocks (b ∷ bs) [] = ⊥
AreSameBlocks (b ∷ bs) (ps ∷ pss) = AreSameParts b.parts ps × AreSameBlocks bs pss

-- what a buffer has finished: records that aren't empty, fit into a block, and stand in its bytes
pub record IsBuffer {C : Type 0} (s : Sizes) (whole : Section) (infos : List BufferEntryInfo) (records : List (Record C)) : Type 0 where
  pub room : laid.taken infos ≤ length (bytes_of whole)
  pub each : Each (laid.FitsBlock s) infos
  pub are : AreBuffered (bytes_of whole) 0 infos records

-- From a filling on, these records are placed into these blocks as a batch of the splitter is, whose parts they have.
pub record IsRealSplit (A : Type 0) {C : Type 0} (rules : Rules C) (f : Position) (records : List (Record C)) (blocks : List (BlockLayout C)) : Type 0 where
  pub whole : Section
  pub infos : List BufferEntryInfo
  pub batch : Batch A
  pub end : laid.Position
  pub past : rules.index_size ≤ f.at
  pub buffer : IsBuffer (sizes_of rules) whole infos records
  pub placed : IsLaidOut (sizes_of rules) whole infos (filled_to f) batch end
  pub same : AreSameBlocks blocks (map parts_of batch.blocks.items)
  pub spread : AreSpread A (sizes_of rules) whole 0 (filled_to f) infos blocks
  pub all : records_of blocks ≡ records
  pub some : blocks ≢ []

-- whatever the splitter places has such blocks, and they end at the position from which the splitter goes on
abbrev pub SplitIsReal : Type 0 → {C : Type 0} → Rules C → Type 0
SplitIsReal A {C} rules =
    (whole : Section) (infos : List BufferEntryInfo) (records : List (Record C)) (f : Position) (batch : Batch A) (end : laid.Position)
    → rules.index_size ≤ f.at → IsBuffer (sizes_of rules) whole infos records → IsLaidOut (sizes_of rules) whole infos (filled_to f) batch end
    → (blocks : List (BlockLayout C)) × IsRealSplit A rules f records blocks × (filled_to (last_end f blocks) ≡ end)

-- The restart law of cores whose format is the real one and whose batches the splitter places.
abbrev pub RealRestartLaw : Type 0 → {C : Type 0} → Rules C → (C → Type 0) → Type 0
RealRestartLaw A rules is_value = IsFormat rules → HasRoundTrip rules is_value → FindsAgain rules (IsRealSplit A rules) is_value

abbrev pub RealIdleLaw : Type 0 → {C : Type 0} → Rules C → (C → Type 0) → Type 0
RealIdleLaw A rules is_value = IsFormat rules → HasRoundTrip rules is_value → FindsAll rules (IsRealSplit A rules) is_value

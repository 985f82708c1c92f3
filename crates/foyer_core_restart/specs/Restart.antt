-- What an opening finds after a run that was stopped at any moment.
use Rattle.std.specs.Prelude.{◌≡◌, ◌≢◌, ℕ, ◌<◌, Bool, true, false, List, [], ◌∷◌, length, Some, None, ◌⊎◌}
use Rattle.foyer_format_blob.specs.declared.blob.BlobEntryIndex.{BlobEntryIndex}
use Rattle.foyer_format_layout.specs.BlockBytes.{read, Index, Write}
use Rattle.foyer_format_layout.specs.Position.{Sizes}
use Rattle.foyer_format_buffer.specs.Holding.{all_read}
use Rattle.foyer_format_buffer.specs.Listing.{IsIndex, behind}
use Rattle.foyer_core_model.specs.Record.{Address, Indexed, Record}
use Rattle.foyer_core_model.specs.State.{Writing, Batch, State}
use Rattle.foyer_core_model.specs.Rules.{Rules, Splitting, sizes_of}
use Rattle.foyer_core_model.specs.Step.{ReadResult, Bytes, Fault, Step, FlushWrote, ReclaimRead}
use Rattle.foyer_core_model.specs.Reply.{Reply, Failed, Scans, Listed}
use Rattle.foyer_core_model.specs.World.{World, WorldEvent, Applies, ScanEnds, WriteEnds, covers, MayAllHappen, after_all}
use Rattle.foyer_core_model.specs.Opened.{IsOpened}
use Rattle.foyer_core_model.specs.Laws.{Demands}
use Rattle.foyer_core_restart.specs.Entries.{In}
use Rattle.foyer_core_restart.specs.Real.{IsReal}
use Rattle.foyer_block_recover.specs.Opening.{Opened, Opens}
use Rattle.foyer_block_recover.specs.declared.block.recover.RecoverMode.{RecoverMode}
use Rattle.foyer_block_recover.specs.declared.block.recover.RecoverMode.TheVariants as recover_mode

-- the runs of which the law speaks

-- a filter that reinserts nothing
abbrev pub AllRefused : List Bool → Type 0
AllRefused [] = Unit {0}
AllRefused (true ∷ vs) = ⊥
AllRefused (false ∷ vs) = AllRefused vs

-- what was read is brought
abbrev pub IsBytes : ReadResult → Type 0
IsBytes (Bytes bs) = Unit {0}
IsBytes Fault = ⊥

-- a block that was written is committed, and a reclaim is brought what it read, and queues nothing for reinsertion
abbrev pub StepGoesWell : {C : Type 0} → Step C → Reply C → Type 0
StepGoesWell (FlushWrote f ok) Failed = ⊥
StepGoesWell (ReclaimRead b came) (Scans d o n verdicts) = IsBytes came × AllRefused verdicts
StepGoesWell (ReclaimRead b came) (Listed verdicts) = IsBytes came × AllRefused verdicts
StepGoesWell step reply = Unit {0}

-- so, and writes and the reads of reclaims succeed; loads and cleans may fail
abbrev pub GoesWell : {C : Type 0} → WorldEvent C → Type 0
GoesWell (Applies step reply new) = StepGoesWell step reply
GoesWell (ScanEnds b Fault) = ⊥
GoesWell (WriteEnds f ok torn) = ok ≡ true
GoesWell event = Unit {0}

-- of each event
abbrev pub AllGoWell : {C : Type 0} → List (WorldEvent C) → Type 0
AllGoWell [] = Unit {0}
AllGoWell (e ∷ es) = GoesWell e × AllGoWell es

-- a run of a core that was opened over blocks in which nothing was found, stopped after these events
pub record IsRun {C : Type 0} (rules : Rules C) (Splits : Splitting C) (is_value : C → Type 0) (w : World C) : Type 0 where
  pub first : World C
  pub events : List (WorldEvent C)
  pub opened : IsOpened rules first
  pub empty : (h : ℕ) → first.core.index h ≡ None
  pub happened : MayAllHappen rules Splits is_value first events
  pub well : AllGoWell events
  pub is : after_all rules first events ≡ w

-- the bytes at the stop

-- The bytes are those that the writes left, except where a write or a clean is under way. There any bytes may be stored.
abbrev pub IsStopped : {C : Type 0} → Rules C → World C → (ℕ → ℕ → ℕ) → Type 0
IsStopped rules w bytes = (b o : ℕ) → covers rules w b o ≡ false → bytes b o ≡ w.bytes b o

-- from a place on, a scan of these bytes comes to another one
pub data IsScanned (s : Sizes) (B : ℕ → ℕ) : ℕ → ℕ → Type 0 where
  here : {p : ℕ} → IsScanned s B p p
  later : {p q : ℕ} {es : List BlobEntryIndex} → IsIndex s B all_read p es → IsScanned s B (behind s p es) q → IsScanned s B p q

-- Bytes at a scanned place that pass as an index are the whole content of a write of an index that the run made or began
-- there.
abbrev pub HasNoStrays : {C : Type 0} → Rules C → World C → (ℕ → ℕ → ℕ) → Type 0
HasNoStrays rules w bytes =
    (b p : ℕ) (es : List BlobEntryIndex) → b < rules.blocks → IsScanned (sizes_of rules) (bytes b) 0 p → IsIndex (sizes_of rules) (bytes b) all_read p es
    → (v : Write) × In (b, v) w.begun_writes × (v.role ≡ Index) × (v.offset ≡ p) × (v.bytes ≡ read (bytes b) p rules.index_size)

-- what is found

-- a flusher's batch writes these records into its block, and the last of the writes wasn't reported yet
abbrev pub IsWriting : {C : Type 0} → State C → (flusher : ℕ) → Writing C → Type 0
IsWriting {C} core f r = (batch : Batch C) × ((core.flushers f).batch ≡ Some batch) × (batch.writing ≡ Some r)

-- the block is being written
abbrev pub IsBeingWritten : {C : Type 0} → State C → ℕ → Type 0
IsBeingWritten {C} core b = (f : ℕ) × (r : Writing C) × IsWriting core f r × (r.block ≡ b)

-- at this address the run had wholly written a record of the hash, of the block that is being written there
pub record IsWhole {C : Type 0} (w : World C) (bytes : ℕ → ℕ → ℕ) (h : ℕ) (x : Address) : Type 0 where
  pub flusher : ℕ
  pub writing : Writing C
  pub content : Record C
  pub is_writing : IsWriting w.core flusher writing
  pub block : writing.block ≡ x.block
  pub among : In (x.offset, content) writing.records
  pub hash : content.hash ≡ h
  pub sequence : content.sequence ≡ x.sequence
  pub len : length content.bytes ≡ x.len
  pub stands : read (bytes x.block) x.offset x.len ≡ content.bytes

-- the very address is found, in the filling with which a core begins
abbrev pub IsFoundAgain : Opened → ℕ → Address → Type 0
IsFoundAgain o h a = o.index h ≡ Some (Indexed (record a { filling = 0 }))

-- or a newer record of the hash, which the run had wholly written
abbrev pub IsFoundNewer : {C : Type 0} → World C → (ℕ → ℕ → ℕ) → Opened → ℕ → Address → Type 0
IsFoundNewer w bytes o h a = (x : Address) × (o.index h ≡ Some (Indexed x)) × (a.sequence < x.sequence) × IsWhole w bytes h x

abbrev pub no_fault : ℕ → ℕ → Bool
no_fault b p = false

-- A run is stopped at any moment, and the bytes that it left are opened. Take an address that the index had and whose block wasn't being
-- written. The address is found again, or a newer record of its hash is found, which the run had wholly written.
abbrev pub FindsAgain : {C : Type 0} → Rules C → Splitting C → (C → Type 0) → Type 0
FindsAgain {C} rules Splits is_value =
    (w : World C) (bytes : ℕ → ℕ → ℕ) (mode : RecoverMode) (o : Opened) (h : ℕ) (a : Address)
    → IsRun rules Splits is_value w → IsStopped rules w bytes → HasNoStrays rules w bytes
    → mode ≢ recover_mode.None → Opens (sizes_of rules) rules.blocks bytes mode no_fault [] o
    → w.core.index h ≡ Some (Indexed a) → (IsBeingWritten w.core a.block → ⊥)
    → IsFoundAgain o h a ⊎ IsFoundNewer w bytes o h a

-- If no flush was under way, each address that the index had is found again.
abbrev pub FindsAll : {C : Type 0} → Rules C → Splitting C → (C → Type 0) → Type 0
FindsAll {C} rules Splits is_value =
    (w : World C) (bytes : ℕ → ℕ → ℕ) (mode : RecoverMode) (o : Opened) (h : ℕ) (a : Address)
    → IsRun rules Splits is_value w → IsStopped rules w bytes → HasNoStrays rules w bytes
    → mode ≢ recover_mode.None → Opens (sizes_of rules) rules.blocks bytes mode no_fault [] o
    → w.core.index h ≡ Some (Indexed a) → ((f : ℕ) (r : Writing C) → IsWriting w.core f r → ⊥)
    → IsFoundAgain o h a

-- Both hold of every placing that keeps its records and is the splitter's, over the real format.
abbrev pub RestartLaw : Type 0 → {C : Type 0} → Rules C → Splitting C → (C → Type 0) → Type 0
RestartLaw A rules Splits is_value = Demands rules Splits is_value → IsReal A rules Splits → FindsAgain rules Splits is_value

abbrev pub IdleLaw : Type 0 → {C : Type 0} → Rules C → Splitting C → (C → Type 0) → Type 0
IdleLaw A rules Splits is_value = Demands rules Splits is_value → IsReal A rules Splits → FindsAll rules Splits is_value

-- What has 64 bits: the hash and the sequence of whatever is queued, buffered, in a batch or indexed.
use Rattle.std.specs.Prelude.{ℕ, ◌≤◌, List, map, Option, Some, None}
use Rattle.foyer_format_layout.specs.Each.{Each}
use Rattle.foyer_core_model.specs.Numbers.{last_number}
use Rattle.foyer_core_model.specs.Record.{Slot, Indexed, Mark, Record}
use Rattle.foyer_core_model.specs.Position.{records_of}
use Rattle.foyer_core_model.specs.State.{Submission, Piece, Remove, Await, Reinsert, Writing, Batch, Flusher, State}

-- a hash and a sequence
abbrev pub HaveWidths : (hash sequence : ℕ) → Type 0
HaveWidths hash sequence = (hash ≤ last_number) × (sequence ≤ last_number)

-- those of records
abbrev pub RecordsHaveWidths : {C : Type 0} → List (Record C) → Type 0
RecordsHaveWidths records = Each (λ r. HaveWidths r.hash r.sequence) records

-- those of marks
abbrev pub MarksHaveWidths : List (ℕ × ℕ) → Type 0
MarksHaveWidths marks = Each (λ m. HaveWidths m.0 m.1) marks

-- those of what waits in a queue; a reinsertion goes on only with those that the index has
abbrev pub SubmissionHasWidths : {C : Type 0} → Submission C → Type 0
SubmissionHasWidths (Piece h s n c) = HaveWidths h s
SubmissionHasWidths (Remove h s invalidated) = HaveWidths h s
SubmissionHasWidths (Await i) = Unit {0}
SubmissionHasWidths (Reinsert h bytes a) = Unit {0}

-- those of the block that is written
abbrev pub WritingHasWidths : {C : Type 0} → Option (Writing C) → Type 0
WritingHasWidths None = Unit {0}
WritingHasWidths (Some w) = RecordsHaveWidths (map (λ p. p.1) w.records)

-- those of a batch
abbrev pub BatchHasWidths : {C : Type 0} → Option (Batch C) → Type 0
BatchHasWidths None = Unit {0}
BatchHasWidths (Some batch) = RecordsHaveWidths (records_of batch.blocks) × WritingHasWidths batch.writing × MarksHaveWidths batch.marks

-- those of all that a flusher has
pub record FlusherHasWidths {C : Type 0} (φ : Flusher C) : Type 0 where
  pub queue : Each SubmissionHasWidths φ.queue
  pub buffer : RecordsHaveWidths φ.buffer
  pub marks : MarksHaveWidths φ.marks
  pub batch : BatchHasWidths φ.batch

-- those of what the index holds for a hash
abbrev pub SlotHasWidths : (hash : ℕ) → Option Slot → Type 0
SlotHasWidths hash None = Unit {0}
SlotHasWidths hash (Some (Indexed a)) = HaveWidths hash a.sequence
SlotHasWidths hash (Some (Mark s)) = HaveWidths hash s

-- those of all that a core has, and the sequence that is drawn next
pub record StateHasWidths {C : Type 0} (core : State C) : Type 0 where
  pub next : core.next ≤ last_number
  pub index : (h : ℕ) → SlotHasWidths h (core.index h)
  pub flushers : (f : ℕ) → FlusherHasWidths (core.flushers f)

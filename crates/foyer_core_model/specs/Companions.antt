-- The clauses that go with the laws: what one step with its reply says.
use Rattle.std.specs.Prelude.{◌≡◌, ℕ, ◌<◌, Bool, true, List, [], ◌∷◌, length, Option, Some}
use Rattle.foyer_core_model.specs.Numbers.{last_number}
use Rattle.foyer_core_model.specs.Ids.{is_id_in, AreDistinct}
use Rattle.foyer_core_model.specs.Record.{Given, Record}
use Rattle.foyer_format_layout.specs.BlockBytes.{Write}
use Rattle.foyer_core_model.specs.Position.{BlockLayout, records_of}
use Rattle.foyer_core_model.specs.State.{Submission, Piece, Writing, Batch, Evictable, State, Clean}
use Rattle.foyer_core_model.specs.Rules.{Rules, Splitting}
use Rattle.foyer_core_model.specs.Widths.{StateHasWidths}
use Rattle.foyer_core_model.specs.Layout.{writes_in, KeepsRecords, PlacesAll}
use Rattle.foyer_core_model.specs.Step.{Age, Young, Step, Enqueue, Receive, FlushBegin, FlushBlock, FlushWrote, ReclaimBegin}
use Rattle.foyer_core_model.specs.Reply.{Kind, Reply, NotNow, Refused, Ignored, Dropped, Received, Began, Written, Committed, Failed, Picked}
use Rattle.foyer_core_model.specs.Queue.{IsCrowded}
use Rattle.foyer_core_model.specs.Receive.{Fits}
use Rattle.foyer_core_model.specs.Flush.{commit_in}
use Rattle.foyer_core_model.specs.Reclaim.{MayReclaim}
use Rattle.foyer_core_model.specs.InTurn.{InTurn}
use Rattle.foyer_core_model.specs.Refusal.{MayRefuse}
use Rattle.foyer_core_model.specs.Follows.{Follows}
use Rattle.foyer_core_model.specs.Event.{Event, with_puts, events_of}
use Rattle.foyer_core_model.specs.World.{World}
use Rattle.foyer_core_model.specs.Laws.{Demands, IsReached, IsAmong}

-- the block that a flusher's batch writes
abbrev pub IsWrittenBy : {C : Type 0} → State C → ℕ → Writing C → Type 0
IsWrittenBy {C} old f w = (batch : Batch C) × ((old.flushers f).batch ≡ Some batch) × (batch.writing ≡ Some w)

-- the pieces among these records are among those
abbrev pub PiecesAmong : {C : Type 0} → List (ℕ × Record C) → List (Record C) → Type 0
PiecesAmong {C} ps puts = (p : ℕ × Record C) (c : C) → IsAmong p ps → (p.1).source ≡ Given c → IsAmong p.1 puts

module _ {C : Type 0} (rules : Rules C) (Splits : Splitting C) where
  -- A piece is ignored only if it is young. It is dropped only if too much is queued. It is returned only if it doesn't fit, or its code
  -- fails.
  pub record QueueKeeps : Type 0 where
    pub ignored : (old new : State C) (h n : ℕ) (age : Age) (c d : C) → Follows rules Splits old (Enqueue h n age c) (Ignored d) new → (d ≡ c) × (age ≡ Young)
    pub dropped : (old new : State C) (h n s : ℕ) (age : Age) (c d : C) → Follows rules Splits old (Enqueue h n age c) (Dropped d s) new → (d ≡ c) × IsCrowded rules old
    pub returned : (old new : State C) (f : ℕ) (d : C) → Follows rules Splits old (Receive f) (Received (Some d)) new
        → (h : ℕ) × (s : ℕ) × (n : ℕ) × (rest : List (Submission C)) × ((old.flushers f).queue ≡ Piece h s n d ∷ rest)
        × ((bytes : List ℕ) → rules.encode h s d ≡ Some bytes → Fits rules old (old.flushers f) bytes → ⊥)

  -- FlushBegin lays out all that was received since the batch before. FlushBlock issues the writes of a block's parts. When the last write of
  -- a block is reported, every piece of the block is put and the puts are counted. If a write fails, nothing is put and the index stays.
  pub record CommitKeeps : Type 0 where
    pub began : (old new : State C) (f : ℕ) (blocks : List (BlockLayout C)) (marks : List (ℕ × ℕ)) → KeepsRecords rules Splits → Follows rules Splits old (FlushBegin f) (Began blocks marks) new
        → (records_of blocks ≡ (old.flushers f).buffer) × (marks ≡ (old.flushers f).marks)
    pub issued : (old new : State C) (f b : ℕ) (writes : List Write) → Follows rules Splits old (FlushBlock f) (Written b writes) new
        → (batch : Batch C) × (s : BlockLayout C) × (rest : List (BlockLayout C)) × ((old.flushers f).batch ≡ Some batch) × (batch.blocks ≡ s ∷ rest) × (writes ≡ writes_in rules s.parts)
    pub committed : (old new : State C) (f n : ℕ) (H : List (Event C)) → Follows rules Splits old (FlushWrote f true) (Committed n) new
        → (w : Writing C) × IsWrittenBy old f w × ((last : Write) × (w.left ≡ last ∷ []))
        × (new.index ≡ (commit_in old w).index) × (events_of old (Committed n) (FlushWrote f true) H ≡ with_puts (commit_in old w).puts H)
        × (n ≡ length (commit_in old w).puts) × PiecesAmong w.records (commit_in old w).puts
    pub failed : (old new : State C) (f : ℕ) (ok : Bool) (H : List (Event C)) → Follows rules Splits old (FlushWrote f ok) Failed new
        → (new.index ≡ old.index) × (events_of old Failed (FlushWrote f ok) H ≡ H)

  -- A reclaim begins only if it may, at an evictable block.
  abbrev pub ReclaimKeeps : Type 0
  ReclaimKeeps = (old new : State C) (b : ℕ) (answers : List (Option ℕ)) (probation : List ℕ) → Follows rules Splits old ReclaimBegin (Picked b answers probation) new
      → MayReclaim rules old × (b < rules.blocks) × (old.place b ≡ Evictable)

  -- NotNow is answered only to a step out of turn, and changes nothing; so does a refusal, which has its cause.
  pub record NotNowKeeps : Type 0 where
    pub not_now : (old new : State C) (step back : Step C) → Follows rules Splits old step (NotNow back) new → (back ≡ step) × (new ≡ old) × (InTurn rules old step → ⊥)
    pub refused : (old new : State C) (step back : Step C) (kind : Kind) → Follows rules Splits old step (Refused kind back) new → (back ≡ step) × (new ≡ old) × MayRefuse rules Splits old kind step

  -- The state afterwards is determined by the state before, the step and the reply.
  abbrev pub IsDetermined : Type 0
  IsDetermined = (old one two : State C) (step : Step C) (reply : Reply C) → Follows rules Splits old step reply one → Follows rules Splits old step reply two → one ≡ two

  -- a reply other than NotNow
  abbrev pub IsInTurnReply : Reply C → Type 0
  IsInTurnReply (NotNow step) = ⊥
  IsInTurnReply reply = Unit {0}

  -- What is in turn has a reply, in every world that is reached, before the limit of steps.
  abbrev pub InTurnReplies : (C → Type 0) → Type 0
  InTurnReplies is_value =
      (w : World C) (step : Step C) → Demands rules Splits is_value → PlacesAll rules Splits → IsReached rules Splits is_value w
      → w.core.steps < last_number → InTurn rules w.core step
      → (reply : Reply C) × (new : State C) × Follows rules Splits w.core step reply new × IsInTurnReply reply

-- In every world that is reached, the hashes and the sequences of what is queued, buffered, in a batch or indexed have 64
-- bits.
abbrev pub WidthsStay : {C : Type 0} → Rules C → Splitting C → (C → Type 0) → Type 0
WidthsStay {C} rules Splits is_value =
    (w : World C) → Demands rules Splits is_value → IsReached rules Splits is_value w → StateHasWidths w.core

-- In every world that is reached, the clean list is the clean set: a block is listed exactly if it is clean, and once.
pub record ListsClean {C : Type 0} (rules : Rules C) (Splits : Splitting C) (is_value : C → Type 0) : Type 0 where
  pub listed : (w : World C) (b : ℕ) → Demands rules Splits is_value → IsReached rules Splits is_value w
      → b < rules.blocks → w.core.place b ≡ Clean → is_id_in b w.core.clean ≡ true
  pub clean : (w : World C) (b : ℕ) → Demands rules Splits is_value → IsReached rules Splits is_value w
      → is_id_in b w.core.clean ≡ true → (w.core.place b ≡ Clean) × (b < rules.blocks)
  pub once : (w : World C) → Demands rules Splits is_value → IsReached rules Splits is_value w → AreDistinct w.core.clean

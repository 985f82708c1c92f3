-- Why a step may be refused.
use Rattle.std.specs.Prelude.{◌≡◌, ◌<◌, ◌≤◌, true, false, List, [], ◌∷◌, ◌⊎◌}
use Rattle.foyer_core_model.specs.Numbers.{last_number}
use Rattle.foyer_core_model.specs.Record.{NotSupported, Undecodable}
use Rattle.foyer_core_model.specs.Index.{holds}
use Rattle.foyer_core_model.specs.Receive.{Fits}
use Rattle.foyer_core_model.specs.State.{Submission, Piece, Remove, Await, Reinsert, Flusher, State}
use Rattle.foyer_core_model.specs.Rules.{Rules, Splitting}
use Rattle.foyer_core_model.specs.Step.{Young, Bytes, Fault, Step, Enqueue, Delete, Wait, LoadEnd, Receive, FlushBegin, FlushBlock, ReclaimBegin, ReclaimRead, ReclaimCleaned, DestroyBegin, DestroyClear}
use Rattle.foyer_core_model.specs.Reply.{Kind, Io, Memory, Parse, Closed, Unsupported, SequenceEnd, Reply, Queued, Dropped, Deleted, Done, Written, NoBlock, Picked, Destroying, Cleared}
use Rattle.foyer_core_model.specs.Load.{judged, IsDecoded}
use Rattle.foyer_core_model.specs.Changes.{Changes}
use Rattle.foyer_core_model.specs.InTurn.{InTurn}

-- the steps that draw a sequence, and that a closed core refuses
abbrev pub Draws : {C : Type 0} → Step C → Type 0
Draws (Enqueue h n age c) = Unit {0}
Draws (Delete h) = Unit {0}
Draws DestroyBegin = Unit {0}
Draws step = ⊥

-- a step grows something, by the reply that it would have; the end of a load, a receipt and the start of a flush aren't among these steps
abbrev pub Allocates : {C : Type 0} → Step C → Reply C → Type 0
Allocates (Enqueue h n age c) (Queued s) = Unit {0}
Allocates (Enqueue h n age c) (Dropped d s) = Unit {0}
Allocates (Delete h) (Deleted s) = Unit {0}
Allocates (Wait f i) Done = Unit {0}
Allocates (FlushBlock f) (Written b writes) = Unit {0}
Allocates (FlushBlock f) NoBlock = Unit {0}
Allocates ReclaimBegin (Picked b answers probation) = Unit {0}
Allocates (ReclaimRead b (Bytes bs)) reply = Unit {0}
Allocates (ReclaimCleaned b ok) Done = Unit {0}
Allocates DestroyBegin (Destroying s) = Unit {0}
Allocates DestroyClear (Cleared bs) = Unit {0}
Allocates step reply = ⊥

module _ {C : Type 0} (rules : Rules C) (old : State C) where
  -- the front of a queue takes memory: a piece, a mark and a wait do, and a reinsertion does if it is put into the buffer
  abbrev pub TakesMemory : Flusher C → List (Submission C) → Type 0
  TakesMemory φ [] = ⊥
  TakesMemory φ (Piece h s n c ∷ rest) = Unit {0}
  TakesMemory φ (Remove h s invalidated ∷ rest) = Unit {0}
  TakesMemory φ (Await i ∷ rest) = Unit {0}
  TakesMemory φ (Reinsert h bytes a ∷ rest) = (holds a (old.index h) ≡ true) × Fits rules old φ bytes

module _ {C : Type 0} (rules : Rules C) (Splits : Splitting C) (old : State C) where
  -- an enqueue of a young piece draws nothing
  abbrev pub DrawsNow : Step C → Type 0
  DrawsNow (Enqueue h n age c) = age ≡ Young → ⊥
  DrawsNow (Delete h) = Unit {0}
  DrawsNow DestroyBegin = Unit {0}
  DrawsNow step = ⊥

  -- an allocation is needed that can be refused: a load needs one if a key or a value is decoded; a receipt does by what it takes; a flush
  -- that begins always does; any other step does by its reply
  abbrev pub NeedsMemory : Step C → Type 0
  NeedsMemory (LoadEnd t (Bytes bs)) = IsDecoded rules old (judged rules old t bs)
  NeedsMemory (Receive f) = TakesMemory rules old (old.flushers f) (old.flushers f).queue
  NeedsMemory (FlushBegin f) = Unit {0}
  NeedsMemory step = (reply : Reply C) × (new : State C) × Changes rules Splits old step reply new × Allocates step reply

  -- the cause of a refusal of a step in turn, before the limit of steps
  abbrev pub HasCause : Kind → Step C → Type 0
  HasCause Closed step = Draws step × (old.closed ≡ true)
  HasCause SequenceEnd step = InTurn rules old step × DrawsNow step × (old.closed ≡ false) × (last_number ≤ old.next)
  HasCause Memory step = InTurn rules old step × NeedsMemory step
  HasCause Io (LoadEnd t Fault) = InTurn rules old (LoadEnd t Fault)
  HasCause Unsupported (LoadEnd t (Bytes bs)) = InTurn rules old (LoadEnd t (Bytes bs)) × (judged rules old t bs ≡ NotSupported)
  HasCause Parse (LoadEnd t (Bytes bs)) = InTurn rules old (LoadEnd t (Bytes bs)) × (judged rules old t bs ≡ Undecodable)
  HasCause kind step = ⊥

  -- after the greatest number of steps each one is refused, before all else
  abbrev pub MayRefuse : Kind → Step C → Type 0
  MayRefuse SequenceEnd step = (last_number ≤ old.steps) ⊎ ((old.steps < last_number) × HasCause SequenceEnd step)
  MayRefuse kind step = (old.steps < last_number) × HasCause kind step

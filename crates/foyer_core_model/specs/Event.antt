-- The history: what was committed, and which deletes and destroys were accepted. It knows no blocks and no addresses.
use Rattle.std.specs.Prelude.{ℕ, ◌==◌, nat_le, ◌&&◌, if◌then◌else◌, List, [], ◌∷◌, Option, Some, None}
use Rattle.foyer_core_model.specs.Record.{Outcome, NoRecord, Holds, Source, Given, Reread, Record}
use Rattle.foyer_core_model.specs.State.{Submission, Piece, Remove, Await, Reinsert, Writing, Batch, State}
use Rattle.foyer_core_model.specs.Step.{Step, Enqueue, Delete, Receive, FlushWrote, DestroyClear}
use Rattle.foyer_core_model.specs.Reply.{Reply, Dropped, Deleted, Received, Committed, Cleared}
use Rattle.foyer_core_model.specs.Flush.{commit_in}

-- a put of what a record is, a delete, or a destroy
pub data Event (C : Type 0) : Type 0 where
  Put : (hash sequence : ℕ) → Outcome C → Event C
  Deletion : (hash sequence : ℕ) → Event C
  Destruction : Event C

-- the sequence of the newest event, or 0
abbrev pub sequence_in : {C : Type 0} → Option (Event C) → ℕ
sequence_in None = 0
sequence_in (Some (Put h s x)) = s
sequence_in (Some (Deletion h s)) = s
sequence_in (Some Destruction) = 0

-- Of a history, its newest event first: among the events of a hash since the last destruction the last one of greatest sequence.
abbrev pub newest : {C : Type 0} → (hash : ℕ) → List (Event C) → Option (Event C)
newest q [] = None
newest q (Put h s x ∷ H) = if h == q && nat_le (sequence_in (newest q H)) s then Some (Put h s x) else newest q H
newest q (Deletion h s ∷ H) = if h == q && nat_le (sequence_in (newest q H)) s then Some (Deletion h s) else newest q H
newest q (Destruction ∷ H) = None

-- what the newest record is
abbrev pub outcome_in : {C : Type 0} → Option (Event C) → Outcome C
outcome_in None = NoRecord
outcome_in (Some (Put h s x)) = x
outcome_in (Some (Deletion h s)) = NoRecord
outcome_in (Some Destruction) = NoRecord

-- A piece's put is of its content. A reinsertion puts again what was newest, and not what its bytes are.
abbrev pub put_event : {C : Type 0} → Record C → Source C → List (Event C) → Event C
put_event r (Given c) H = Put r.hash r.sequence (Holds c)
put_event r (Reread over) H = Put r.hash r.sequence (outcome_in (newest r.hash H))

-- these puts, one after the other
abbrev pub with_puts : {C : Type 0} → List (Record C) → List (Event C) → List (Event C)
with_puts [] H = H
with_puts (r ∷ rs) H = with_puts rs (put_event r r.source H ∷ H)

-- the records that are puts when the block that a batch writes is committed
abbrev pub puts_in : {C : Type 0} → State C → Option (Writing C) → List (Record C)
puts_in old None = []
puts_in old (Some w) = (commit_in old w).puts

-- the same of a flusher's batch
abbrev pub puts_of : {C : Type 0} → State C → Option (Batch C) → List (Record C)
puts_of old None = []
puts_of old (Some batch) = puts_in old batch.writing

-- a piece that is taken from the front of a queue and returned is deleted, under its own sequence
abbrev pub with_returned : {C : Type 0} → List (Submission C) → List (Event C) → List (Event C)
with_returned [] H = H
with_returned (Piece h s n c ∷ rest) H = Deletion h s ∷ H
with_returned (Remove h s invalidated ∷ rest) H = H
with_returned (Await i ∷ rest) H = H
with_returned (Reinsert h bytes a ∷ rest) H = H

-- the history with the events of a step and its reply: nothing else is an event
abbrev pub events_of : {C : Type 0} → State C → Reply C → Step C → List (Event C) → List (Event C)
events_of old (Deleted s) (Delete h) H = Deletion h s ∷ H
events_of old (Dropped d s) (Enqueue h n age c) H = Deletion h s ∷ H
events_of old (Received (Some d)) (Receive f) H = with_returned (old.flushers f).queue H
events_of old (Committed n) (FlushWrote f ok) H = with_puts (puts_of old (old.flushers f).batch) H
events_of old (Cleared bs) DestroyClear H = Destruction ∷ H
events_of old reply step H = H

-- The world of the core: the bytes of every block, the core, and the accesses under way.
use Rattle.std.specs.Prelude.{◌≡◌, ℕ, ◌≤◌, ◌==◌, nat_lt, Bool, true, false, ◌||◌, if◌then◌else◌, List, [], ◌∷◌, Option, Some, None}
use Rattle.foyer_core_model.specs.Numbers.{put, last_number}
use Rattle.foyer_format_layout.specs.BlockBytes.{Write}
use Rattle.foyer_core_model.specs.Position.{Position, BlockLayout}
use Rattle.foyer_core_model.specs.Record.{Record}
use Rattle.foyer_core_model.specs.State.{Writing, Batch, State}
use Rattle.foyer_core_model.specs.Rules.{Rules, first_position, Splitting}
use Rattle.foyer_core_model.specs.Step.{ReadResult, Bytes, Fault, Step, Enqueue, Delete, LoadEnd, FlushBlock, FlushWrote, ReclaimRead, ReclaimCleaned, DestroyClear, DestroyCleaned}
use Rattle.foyer_core_model.specs.Reply.{Reply, Written, Cleared, Done, Committed}
use Rattle.foyer_core_model.specs.Follows.{Follows}
use Rattle.foyer_core_model.specs.Event.{Event, events_of}
use Rattle.foyer_core_model.specs.Kept.{kept_after}
use Rattle.foyer_core_model.specs.Access.{BlockWrites, Issued, CleanState, CleanDone, ReadState, ReadDone, Load, Scan, loads_after, issued_after, scans_after, block_writes_after, cleans_after, result_of, some_writes_covers, clean_covers, begun, read_torn, came, at_load, at_scan, writes_begun, will_cover, writes_ended, bytes_ended, clean_begun, clean_will_cover, clean_ended, bytes_cleaned, IsRead, IsTorn, IsTornClean}

-- whether there is nothing
abbrev pub is_none : {X : Type 0} → Option X → Bool
is_none None = true
is_none (Some x) = false

-- a record that was committed, and its place
pub record Stored (C : Type 0) : Type 0 where
  pub block : ℕ
  pub filling : ℕ
  pub offset : ℕ
  pub content : Record C

-- all that is, with what the laws speak of: the history, what is kept, how far blocks are filled,
-- the writes begun, and the records committed
pub record World (C : Type 0) : Type 0 where
  pub core : State C
  pub bytes : ℕ → ℕ → ℕ  -- of each block
  pub history : List (Event C)  -- the newest event first
  pub kept : ℕ → Option ℕ  -- of each hash
  pub filled : ℕ → Position  -- how far what was issued fills each block
  pub begun_writes : List (ℕ × Write)  -- each write that began, with its block, the last one first
  pub committed : List (Stored C)  -- each record that was committed, the last one first
  pub loads : ℕ → Option (Load C)  -- by the number of its ticket in the run
  pub issued : ℕ  -- how many tickets there are
  pub scans : ℕ → Option Scan  -- by block
  pub block_writes : ℕ → BlockWrites  -- by flusher
  pub clean_states : ℕ → CleanState  -- by block

-- a step with its reply and the state that it leaves, or the beginning or the end of an access
pub data WorldEvent (C : Type 0) : Type 0 where
  Applies : Step C → Reply C → State C → WorldEvent C
  ReadBegins : (ticket : ℕ) → WorldEvent C
  ReadEnds : (ticket : ℕ) → ReadResult → WorldEvent C
  ScanBegins : (block : ℕ) → WorldEvent C
  ScanEnds : (block : ℕ) → ReadResult → WorldEvent C
  WriteBegins : (flusher : ℕ) → WorldEvent C
  WriteEnds : (flusher : ℕ) → (is_ok : Bool) → (torn : ℕ → ℕ) → WorldEvent C
  CleanBegins : (block : ℕ) → WorldEvent C
  CleanEnds : (block : ℕ) → (is_ok : Bool) → (torn : ℕ → ℕ) → WorldEvent C

-- how far a block is filled when the next block of a batch is issued into it
abbrev pub end_of : {C : Type 0} → List (BlockLayout C) → Position → Position
end_of [] f = f
end_of (s ∷ ss) f = s.end

-- the same of a flusher's batch
abbrev pub end_in : {C : Type 0} → Option (Batch C) → Position → Position
end_in None f = f
end_in (Some batch) f = end_of batch.blocks f

-- how far each block is filled: one is empty when it is handed to a flusher that waited and so begins a new filling, and
-- all are after a destroy
abbrev pub filled_after : {C : Type 0} → Rules C → State C → Reply C → Step C → (filling : ℕ → ℕ) → (ℕ → Position) → ℕ → Position
filled_after rules old (Written b ws) (FlushBlock f) filling filled = put filled b (end_in (old.flushers f).batch (filled b))
filled_after rules old Done (ReclaimCleaned b ok) filling filled = if filling b == old.filling b then filled else put filled b (first_position rules)
filled_after rules old (Cleared bs) DestroyClear filling filled = λ b. if nat_lt b rules.blocks then first_position rules else filled b
filled_after rules old reply step filling filled = filled

-- these records of a block are committed, one after the other
abbrev pub with_stored : {C : Type 0} → (block filling : ℕ) → List (ℕ × Record C) → List (Stored C) → List (Stored C)
with_stored b n [] stored = stored
with_stored b n (p ∷ ps) stored = with_stored b n ps (record { block = b; filling = n; offset = p.0; content = p.1 } ∷ stored)

-- those of the block that is written
abbrev pub stored_in : {C : Type 0} → State C → Option (Writing C) → List (Stored C) → List (Stored C)
stored_in old None stored = stored
stored_in old (Some w) stored = with_stored w.block (old.filling w.block) w.records stored

-- the same of a flusher's batch
abbrev pub stored_of : {C : Type 0} → State C → Option (Batch C) → List (Stored C) → List (Stored C)
stored_of old None stored = stored
stored_of old (Some batch) stored = stored_in old batch.writing stored

-- the records committed after a step and its reply
abbrev pub committed_after : {C : Type 0} → State C → Reply C → Step C → List (Stored C) → List (Stored C)
committed_after old (Committed n) (FlushWrote f ok) stored = stored_of old (old.flushers f).batch stored
committed_after old reply step stored = stored

-- a write that begins is noted
abbrev pub noted_write : BlockWrites → List (ℕ × Write) → List (ℕ × Write)
noted_write (Issued b results (w ∷ ws)) log = (b, w) ∷ log
noted_write pending log = log

module _ {C : Type 0} (rules : Rules C) where
  -- where a write or a clean is under way
  abbrev pub covers : World C → ℕ → ℕ → Bool
  covers w b o = some_writes_covers rules.flushers w.block_writes b o || clean_covers (w.clean_states b) o

  -- what an event leaves; one out of place does nothing
  abbrev pub after : World C → WorldEvent C → World C
  after w (Applies step reply new) =
      record {
        core = new;
        bytes = w.bytes;
        history = events_of w.core reply step w.history;
        kept = kept_after w.core reply step w.kept;
        filled = filled_after rules w.core reply step new.filling w.filled;
        begun_writes = w.begun_writes;
        committed = committed_after w.core reply step w.committed;
        loads = loads_after reply w.history w.kept w.issued w.loads;
        issued = issued_after reply w.issued;
        scans = scans_after rules.index_size reply step w.scans;
        block_writes = block_writes_after reply step w.block_writes;
        clean_states = cleans_after reply step w.clean_states;
      }
  after w (ReadBegins n) = record w { loads = put w.loads n (at_load (begun (covers w)) (w.loads n)) }
  after w (ReadEnds n result) = record w { loads = put w.loads n (at_load (λ _. came result) (w.loads n)) }
  after w (ScanBegins b) = record w { scans = put w.scans b (at_scan (begun (covers w)) b (w.scans b)) }
  after w (ScanEnds b result) = record w { scans = put w.scans b (at_scan (λ _. came result) b (w.scans b)) }
  after w (WriteBegins f) =
      record w {
        block_writes = put w.block_writes f (writes_begun (w.block_writes f));
        begun_writes = noted_write (w.block_writes f) w.begun_writes;
        loads = λ n. at_load (read_torn (will_cover (w.block_writes f))) (w.loads n);
        scans = λ b. at_scan (read_torn (will_cover (w.block_writes f))) b (w.scans b);
      }
  after w (WriteEnds f ok g) =
      record w { block_writes = put w.block_writes f (writes_ended ok (w.block_writes f)); bytes = bytes_ended ok g (w.block_writes f) w.bytes }
  after w (CleanBegins b) =
      record w {
        clean_states = put w.clean_states b (clean_begun (w.clean_states b));
        loads = λ n. at_load (read_torn (clean_will_cover b (w.clean_states b))) (w.loads n);
        scans = λ c. at_scan (read_torn (clean_will_cover b (w.clean_states b))) c (w.scans c);
      }
  after w (CleanEnds b ok g) =
      record w { clean_states = put w.clean_states b (clean_ended ok (w.clean_states b)); bytes = bytes_cleaned ok g b (w.clean_states b) w.bytes }

  -- what a list of events leaves
  abbrev pub after_all : World C → List (WorldEvent C) → World C
  after_all w [] = w
  after_all w (e ∷ es) = after_all (after w e) es

-- what a read of a load or of a reclaim may give
abbrev pub IsReadAt : {C : Type 0} → Rules C → (ℕ → ℕ → ℕ) → Option (Load C) → ReadResult → Type 0
IsReadAt rules bytes None result = Unit {0}
IsReadAt rules bytes (Some l) result =
    IsRead (bytes l.ticket.address.block) l.ticket.address.offset l.ticket.address.len l.read_state result

-- the same of a reclaim
abbrev pub IsScanned : (ℕ → ℕ) → Option Scan → ReadResult → Type 0
IsScanned bytes None result = Unit {0}
IsScanned bytes (Some s) result = IsRead bytes s.offset s.len s.read_state result

-- what may be brought for a reclaim's read that has come: what the read gave, or a fault, for example if memory for it is refused
abbrev pub IsBrought : ReadState → ReadResult → Type 0
IsBrought read_state (Bytes bs) = read_state ≡ ReadDone (Bytes bs)
IsBrought read_state Fault = (came : ReadResult) × (read_state ≡ ReadDone came)

-- what may happen, if callers hand in such contents
module _ {C : Type 0} (rules : Rules C) (Splits : Splitting C) (is_value : C → Type 0) where
  -- A step that brings a result brings the true one of its access, when it has come, or a fault for a reclaim's read; an
  -- Enqueue brings a content that callers have; hashes have 64 bits. Every other step comes at any time, out of turn too.
  abbrev pub IsFed : World C → Step C → Type 0
  IsFed w (Enqueue h n age c) = (h ≤ last_number) × is_value c
  IsFed w (Delete h) = h ≤ last_number
  IsFed w (LoadEnd t result) = (n : ℕ) × (l : Load C) × (w.loads n ≡ Some l) × (l.ticket ≡ t) × (l.read_state ≡ ReadDone result)
  IsFed w (FlushWrote f ok) = result_of (w.block_writes f) ≡ Some ok
  IsFed w (ReclaimRead b result) = (s : Scan) × (w.scans b ≡ Some s) × IsBrought s.read_state result
  IsFed w (ReclaimCleaned b ok) = w.clean_states b ≡ CleanDone ok
  IsFed w (DestroyCleaned b fault) = w.clean_states b ≡ CleanDone (is_none fault)
  IsFed w step = Unit {0}

  -- what may happen: a step as the relation has it, an access as it was issued
  abbrev pub MayHappen : World C → WorldEvent C → Type 0
  MayHappen w (Applies step reply new) = IsFed w step × Follows rules Splits w.core step reply new
  MayHappen w (ReadBegins n) = Unit {0}
  MayHappen w (ReadEnds n result) = IsReadAt rules w.bytes (w.loads n) result
  MayHappen w (ScanBegins b) = Unit {0}
  MayHappen w (ScanEnds b result) = IsScanned (w.bytes b) (w.scans b) result
  MayHappen w (WriteBegins f) = Unit {0}
  MayHappen w (WriteEnds f ok g) = IsTorn w.bytes (w.block_writes f) g
  MayHappen w (CleanBegins b) = Unit {0}
  MayHappen w (CleanEnds b ok g) = IsTornClean w.bytes b (w.clean_states b) g

  -- each event may, after those before it
  abbrev pub MayAllHappen : World C → List (WorldEvent C) → Type 0
  MayAllHappen w [] = Unit {0}
  MayAllHappen w (e ∷ es) = MayHappen w e × MayAllHappen (after rules w e) es

-- The accesses that replies issued: reads of loads and of reclaims, the writes of a flusher, and cleans.
use Rattle.std.specs.Prelude.{◌≡◌, ℕ, suc, zero, ◌+◌, ◌<◌, ◌≤◌, ◌==◌, nat_le, nat_lt, Bool, false, ◌&&◌, ◌||◌, if◌then◌else◌, List, [], ◌∷◌, ◌++◌, length, Option, Some, None, slice_index}
use Rattle.foyer_core_model.specs.Numbers.{put, page}
use Rattle.foyer_core_model.specs.Ids.{is_id_in}
use Rattle.foyer_format_layout.specs.BlockBytes.{Write, laid, IsBeside}
use Rattle.foyer_core_model.specs.Step.{ReadResult, Bytes, Ticket, Step, FlushBlock, FlushWrote, ReclaimBegin, ReclaimRead, ReclaimForget, ReclaimCleaned, DestroyClear, DestroyCleaned}
use Rattle.foyer_core_model.specs.Reply.{Reply, Read, Written, Next, Committed, Failed, Picked, Scans, Listed, Cleans, Cleared, Done, Destroyed}
use Rattle.foyer_core_model.specs.Event.{Event, newest}
use Rattle.foyer_core_model.specs.Kept.{unless}

-- The writes that a FlushBlock issued into a block: the results that are yet to be reported, and those that haven't begun.
-- One may be under way.
pub data BlockWrites : Type 0 where
  Idle : BlockWrites
  Issued : (block : ℕ) → (results : List Bool) → List Write → BlockWrites
  InFlight : (block : ℕ) → (results : List Bool) → Write → List Write → BlockWrites

-- the clean of a block: its first page becomes zeros
pub data CleanState : Type 0 where
  CleanIdle : CleanState
  CleanIssued : CleanState
  CleanInFlight : CleanState
  CleanDone : (is_ok : Bool) → CleanState

-- a read: while it is under way, the offsets at which a write was under way meanwhile
pub data ReadState : Type 0 where
  ReadIssued : ReadState
  Reading : (ℕ → Bool) → ReadState
  ReadDone : ReadResult → ReadState

-- the read that a LoadBegin issued: the newest event of its hash at that moment, and the block of that event's commit,
-- unless a reclaim of it began or a destroy cleared the index since
pub record Load (C : Type 0) : Type 0 where
  pub ticket : Ticket
  pub promise : Option (Event C)
  pub read_state : ReadState
  pub kept : Option ℕ

-- the read that a reclaim of a block issued
pub record Scan : Type 0 where
  pub offset : ℕ
  pub len : ℕ
  pub read_state : ReadState

-- accesses after a step and its reply

-- a load, with what is kept of its block changed
abbrev pub load_unless : {C : Type 0} → (Option ℕ → Option ℕ) → Option (Load C) → Option (Load C)
load_unless f None = None
load_unless f (Some l) = Some (record l { kept = f l.kept })

-- a reclaim that begins takes its block from the loads, a destroy each block
abbrev pub loads_after : {C : Type 0} → Reply C → List (Event C) → (ℕ → Option ℕ) → ℕ → (ℕ → Option (Load C)) → ℕ → Option (Load C)
loads_after (Read t) H kept n loads = put loads n (Some (record { ticket = t; promise = newest t.hash H; read_state = ReadIssued; kept = kept t.hash }))
loads_after (Picked b answers probation) H kept n loads = λ k. load_unless (unless b) (loads k)
loads_after (Cleared bs) H kept n loads = λ k. load_unless (λ o. None) (loads k)
loads_after reply H kept n loads = loads

-- how many tickets were issued
abbrev pub issued_after : {C : Type 0} → Reply C → ℕ → ℕ
issued_after (Read t) n = n + 1
issued_after reply n = n

-- a reclaim has one read at a time, which its reply issues
abbrev pub scans_after : {C : Type 0} → ℕ → Reply C → Step C → (ℕ → Option Scan) → ℕ → Option Scan
scans_after index_size (Picked b answers probation) ReclaimBegin scans = put scans b (Some (record { offset = 0; len = index_size; read_state = ReadIssued }))
scans_after index_size (Scans d o n verdicts) (ReclaimRead b came) scans = put scans b (Some (record { offset = o; len = n; read_state = ReadIssued }))
scans_after index_size (Listed verdicts) (ReclaimRead b came) scans = put scans b None
scans_after index_size reply step scans = scans

-- writes that are issued
abbrev pub writes_of : ℕ → List Write → BlockWrites
writes_of b [] = Idle
writes_of b (w ∷ ws) = Issued b [] (w ∷ ws)

-- a result is reported
abbrev pub writes_reported : BlockWrites → BlockWrites
writes_reported Idle = Idle
writes_reported (Issued b [] ws) = Issued b [] ws
writes_reported (Issued b (result ∷ results) ws) = Issued b results ws
writes_reported (InFlight b [] w ws) = InFlight b [] w ws
writes_reported (InFlight b (result ∷ results) w ws) = InFlight b results w ws

-- the last report ends the writes of a block, and so does a failure
abbrev pub block_writes_after : {C : Type 0} → Reply C → Step C → (ℕ → BlockWrites) → ℕ → BlockWrites
block_writes_after (Written b ws) (FlushBlock f) block_writes = put block_writes f (writes_of b ws)
block_writes_after Next (FlushWrote f ok) block_writes = put block_writes f (writes_reported (block_writes f))
block_writes_after (Committed n) (FlushWrote f ok) block_writes = put block_writes f Idle
block_writes_after Failed (FlushWrote f ok) block_writes = put block_writes f Idle
block_writes_after reply step block_writes = block_writes

-- a reclaim asks for the clean of its block, a destroy for that of each block
abbrev pub cleans_after : {C : Type 0} → Reply C → Step C → (ℕ → CleanState) → ℕ → CleanState
cleans_after (Cleans d) (ReclaimForget b) clean_states = put clean_states b CleanIssued
cleans_after Done (ReclaimCleaned b ok) clean_states = put clean_states b CleanIdle
cleans_after (Cleared bs) DestroyClear clean_states = λ b. if is_id_in b bs then CleanIssued else clean_states b
cleans_after Done (DestroyCleaned b ok) clean_states = put clean_states b CleanIdle
cleans_after (Destroyed well) (DestroyCleaned b ok) clean_states = put clean_states b CleanIdle
cleans_after reply step clean_states = clean_states

-- the result that a FlushWrote may bring
abbrev pub result_of : BlockWrites → Option Bool
result_of Idle = None
result_of (Issued b [] ws) = None
result_of (Issued b (result ∷ results) ws) = Some result
result_of (InFlight b [] w ws) = None
result_of (InFlight b (result ∷ results) w ws) = Some result

-- where writes are under way

-- an offset lies in a write
abbrev pub is_in : Write → ℕ → Bool
is_in w o = nat_le w.offset o && nat_lt o (w.offset + length w.bytes)

-- a write is under way there
abbrev pub writes_covers : ℕ → BlockWrites → ℕ → Bool
writes_covers b (InFlight c results w ws) o = b == c && is_in w o
writes_covers b pending o = false

-- a write of one of the first n flushers is under way there
abbrev pub some_writes_covers : ℕ → (ℕ → BlockWrites) → ℕ → ℕ → Bool
some_writes_covers zero block_writes b o = false
some_writes_covers (suc f) block_writes b o = writes_covers b (block_writes f) o || some_writes_covers f block_writes b o

-- a clean is under way there
abbrev pub clean_covers : CleanState → ℕ → Bool
clean_covers CleanInFlight o = nat_lt o page
clean_covers clean_state o = false

-- a read begins, a write or a clean begins during it, and it ends

-- a read begins, and notes where writes and cleans are under way
abbrev pub begun : (ℕ → ℕ → Bool) → ℕ → ReadState → ReadState
begun covers b ReadIssued = Reading (covers b)
begun covers b read_state = read_state

-- a write or a clean begins meanwhile
abbrev pub read_torn : (ℕ → ℕ → Bool) → ℕ → ReadState → ReadState
read_torn covers b (Reading seen) = Reading (λ o. seen o || covers b o)
read_torn covers b read_state = read_state

-- a read ends
abbrev pub came : ReadResult → ReadState → ReadState
came result (Reading seen) = ReadDone result
came result read_state = read_state

-- the state of a load changes, by its block
abbrev pub at_load : {C : Type 0} → (ℕ → ReadState → ReadState) → Option (Load C) → Option (Load C)
at_load f None = None
at_load f (Some l) = Some (record l { read_state = f l.ticket.address.block l.read_state })

-- the state of a reclaim's read changes
abbrev pub at_scan : (ℕ → ReadState → ReadState) → ℕ → Option Scan → Option Scan
at_scan f b None = None
at_scan f b (Some s) = Some (record s { read_state = f b s.read_state })

-- a write begins: the writes of a block follow one another, and may run ahead of the steps that report them
abbrev pub writes_begun : BlockWrites → BlockWrites
writes_begun (Issued b results (w ∷ ws)) = InFlight b results w ws
writes_begun pending = pending

-- what a write that begins covers
abbrev pub will_cover : BlockWrites → ℕ → ℕ → Bool
will_cover (Issued b results (w ∷ ws)) c o = c == b && is_in w o
will_cover pending c o = false

-- a write ends: none is done after one that failed
abbrev pub writes_ended : Bool → BlockWrites → BlockWrites
writes_ended ok (InFlight b results w ws) = Issued b (results ++ ok ∷ []) (if ok then ws else [])
writes_ended ok pending = pending

-- one that succeeded leaves its bytes, one that failed these
abbrev pub bytes_ended : Bool → (ℕ → ℕ) → BlockWrites → (ℕ → ℕ → ℕ) → ℕ → ℕ → ℕ
bytes_ended ok g (InFlight b results w ws) bytes = put bytes b (if ok then laid w (bytes b) else g)
bytes_ended ok g pending bytes = bytes

-- a clean begins
abbrev pub clean_begun : CleanState → CleanState
clean_begun CleanIssued = CleanInFlight
clean_begun clean_state = clean_state

-- what a clean that begins covers
abbrev pub clean_will_cover : ℕ → CleanState → ℕ → ℕ → Bool
clean_will_cover b CleanIssued c o = c == b && nat_lt o page
clean_will_cover b clean_state c o = false

-- a clean ends
abbrev pub clean_ended : Bool → CleanState → CleanState
clean_ended ok CleanInFlight = CleanDone ok
clean_ended ok clean_state = clean_state

-- a block's bytes after a clean
abbrev pub cleaned_page : (ℕ → ℕ) → ℕ → ℕ
cleaned_page g o = if nat_lt o page then 0 else g o

-- one that succeeded leaves zeros, one that failed these bytes
abbrev pub bytes_cleaned : Bool → (ℕ → ℕ) → ℕ → CleanState → (ℕ → ℕ → ℕ) → ℕ → ℕ → ℕ
bytes_cleaned ok g b CleanInFlight bytes = put bytes b (if ok then cleaned_page (bytes b) else g)
bytes_cleaned ok g b clean_state bytes = bytes

-- A read gives the block's bytes where no write or clean was under way meanwhile, and any bytes elsewhere.
abbrev pub IsRead : (ℕ → ℕ) → (offset len : ℕ) → ReadState → ReadResult → Type 0
IsRead bytes offset n (Reading covers) (Bytes bs) =
    (length bs ≡ n)
    × ((i : ℕ) → i < length bs → covers (offset + i) ≡ false → slice_index bs i ≡ bytes (offset + i))
IsRead bytes offset n read_state result = Unit {0}

-- A write that failed leaves any bytes in its range, and nothing else changes.
abbrev pub IsTorn : (ℕ → ℕ → ℕ) → BlockWrites → (ℕ → ℕ) → Type 0
IsTorn bytes (InFlight b results w ws) g = (o : ℕ) → IsBeside w o → g o ≡ bytes b o
IsTorn bytes pending g = Unit {0}

-- A clean that failed leaves any bytes in the first page, and nothing else changes.
abbrev pub IsTornClean : (ℕ → ℕ → ℕ) → ℕ → CleanState → (ℕ → ℕ) → Type 0
IsTornClean bytes b CleanInFlight g = (o : ℕ) → page ≤ o → g o ≡ bytes b o
IsTornClean bytes b clean_state g = Unit {0}

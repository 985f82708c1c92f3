-- What is true of every world that a run of the law reaches, beside what is known of every world.
use Rattle.std.proofs.Common.{◌≡◌, ◌≢◌, ℕ, ◌+◌, ◌<◌, ◌≤◌, Bool, true, false, Option, Some, None, List, [], ◌∷◌, ◌++◌, map, ◌⊎◌}
use Rattle.foyer_format_layout.specs.Position.{Sizes}
use Rattle.foyer_format_layout.specs.BlockBytes.{all_laid, read, Write}
use Rattle.foyer_format_buffer.specs.Position as laid
use Rattle.foyer_format_buffer.specs.Holding.{all_read, Leads, Holds}
use Rattle.foyer_format_buffer.specs.Listing.{Lists}
use Rattle.foyer_core_model.specs.Record.{Address, Slot, Indexed, Source, Given, Reread, Record}
use Rattle.foyer_core_model.specs.Position.{Position, BlockLayout}
use Rattle.foyer_core_model.specs.State.{Submission, Piece, Remove, Await, Reinsert, Writing, Flusher, BlockSet, Clean, Stage, AtIndex, AtRecord, AllListed, ToClean, Reclaim, Destroy}
use Rattle.foyer_core_model.specs.Rules.{Rules, flusher_of, sizes_of}
use Rattle.foyer_core_model.specs.Step.{Bytes, Fault}
use Rattle.foyer_core_model.specs.Flush.{is_cleaning}
use Rattle.foyer_core_model.specs.InTurn.{IsAt, AwaitsClean}
use Rattle.foyer_core_model.specs.Access.{BlockWrites, Idle, Issued, InFlight, CleanState, CleanIdle, ReadState, ReadIssued, Reading, ReadDone, Scan}
use Rattle.foyer_core_model.specs.World.{World, Stored}
use Rattle.foyer_core_model.proofs.Basics.{Ascends}
use Rattle.foyer_format_layout.specs.Each.{Each}
use Rattle.foyer_core_model.proofs.Invariant.{AllWell, writing_in, blocks_in, goes_on_in, batch_records, start_of}
use Rattle.foyer_core_restart.specs.Entries.{In, filled_to, entry_of, entry_at, entry_done, puts_at}
use Rattle.foyer_core_restart.specs.Real.{IsSpread}
use Rattle.foyer_core_restart.proofs.Tasks.{Entry, IsWrittenIn, RoleOk, TasksOk}

-- what the invariant sees of a world
pub record Sight (C : Type 0) : Type 0 where
  pub index : ℕ → Option Slot
  pub next : ℕ
  pub flushers : ℕ → Flusher C
  pub place : ℕ → BlockSet
  pub filling : ℕ → ℕ
  pub reclaims : ℕ → Option Reclaim
  pub destroy : Destroy
  pub bytes : ℕ → ℕ → ℕ
  pub filled : ℕ → Position
  pub begun : List (ℕ × Write)
  pub committed : List (Stored C)
  pub scans : ℕ → Option Scan
  pub block_writes : ℕ → BlockWrites
  pub clean_states : ℕ → CleanState

abbrev pub sight_of : {C : Type 0} → World C → Sight C
sight_of w =
    record {
      index = w.core.index;
      next = w.core.next;
      flushers = w.core.flushers;
      place = w.core.place;
      filling = w.core.filling;
      reclaims = w.core.reclaims;
      destroy = w.core.destroy;
      bytes = w.bytes;
      filled = w.filled;
      begun = w.begun_writes;
      committed = w.committed;
      scans = w.scans;
      block_writes = w.block_writes;
      clean_states = w.clean_states;
    }

-- of a flusher

-- the block that a batch writes, with the records of its parts
abbrev pub Job : Type 0 → Type 0
Job C = ℕ × List (ℕ × Record C)

abbrev pub job_of : {C : Type 0} → Option (Writing C) → Option (Job C)
job_of None = None
job_of (Some r) = Some (r.block, r.records)

abbrev pub job_in : {C : Type 0} → Flusher C → Option (Job C)
job_in φ = job_of (writing_in φ.batch)

-- the writes that haven't ended, and the results of those that have
abbrev pub left_in : BlockWrites → List Write
left_in Idle = []
left_in (Issued b rs ws) = ws
left_in (InFlight b rs w ws) = w ∷ ws

abbrev pub results_in : BlockWrites → List Bool
results_in Idle = []
results_in (Issued b rs ws) = rs
results_in (InFlight b rs w ws) = rs

-- each record that waits is of a piece, and its hash and sequence are so
abbrev pub SourceIs : {C : Type 0} → (ℕ → ℕ → Type 0) → Record C → Source C → Type 0
SourceIs P r (Given c) = P r.hash r.sequence
SourceIs P r (Reread a) = ⊥

abbrev pub RecordIs : {C : Type 0} → (ℕ → ℕ → Type 0) → Record C → Type 0
RecordIs P r = SourceIs P r r.source

abbrev pub SubmissionIs : {C : Type 0} → (ℕ → ℕ → Type 0) → Submission C → Type 0
SubmissionIs P (Piece h s n c) = P h s
SubmissionIs P (Remove h s invalidated) = Unit {0}
SubmissionIs P (Await i) = Unit {0}
SubmissionIs P (Reinsert h bytes a) = ⊥

pub record AllWait {C : Type 0} (P : ℕ → ℕ → Type 0) (φ : Flusher C) : Type 0 where
  pub batch : Each (RecordIs P) (batch_records φ.batch)
  pub buffer : Each (RecordIs P) φ.buffer
  pub queue : Each (SubmissionIs P) φ.queue

abbrev pub IsOf : {C : Type 0} → Rules C → (ℕ → ℕ) → ℕ → ℕ → ℕ → Type 0
IsOf rules low f h s = (low f ≤ s) × (flusher_of rules h ≡ f)

-- what waits at a flusher comes behind what it has committed
pub record AreLines {C : Type 0} (rules : Rules C) (low : ℕ → ℕ) (next : ℕ) (flushers : ℕ → Flusher C) : Type 0 where
  pub lows : (f : ℕ) → low f ≤ next
  pub waits : (f : ℕ) → AllWait (IsOf rules low f) (flushers f)

-- the rest of a batch is spread as the splitter's relation says
abbrev pub RestOk : Type 0 → {C : Type 0} → Sizes → laid.Position → List (BlockLayout C) → Type 0
RestOk A s f [] = Unit {0}
RestOk A s f (b ∷ bs) = IsSpread A s f (b ∷ bs)

-- of what was committed

abbrev pub sequences_of : List Entry → List ℕ
sequences_of [] = []
sequences_of (e ∷ es) = e.sequence ∷ sequences_of es

abbrev pub puts_in : {C : Type 0} → (ℕ → ℕ) → List (Stored C) → ℕ → List Entry
puts_in filling committed b = puts_at b (filling b) committed

pub record IsBelow {C : Type 0} (rules : Rules C) (low filling : ℕ → ℕ) (x : Stored C) : Type 0 where
  pub sequence : x.content.sequence < low (flusher_of rules x.content.hash)
  pub block : x.block < rules.blocks
  pub count : x.filling ≤ filling x.block

pub record AreDone {C : Type 0} (rules : Rules C) (low filling : ℕ → ℕ) (committed : List (Stored C)) : Type 0 where
  pub below : (x : Stored C) → In x committed → IsBelow rules low filling x
  pub unique : (x y : Stored C) → In x committed → In y committed → x.content.hash ≡ y.content.hash → x.content.sequence ≡ y.content.sequence
      → (x.block ≡ y.block) × (entry_done x ≡ entry_done y)

-- a block that no address names: clean, or about to be
abbrev pub IsDead : (ℕ → BlockSet) → (ℕ → Option Reclaim) → ℕ → Type 0
IsDead place reclaims b = (place b ≡ Clean) ⊎ IsAt ToClean (reclaims b)

-- An indexed address is of a record that was committed in its block's present filling, and none of its hash has a greater
-- sequence.
pub record IsSlot {C : Type 0} (filling : ℕ → ℕ) (committed : List (Stored C)) (place : ℕ → BlockSet) (reclaims : ℕ → Option Reclaim) (h : ℕ) (a : Address) : Type 0 where
  pub present : a.filling ≡ filling a.block
  pub stored : Stored C
  pub among : In stored committed
  pub block : stored.block ≡ a.block
  pub count : stored.filling ≡ a.filling
  pub entry : entry_done stored ≡ entry_at h a
  pub alive : IsDead place reclaims a.block → ⊥
  pub top : (y : Stored C) → In y committed → y.content.hash ≡ h → y.content.sequence ≤ a.sequence

-- what was put into a filling ascends
pub record AreUp (low : ℕ → ℕ) (own : ℕ → Option ℕ) (puts : ℕ → List Entry) : Type 0 where
  pub ascends : (b : ℕ) → (k : ℕ) × Ascends 0 (sequences_of (puts b)) k
  pub owned : (f b : ℕ) → own f ≡ Some b → Ascends 0 (sequences_of (puts b)) (low f)

-- of bytes

abbrev pub IsJob : {C : Type 0} → (ℕ → Option (Job C)) → ℕ → Type 0
IsJob {C} job b = (f : ℕ) × (ps : List (ℕ × Record C)) × (job f ≡ Some (b, ps))

-- a block that isn't being written holds what was put into its filling
abbrev pub AreStill : {C : Type 0} → Sizes → (ℕ → BlockSet) → (ℕ → Option Reclaim) → (ℕ → Option (Job C)) → (ℕ → ℕ → ℕ) → (ℕ → List Entry) → Type 0
AreStill s place reclaims job bytes puts =
    (b : ℕ) → (IsDead place reclaims b → ⊥) → (IsJob job b → ⊥) → (g : laid.Position) × Holds s (bytes b) g (puts b)

-- A flusher's own block holds what was put into its filling, up to where the splitter continues. While the block is written, it
-- will hold this once the writes that are left are done.
pub record IsHeld {C : Type 0} (s : Sizes) (filled : ℕ → Position) (bytes : ℕ → ℕ → ℕ) (puts : ℕ → List Entry) (own : Option ℕ) (job : Option (Job C)) (left : List Write) : Type 0 where
  pub mine : (b : ℕ) → own ≡ Some b → job ≡ None → Holds s (bytes b) (filled_to (filled b)) (puts b)
  pub writing : (b : ℕ) (ps : List (ℕ × Record C)) → job ≡ Some (b, ps)
      → Holds s (all_laid (left) (bytes b)) (filled_to (filled b)) (puts b ++ map entry_of ps) × TasksOk (puts b) ps (bytes b) left

-- every index whose write began lists what was committed, or what is being written
abbrev pub WasDone : {C : Type 0} → List (Stored C) → ℕ → Entry → Type 0
WasDone {C} committed b e = (x : Stored C) × In x committed × (x.block ≡ b) × (entry_done x ≡ e)

abbrev pub IsInJob : {C : Type 0} → (ℕ → Option (Job C)) → (ℕ → ℕ → ℕ) → (ℕ → List Write) → ℕ → Entry → Type 0
IsInJob {C} job bytes left b e = (f : ℕ) × (ps : List (ℕ × Record C)) × (job f ≡ Some (b, ps)) × IsWrittenIn ps (bytes b) (left f) e

abbrev pub AreLogged : {C : Type 0} → List (ℕ × Write) → List (Stored C) → (ℕ → Option (Job C)) → (ℕ → ℕ → ℕ) → (ℕ → List Write) → Type 0
AreLogged begun committed job bytes left =
    (b : ℕ) (v : Write) → In (b, v) begun → RoleOk v.role (λ e. WasDone committed b e ⊎ IsInJob job bytes left b e) v

-- of cleans

-- Only a block whose reclaim is about to clean it, or that a destroy has yet to clean, may be cleaned; while a destroy
-- cleans no flusher has a block; what was handed out, or a destroy has yet to clean, has nothing in its filling.
pub record AreApart (blocks : ℕ) (clean_states : ℕ → CleanState) (destroy : Destroy) (own ready : ℕ → Option ℕ) (reclaims : ℕ → Option Reclaim) (puts : ℕ → List Entry) : Type 0 where
  pub dirty : (b : ℕ) → clean_states b ≢ CleanIdle → IsAt ToClean (reclaims b) ⊎ AwaitsClean b destroy
  pub idle : is_cleaning destroy ≡ true → (f : ℕ) → (own f ≡ None) × (ready f ≡ None)
  pub none : is_cleaning destroy ≡ true → (b : ℕ) → reclaims b ≡ None
  pub cleaned : (b : ℕ) → AwaitsClean b destroy → puts b ≡ []
  pub handed : (f b : ℕ) → ready f ≡ Some b → puts b ≡ []

-- of the reads of a reclaim

-- the address of an entry of a block in a filling
abbrev pub address_in : (block filling : ℕ) → Entry → Address
address_in b n e = record { block = b; offset = e.offset; len = e.len; sequence = e.sequence; filling = n }

abbrev pub AllListedIn : (block filling : ℕ) → List Entry → List (ℕ × Address) → Type 0
AllListedIn b n es listed = (e : Entry) → In e es → In (e.hash, address_in b n e) listed

abbrev pub PhaseReads : Sizes → (ℕ → ℕ) → ℕ → ReadState → Type 0
PhaseReads s B p ReadIssued = Unit {0}
PhaseReads s B p (Reading covers) = (o : ℕ) → covers o ≡ false
PhaseReads s B p (ReadDone Fault) = ⊥
PhaseReads s B p (ReadDone (Bytes bs)) = bs ≡ read B p s.index

abbrev pub ScanReads : Sizes → (ℕ → ℕ) → ℕ → Option Scan → Type 0
ScanReads s B p None = ⊥
ScanReads s B p (Some sc) = (sc.offset ≡ p) × (sc.len ≡ s.index) × PhaseReads s B p sc.read_state

-- what was listed so far is what the chain has listed up to the place that is read
abbrev pub StageReads : Sizes → (ℕ → ℕ) → (block filling : ℕ) → List (ℕ × Address) → Stage → Option Scan → Type 0
StageReads s B b n listed (AtIndex p) scan = (es : List Entry) × Leads s B 0 es p × AllListedIn b n es listed × ScanReads s B p scan × (p + s.index ≤ s.block)
StageReads s B b n listed (AtRecord h a rest p) scan = ⊥
StageReads s B b n listed AllListed scan = (es : List Entry) × Lists s B all_read es × AllListedIn b n es listed
StageReads s B b n listed ToClean scan = Unit {0}

abbrev pub ReadsOk : Sizes → (ℕ → ℕ) → (block filling : ℕ) → Option Reclaim → Option Scan → Type 0
ReadsOk s B b n None scan = Unit {0}
ReadsOk s B b n (Some r) scan = (r.requeued ≡ []) × StageReads s B b n r.listed r.stage scan

-- all of it
pub record IsSafe (A : Type 0) {C : Type 0} (rules : Rules C) (v : Sight C) : Type 0 where
  pub low : ℕ → ℕ
  pub lines : AreLines rules low v.next v.flushers
  pub done : AreDone rules low v.filling v.committed
  pub slots : (h : ℕ) (a : Address) → v.index h ≡ Some (Indexed a) → IsSlot v.filling v.committed v.place v.reclaims h a
  pub ups : AreUp low (λ f. (v.flushers f).own) (puts_in v.filling v.committed)
  pub still : AreStill (sizes_of rules) v.place v.reclaims (λ f. job_in (v.flushers f)) v.bytes (puts_in v.filling v.committed)
  pub held : (f : ℕ) → IsHeld (sizes_of rules) v.filled v.bytes (puts_in v.filling v.committed) (v.flushers f).own (job_in (v.flushers f)) (left_in (v.block_writes f))
  pub rests : (f : ℕ) → RestOk A (sizes_of rules) (filled_to (start_of rules v.filled (v.flushers f).own (goes_on_in (v.flushers f).batch))) (blocks_in (v.flushers f).batch)
  pub well : (f : ℕ) → AllWell (results_in (v.block_writes f))
  pub log : AreLogged v.begun v.committed (λ f. job_in (v.flushers f)) v.bytes (λ f. left_in (v.block_writes f))
  pub apart : AreApart rules.blocks v.clean_states v.destroy (λ f. (v.flushers f).own) (λ f. (v.flushers f).ready) v.reclaims (puts_in v.filling v.committed)
  pub reads : (b : ℕ) → ReadsOk (sizes_of rules) (v.bytes b) b (v.filling b) (v.reclaims b) (v.scans b)

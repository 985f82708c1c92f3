-- What a run keeps of the accesses that were issued, as the world has them.
use Rattle.std.specs.Prelude.{◌≡◌, ℕ, ◌+◌, ◌≢◌, ◌≤◌, ◌⊎◌, Bool, true, false, ◌||◌, List, [], ◌∷◌, ◌++◌, drop, length, map, replicate, Option, Some, None, slice_get, slice_set}
use Rattle.std.specs.declared.vec.Vec.{Vec}
use Rattle.foyer_core_model.specs.Access.{BlockWrites, ReadIssued, Scan, CleanState, CleanIssued}
use Rattle.foyer_format_layout.specs.BlockBytes as layout
use Rattle.foyer_core_model.specs.Numbers.{last_number}
use Rattle.foyer_core_model.specs.Step as model_step
use Rattle.foyer_core_model.specs.World.{World, WorldEvent, MayAllHappen, after_all}
use Rattle.foyer_core_steps.specs.Asked.{ticket_of}
use Rattle.foyer_core_laws.specs.Content.{Content, Meaning}
use Rattle.foyer_core_laws.specs.CoreRules.{layout}
use Rattle.foyer_core_laws.specs.CoreRules.{machine}
use Rattle.foyer_core_laws.specs.CoreRules.{IsEncoded}
use Rattle.foyer_core_steps.specs.Issuing.{write_of}
use Rattle.foyer_core_laws.specs.Sizes.{AreValid}
use Rattle.foyer_core_steps.specs.StateOf.{IsStateOf}
use Rattle.foyer_core_steps.specs.declared.reply.Reply.{Reply}
use Rattle.foyer_core_steps.specs.declared.reply.Reply.TheVariants as reply
use Rattle.foyer_core_steps.specs.Write.{Write}
use Rattle.foyer_core_laws.specs.Settings.{Settings}
use Rattle.foyer_core_steps.specs.declared.state.Core.{Core}
use Rattle.foyer_core_steps.specs.declared.step.Step.{Step}
use Rattle.foyer_core_steps.specs.declared.step.Step.TheVariants as step
use Rattle.foyer_core_steps.specs.declared.step.Ticket.{Ticket}
use Rattle.foyer_core_run.specs.Causes.{AreForCause, has_fault}
use Rattle.foyer_core_run.specs.Due.{unread, due, IsUnscanned}
use Rattle.foyer_core_run.specs.Moves.{Makes}
use Rattle.foyer_core_run.specs.declared.moves.Asked.{Asked}
use Rattle.foyer_core_run.specs.declared.moves.Asked.TheVariants as asks
use Rattle.foyer_core_run.specs.declared.moves.kept.Issued.{Issued}
use Rattle.foyer_core_run.specs.declared.moves.kept.Kept.{Kept}
use Rattle.foyer_core_run.specs.declared.moves.steps.Issuing.{Issuing}
use Rattle.foyer_core_run.specs.declared.moves.steps.Issuing.TheVariants as issuing
use Rattle.foyer_core_access.specs.declared.reclaims.Part.{Part}

abbrev pub ticket_in : {K V P A : Type 0} → Reply K V P A → Option Ticket
ticket_in (reply.Read ticket) = Some ticket
ticket_in answer = None

abbrev pub block_in : {K V P A : Type 0} → Reply K V P A → Option ℕ
block_in (reply.Write block writes) = Some block
block_in answer = None

-- of a reply that issues writes, the n-th
abbrev pub write_at : {K V P A : Type 0} → Option (Reply K V P A) → ℕ → Option (Write A)
write_at (Some (reply.Write block writes)) n = slice_get writes.items n
write_at answer n = None

-- a ticket that was issued goes behind the others
abbrev pub with_ticket : Option Ticket → List (Option Ticket) → List (Option Ticket)
with_ticket None tickets = tickets
with_ticket (Some ticket) tickets = tickets ++ Some ticket ∷ []

abbrev pub issued_of : Option Ticket → Option model_step.Ticket
issued_of None = None
issued_of (Some ticket) = Some (ticket_of ticket)

-- these writes of a block, of which the first is due
abbrev pub next_of : ℕ → List layout.Write → Option (ℕ × List layout.Write)
next_of b [] = None
next_of b (w ∷ ws) = Some (b, w ∷ ws)

-- the writes of a reply, from the next one on, are due
pub record IsIssued {K V P A : Type 0} (said : List (Reply K V P A)) (x : Issued) (pending : BlockWrites) : Type 0 where
  pub block : ℕ
  pub writes : Vec (Write A) A
  pub reply : slice_get said x.reply ≡ Some (reply.Write block writes)
  pub due : due pending ≡ next_of x.block (map write_of (drop x.next writes.items))

-- a step that brings no result of an access, and whose hash has 64 bits
abbrev pub IsFree : {K V P A : Type 0} → Step K V P A → Type 0
IsFree (step.Enqueue piece size) = piece.piece.hash ≤ last_number
IsFree (step.Delete hash) = hash ≤ last_number
IsFree (step.LoadEnd ticket outcome) = ⊥
IsFree (step.FlushBlock flusher) = ⊥
IsFree (step.FlushWrote flusher outcome) = ⊥
IsFree (step.ReclaimRead block outcome) = ⊥
IsFree (step.ReclaimCleaned block outcome) = ⊥
IsFree (step.DestroyCleaned block outcome) = ⊥
IsFree given = Unit {0}

abbrev pub AsksFreely : {K V P A : Type 0} → Asked K V P A → Type 0
AsksFreely (asks.Step given) = IsFree given
AsksFreely other = Unit {0}

-- of a list of what may be due, the i-th
abbrev pub at : {X : Type 0} → Option (Option X) → Option X
at None = None
at (Some x) = x

-- of a list of what is to be done, whether the i-th is
abbrev pub is_set : Option Bool → Bool
is_set None = false
is_set (Some x) = x

-- what a step issues of blocks, unless it comes back
abbrev pub issuing_in : {K V P A : Type 0} → Step K V P A → Issuing
issuing_in step.ReclaimBegin = issuing.FirstRead
issuing_in (step.ReclaimForget block) = issuing.Clean block
issuing_in step.DestroyClear = issuing.Cleans
issuing_in given = issuing.Nothing

-- a reclaim that begins reads an index first
abbrev pub scans_noted : {K V P A : Type 0} → Issuing → (index_len : ℕ) → Reply K V P A → List (Option Part) → List (Option Part)
scans_noted issuing.FirstRead index_len (reply.Picked block answers probation) scans = slice_set scans block (Some (record { offset = 0; len = index_len }))
scans_noted issued index_len answer scans = scans

-- the clean of a reclaim, or those of all blocks
abbrev pub cleans_noted : {K V P A : Type 0} → Issuing → Reply K V P A → List Bool → List Bool
cleans_noted (issuing.Clean block) (reply.Clean same) cleans = slice_set cleans block true
cleans_noted issuing.Cleans reply.Cleared cleans = replicate (length cleans) true
cleans_noted issued answer cleans = cleans

-- what is due of a flusher: without a note of it no write is, or none was issued in this run
abbrev pub IsDue : {K V P A : Type 0} → (before : BlockWrites) → List (Reply K V P A) → Option Issued → BlockWrites → Type 0
IsDue before said None pending = (pending ≡ before) ⊎ (due pending ≡ None)
IsDue before said (Some x) pending = IsIssued said x pending

-- what the reclaim of a block reads next: without a note of it no read is due, or none was issued in this run
abbrev pub IsScanDue : (before : Option Scan) → Option Part → Option Scan → Type 0
IsScanDue before None scan = (scan ≡ before) ⊎ (IsUnscanned scan → ⊥)
IsScanDue before (Some part) scan = scan ≡ Some (record { offset = part.offset; len = part.len; read_state = ReadIssued })

-- the same of a block's clean
abbrev pub IsCleanDue : (before : CleanState) → Bool → CleanState → Type 0
IsCleanDue before true clean_state = clean_state ≡ CleanIssued
IsCleanDue before false clean_state = (clean_state ≡ before) ⊎ (clean_state ≢ CleanIssued)

-- In this world a run is under way, which began in another.
pub record IsRunning {K V P A : Type 0} (m : Meaning K V P) (s : Settings) (from : World Content) (tickets : List (Option Ticket)) (issued : List (Option Issued)) (scans : List (Option Part)) (cleans : List Bool) (said : List (Reply K V P A)) (core : Core K V P A) (bytes : ℕ → ℕ → ℕ) (w : World Content) : Type 0 where
  pub stands : IsStateOf m s core w.core
  pub same : (b o : ℕ) → w.bytes b o ≡ bytes b o
  pub count : w.issued ≡ from.issued + length tickets
  pub loads : (n : ℕ) (x : Option Ticket) → slice_get tickets n ≡ Some x → unread (w.loads (from.issued + n)) ≡ issued_of x
  pub flushers : length issued ≡ s.flushers
  pub writes : (f : ℕ) → IsDue (from.block_writes f) said (at (slice_get issued f)) (w.block_writes f)
  pub blocks : (length scans ≡ s.blocks) × (length cleans ≡ s.blocks)
  pub due_scans : (b : ℕ) → IsScanDue (from.scans b) (at (slice_get scans b)) (w.scans b)
  pub due_cleans : (b : ℕ) → IsCleanDue (from.clean_states b) (is_set (slice_get cleans b)) (w.clean_states b)

-- One move was made, whether an access of it failed or not; one that did has a cause.
pub record IsMoved {K V P A : Type 0} (m : Meaning K V P) (s : Settings) (sound : AreValid s) (came : ℕ → ℕ → ℕ → Type 0) (failed : Bool) (from : World Content) (x : Asked K V P A) (before : List (Reply K V P A)) (tickets : List (Option Ticket)) (issued : List (Option Issued)) (scans : List (Option Part)) (cleans : List Bool) (said : List (Reply K V P A)) (core : Core K V P A) (bytes : ℕ → ℕ → ℕ) (w : World Content) : Type 0 where
  pub events : List (WorldEvent Content)
  pub answers : List (Reply K V P A)
  pub happened : MayAllHappen (machine m s sound) (layout s) (IsEncoded m.is_key m.is_value) w events
  pub made : Makes m from w x events answers
  pub replies : said ≡ before ++ answers
  pub causes : AreForCause came (machine m s sound) w events
  pub faults : has_fault events ≡ failed
  pub running : IsRunning m s from tickets issued scans cleans said core bytes (after_all (machine m s sound) w events)

-- and whether one failed is noted
abbrev pub Moves : {K V P A : Type 0} → (came : ℕ → ℕ → ℕ → Type 0) → Meaning K V P → Asked K V P A → Kept K V P A → Kept K V P A → Core K V P A → Core K V P A → (ℕ → ℕ → ℕ) → (ℕ → ℕ → ℕ) → Type 0
Moves came m x old new core core' bytes bytes' =
    (s : Settings) (sound : AreValid s) (from w : World Content)
    → IsRunning m s from old.tickets.items old.issued.items old.scans.items old.cleans.items old.replies.items core bytes w
    → (failed : Bool) × (new.has_failed ≡ (old.has_failed || failed)) × IsMoved m s sound came failed from x old.replies.items new.tickets.items new.issued.items new.scans.items new.cleans.items new.replies.items core' bytes' w

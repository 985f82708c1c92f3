-- What a worker does at its disk, and what its session shows of it.
use Rattle.std.specs.Prelude.{◌≡◌, ◌⊎◌, ◌&&◌, ℕ, Bool, true, false, List, [], ◌∷◌, length, Option, Some, None, Result, Ok, OnOk, OnErr, IfOk, is_ok, vec_len}
use Rattle.std.specs.declared.vec.Vec.{Vec}
use Rattle.foyer_core_access.specs.declared.reclaims.Part.{Part}
use Rattle.foyer_core_shared.specs.Briefs.{len_of, outcome_of}
use Rattle.foyer_core_shared.specs.Issuing.{written_bytes}
use Rattle.foyer_core_shared.specs.Reply.{Reply}
use Rattle.foyer_core_shared.specs.Reply.TheVariants as reply
use Rattle.foyer_core_shared.specs.Sessions.{SessionState}
use Rattle.foyer_core_shared.specs.declared.brief.ReplyBrief.{ReplyBrief}
use Rattle.foyer_core_shared.specs.declared.brief.ReplyBrief.TheVariants as replied
use Rattle.foyer_core_shared.specs.declared.brief.StepBrief.TheVariants as asked
use Rattle.foyer_device_page.specs.declared.error.Error.{Error}
use Rattle.foyer_device_page.specs.declared.error.ErrorKind.{ErrorKind}
use Rattle.foyer_io_disk.specs.Disk.{IsRead, IsTorn, IsWritten}

abbrev pub is_next : ReplyBrief → Bool
is_next replied.Next = true
is_next other = false

-- whether a block's next write is to be done: this one was, and the reply to its report asks for the next
abbrev pub wants_next : Result (Unit {0}) Error → ReplyBrief → Bool
wants_next outcome answer = is_next answer && is_ok outcome

-- The newest step reports the outcome of a write of these bytes, which the disk did, or failed at unless it surely comes; and so the next
-- write is to be done or not.
pub record ReportsWrite (flusher block offset : ℕ) (bytes : List ℕ) (old new : ℕ → ℕ → ℕ) (surely_came : Type 0) (session : SessionState) (goes_on : Bool) : Type 0 where
  pub outcome : Result (Unit {0}) Error
  pub answer : ReplyBrief
  pub newest : session.newest ≡ Some (record { step = asked.FlushWrote flusher (outcome_of outcome); reply = answer })
  pub wrote : OnOk outcome (IsWritten old block offset bytes new)
  pub torn : OnErr outcome (IsTorn old block offset (length bytes) new)
  pub fails : OnErr outcome (surely_came → ⊥)
  pub goes : goes_on ≡ wants_next outcome answer

-- the newest step reports a write of this flusher that was done, and its reply asks for the next one
abbrev pub AsksForNext : (flusher : ℕ) → SessionState → Type 0
AsksForNext flusher session = session.newest ≡ Some (record { step = asked.FlushWrote flusher (Ok tt); reply = replied.Next })

-- a write after which none was done, since it failed, or its reply doesn't ask for the next one: the newest step reports it
pub record IsLeftAt (flusher block offset : ℕ) (bytes : List ℕ) (session : SessionState) (old new : ℕ → ℕ → ℕ) : Type 0 where
  pub outcome : Result (Unit {0}) Error
  pub answer : ReplyBrief
  pub newest : session.newest ≡ Some (record { step = asked.FlushWrote flusher (outcome_of outcome); reply = answer })
  pub wrote : OnOk outcome (IsWritten old block offset bytes new)
  pub torn : OnErr outcome (IsTorn old block offset (length bytes) new)
  pub left : wants_next outcome answer ≡ false

module _ {W : Type 0} (offset_of : W → ℕ) (bytes_of : W → List ℕ) (flusher block : ℕ) (session : SessionState) where
  -- These writes were done in their order, each wholly and behind the one before, up to one after which none was. If there is no such one, the
  -- newest step is the last one's report, or what is given holds if there are no writes.
  abbrev pub AreWrittenBehind : (given : Type 0) → List W → (old new : ℕ → ℕ → ℕ) → Type 0
  AreWrittenBehind given [] old new = (new ≡ old) × given
  AreWrittenBehind given (w ∷ ws) old new =
      ((middle : ℕ → ℕ → ℕ) × IsWritten old block (offset_of w) (bytes_of w) middle × AreWrittenBehind (AsksForNext flusher session) ws middle new)
      ⊎ IsLeftAt flusher block (offset_of w) (bytes_of w) session old new

-- a block's writes were done so
abbrev pub AreWritten : {W : Type 0} → List W → (offset_of : W → ℕ) → (bytes_of : W → List ℕ) → (flusher block : ℕ) → SessionState → (old new : ℕ → ℕ → ℕ) → Type 0
AreWritten ws offset_of bytes_of flusher block session old new = AreWrittenBehind offset_of bytes_of flusher block session (Unit {0}) ws old new

-- a reply to the question which block a batch writes next names one, or has the flusher wait for one
abbrev pub names_block : ReplyBrief → Bool
names_block (replied.Write block writes) = true
names_block replied.NoBlock = true
names_block other = false

-- What such a reply asks was done: the writes that it names, to the block that it names; or nothing.
abbrev pub IsDoneAs : {K V P A : Type 0} → Reply K V P A → (flusher : ℕ) → SessionState → (old new : ℕ → ℕ → ℕ) → Type 0
IsDoneAs (reply.Write block writes) flusher session old new =
    AreWritten writes.items (λ w. w.offset) (λ w. written_bytes w.bytes) flusher block session old new
IsDoneAs other flusher session old new = new ≡ old

-- the newest step asks which block a batch writes next, and its reply names none, nor has the flusher wait for one
pub record IsAtBatchEnd (flusher : ℕ) (session : SessionState) : Type 0 where
  pub answer : ReplyBrief
  pub newest : session.newest ≡ Some (record { step = asked.FlushBlock flusher; reply = answer })
  pub ended : names_block answer ≡ false

-- a reply has a reclaim read on in its block
abbrev pub reads_on : ReplyBrief → Bool
reads_on (replied.Scan block offset len listed) = true
reads_on other = false

-- the newest step brings what was read of a block that is reclaimed, and its reply has no more of it read
pub record HasRead (block : ℕ) (session : SessionState) : Type 0 where
  pub outcome : Result ℕ ErrorKind
  pub answer : ReplyBrief
  pub newest : session.newest ≡ Some (record { step = asked.ReclaimRead block outcome; reply = answer })
  pub ended : reads_on answer ≡ false

-- what a reclaim reads first: an index
abbrev pub first_part : (index_size : ℕ) → Part
first_part index_size = record { offset = 0; len = index_size }

-- what a reply has read next
abbrev pub part_of : ReplyBrief → Option Part
part_of (replied.Scan block offset len listed) = Some (record { offset = offset; len = len })
part_of other = None

-- The newest step brings what was read of a part of a block, if contracts see what the disk has, or a fault; and its reply has this read next.
pub record ReportsRead (A : Type 0) (block : ℕ) (bytes_at : ℕ → ℕ → ℕ) (part : Part) (session : SessionState) (then : Option Part) : Type 0 where
  pub outcome : Result (Vec ℕ A) Error
  pub answer : ReplyBrief
  pub newest : session.newest ≡ Some (record { step = asked.ReclaimRead block (len_of outcome); reply = answer })
  pub read : IfOk outcome (λ bytes. IsRead bytes_at block part.offset bytes.items)
  pub whole : IfOk outcome (λ bytes. vec_len bytes ≡ part.len)
  pub next : then ≡ part_of answer

-- A part of a block was read and reported, and then those behind it, each as the reply to the one before has it; the newest step is the last
-- one's report.
abbrev pub AreReadOn : (A : Type 0) → (block : ℕ) → (bytes_at : ℕ → ℕ → ℕ) → SessionState → (behind : List Part) → Part → Type 0
AreReadOn A block bytes_at session [] part = ReportsRead A block bytes_at part session None
AreReadOn A block bytes_at session (next ∷ behind) part = ((at : SessionState) × ReportsRead A block bytes_at part at (Some next)) × AreReadOn A block bytes_at session behind next

abbrev pub AreReadFrom : (A : Type 0) → (block : ℕ) → (bytes_at : ℕ → ℕ → ℕ) → SessionState → Part → Type 0
AreReadFrom A block bytes_at session part = (behind : List Part) × AreReadOn A block bytes_at session behind part

-- the newest step has the entries of this block forgotten
abbrev pub AsksToForget : (block : ℕ) → SessionState → Type 0
AsksToForget block session = (answer : ReplyBrief) × (session.newest ≡ Some (record { step = asked.ReclaimForget block; reply = answer }))

-- What a reply says of its step.
use Rattle.std.specs.Prelude.{◌≡◌, ℕ, ◌+◌, ◌==◌, length, Bool, true, false, ◌⊎◌, List, take, drop, slice_get, Option, Some, None, is_some, IsSomeAnd, Result, Ok, Err}
use Rattle.foyer_block_index.specs.Index.{address_at}
use Rattle.foyer_block_index.specs.Insertion.{inserted}
use Rattle.foyer_block_index.specs.declared.indexer.Index.TheVariants as index
use Rattle.foyer_device_page.specs.declared.error.Error.{Error}
use Rattle.foyer_format_record.specs.Record.{pair_of}
use Rattle.foyer_format_record.specs.Record.Outcome.{Pair}
use Rattle.foyer_policy_piece.specs.Referred.{Referred}
use Rattle.foyer_core_flusher.specs.Failing.{MustGrowFor}
use Rattle.foyer_block_manager.specs.BlockSets.{BlockSets, Stands, MayReclaim, reclaim_count}
use Rattle.foyer_block_manager.specs.Pickers.{Info, answers_of, picker_info}
use Rattle.foyer_block_manager.specs.Picks.{Picks, usable_in}
use Rattle.foyer_core_steps.specs.Asked.{went_well}
use Rattle.foyer_core_steps.specs.declared.reply.Reply.{Reply}
use Rattle.foyer_core_steps.specs.declared.reply.Reply.TheVariants as reply
use Rattle.foyer_core_steps.specs.declared.state.Core.{Core}
use Rattle.foyer_core_steps.specs.declared.step.Step.{Step}
use Rattle.foyer_core_steps.specs.declared.step.Step.TheVariants as step
use Rattle.foyer_core_steps.specs.declared.step.Ticket.{Ticket}
use Rattle.std.specs.declared.vec.Vec.{Vec}
use Rattle.foyer_core_steps.specs.Unchanged.{IsUnchanged}

-- a step that is out of turn or refused is returned, and nothing changed
abbrev pub HandsBack : {K V P A : Type 0} → Step K V P A → Reply K V P A → Core K V P A → Core K V P A → Type 0
HandsBack given (reply.NotNow back) old new = (back ≡ given) × IsUnchanged old new
HandsBack given (reply.Refused kind back) old new = (back ≡ given) × IsUnchanged old new
HandsBack given answer old new = Unit {0}

-- the step brings the bytes of this encoded pair: its record, judged by as many bytes as its address has
abbrev pub BringsPair : {K V P A : Type 0} → (List ℕ → Bool) → (List ℕ → Bool) → List ℕ → List ℕ → Step K V P A → Type 0
BringsPair is_key is_value key value (step.LoadEnd ticket (Ok bytes)) =
    pair_of is_key is_value (take ticket.address.len bytes.items) ticket.hash ticket.address.sequence ≡ Pair key value
BringsPair is_key is_value key value given = ⊥

-- a piece got the next sequence, from a core that isn't closed
abbrev pub Queues : {K V P A : Type 0} → Step K V P A → ℕ → Core K V P A → Core K V P A → Type 0
Queues (step.Enqueue piece size) sequence old new =
    (old.closed ≡ false) × (sequence ≡ old.next) × (new.next ≡ sequence + 1) × (new.index ≡ old.index)
Queues given sequence old new = ⊥

-- the mark of a hash got the next sequence, and is in the index
abbrev pub Marks : {K V P A : Type 0} → (hash sequence : ℕ) → Core K V P A → Core K V P A → Type 0
Marks hash sequence old new =
    (sequence ≡ old.next) × (new.next ≡ sequence + 1)
    × (new.index.slots ≡ inserted old.index.slots hash (index.Tombstone sequence))

-- the piece of an enqueue to a core that isn't closed comes back, and its hash is deleted
abbrev pub Drops : {K V P A : Type 0} → Step K V P A → Referred K V P → ℕ → Core K V P A → Core K V P A → Type 0
Drops (step.Enqueue piece size) back sequence old new = (back ≡ piece) × (old.closed ≡ false) × Marks piece.piece.hash sequence old new
Drops given back sequence old new = ⊥

-- a delete got the next sequence, from a core that isn't closed, and its mark is in the index
abbrev pub Deletes : {K V P A : Type 0} → Step K V P A → ℕ → Core K V P A → Core K V P A → Type 0
Deletes (step.Delete hash) sequence old new = (old.closed ≡ false) × Marks hash sequence old new
Deletes given sequence old new = ⊥

-- whether the hash that was asked for is indexed, or whether no block is reclaimed
abbrev pub Asks : {K V P A : Type 0} → Step K V P A → Bool → Core K V P A → Type 0
Asks (step.MayContains hash) answer old = answer ≡ is_some (address_at old.index.slots hash)
Asks step.ReclaimIdle answer old =
    (sets : BlockSets) → Stands old.manager sets → answer ≡ (reclaim_count (length old.manager.blocks) sets.block_set == 0)
Asks given answer old = ⊥

-- the ticket has the hash that was looked up, and its address, and the caller doesn't throttle
abbrev pub Looks : {K V P A : Type 0} → Step K V P A → Ticket → Core K V P A → Type 0
Looks (step.LoadBegin hash throttled) ticket old =
    (ticket.hash ≡ hash) × (address_at old.index.slots hash ≡ Some ticket.address) × (throttled ≡ false)
Looks given ticket old = ⊥

-- the piece that an enqueue handed in comes back
abbrev pub Returns : {K V P A : Type 0} → Step K V P A → Referred K V P → Type 0
Returns (step.Enqueue piece size) back = back ≡ piece
Returns given back = ⊥

-- what a reply says, unless it returns the step
abbrev pub Describes : {K V P A : Type 0} → (List ℕ → Bool) → (List ℕ → Bool) → (K → List ℕ) → (V → List ℕ)
    → Step K V P A → Reply K V P A → Core K V P A → Core K V P A → Type 0
Describes is_key is_value key_of value_of given (reply.Entry key value age) old new =
    BringsPair is_key is_value (key_of key) (value_of value) given
Describes is_key is_value key_of value_of given (reply.Ignored back) old new = Returns given back
Describes is_key is_value key_of value_of given (reply.Queued sequence) old new = Queues given sequence old new
Describes is_key is_value key_of value_of given (reply.Dropped back sequence) old new = Drops given back sequence old new
Describes is_key is_value key_of value_of given (reply.Deleted sequence) old new = Deletes given sequence old new
Describes is_key is_value key_of value_of given (reply.Answer answer) old new = Asks given answer old
Describes is_key is_value key_of value_of given (reply.Read ticket) old new = Looks given ticket old
Describes is_key is_value key_of value_of given answer old new = Unit {0}

-- a reply of another kind than those
abbrev pub DescribesNothing : {K V P A : Type 0} → Reply K V P A → Type 0
DescribesNothing (reply.Entry key value age) = ⊥
DescribesNothing (reply.Ignored back) = ⊥
DescribesNothing (reply.Queued sequence) = ⊥
DescribesNothing (reply.Dropped back sequence) = ⊥
DescribesNothing (reply.Deleted sequence) = ⊥
DescribesNothing (reply.Answer answer) = ⊥
DescribesNothing (reply.Read ticket) = ⊥
DescribesNothing answer = Unit {0}

-- an enqueue's answer has a sequence, or the piece, or both
abbrev pub Enqueues : {K V P A : Type 0} → Step K V P A → Reply K V P A → Core K V P A → Core K V P A → Type 0
Enqueues given (reply.Ignored back) old new = Returns given back
Enqueues given (reply.Queued sequence) old new = Queues given sequence old new
Enqueues given (reply.Dropped back sequence) old new = Drops given back sequence old new
Enqueues given answer old new = DescribesNothing answer

-- and so of a delete's
abbrev pub Deleting : {K V P A : Type 0} → Step K V P A → Reply K V P A → Core K V P A → Core K V P A → Type 0
Deleting given (reply.Deleted sequence) old new = Deletes given sequence old new
Deleting given answer old new = DescribesNothing answer

-- of a look-up's answers one has a ticket
abbrev pub Looking : {K V P A : Type 0} → Step K V P A → Reply K V P A → Core K V P A → Type 0
Looking given (reply.Read ticket) old = Looks given ticket old
Looking given answer old = DescribesNothing answer

-- whether no reclaim runs is the one answer
abbrev pub Idling : {K V P A : Type 0} → Step K V P A → Reply K V P A → Core K V P A → Type 0
Idling given (reply.Answer answer) old = Asks given answer old
Idling given answer old = DescribesNothing answer

-- A reclaim only begins if it may. It begins with the first of the borrowed pickers' answers that is an evictable block. If no
-- answer is one, it begins with any evictable block. The reply has the answers up to the pick, and the blocks that these
-- pickers put on probation.
abbrev pub IsPicked : {K V P A Q : Type 0} → (Q → Info → Option ℕ) → (Q → Info → List ℕ) → List Q → Reply K V P A → Core K V P A → Core K V P A → Type 0
IsPicked says marks pickers (reply.Picked block answers probation) old new =
    (sets : BlockSets) → Stands old.manager sets
    → MayReclaim (length old.manager.blocks) old.manager.reclaimers old.manager.clean_threshold sets
    × Picks old.manager sets (answers_of says marks pickers (picker_info old.manager.blocks old.manager.evictable (usable_in old.manager)))
    block answers.items probation.items new.manager
IsPicked says marks pickers answer old new = Unit {0}

-- of a load's answers one is a pair
abbrev pub AnswersPair : {K V P A : Type 0} → (List ℕ → Bool) → (List ℕ → Bool) → (K → List ℕ) → (V → List ℕ)
    → Step K V P A → Reply K V P A → Type 0
AnswersPair is_key is_value key_of value_of given (reply.Entry key value age) =
    BringsPair is_key is_value (key_of key) (value_of value) given
AnswersPair is_key is_value key_of value_of given answer = DescribesNothing answer

-- a step may be answered Failed; if the write that it reports succeeded, this is only so if the index has to grow for the
-- records
abbrev pub MayFail : {K V P A : Type 0} → Step K V P A → Core K V P A → Type 0
MayFail (step.FlushWrote flusher outcome) old =
    went_well outcome ≡ true → IsSomeAnd (slice_get old.flushers.items flusher) (MustGrowFor old.index)
MayFail given old = Unit {0}

-- the buffer of what was read, unless the step that is returned has it
abbrev pub spare_of : {K V P A : Type 0} → Result (Vec ℕ A) Error → Reply K V P A → Option (Vec ℕ A)
spare_of outcome (reply.NotNow back) = None
spare_of outcome (reply.Refused kind back) = None
spare_of (Ok bytes) answer = Some bytes
spare_of (Err e) answer = None

-- what a load brought may be refused for memory if decoding its record's value or key takes some, or if a clone of the
-- allocator may be refused
abbrev pub MayWantMemory : {A : Type 0} → (List ℕ → Type 0) → (List ℕ → Type 0) → Type 0 → Ticket → Result (Vec ℕ A) Error → Type 0
MayWantMemory key_takes value_takes is_sure ticket (Ok bytes) =
    (value_len key_len : ℕ)
    × (value_takes (take value_len (drop 36 (take ticket.address.len bytes.items)))
    ⊎ key_takes (take key_len (drop value_len (drop 36 (take ticket.address.len bytes.items)))) ⊎ (is_sure → ⊥))
MayWantMemory key_takes value_takes is_sure ticket (Err e) = ⊥

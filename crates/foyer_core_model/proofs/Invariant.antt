-- What is true of every world that can be reached.
use Rattle.std.proofs.Common.{◌≡◌, ◌≢◌, ℕ, ◌+◌, ◌<◌, ◌≤◌, Bool, true, false, List, [], ◌∷◌, ◌++◌, map, take, Option, Some, None}
use Rattle.foyer_core_model.specs.Numbers.{page}
use Rattle.foyer_core_model.specs.Record.{Address, Slot, Indexed, Mark, Outcome, Holds, Source, Given, Reread, Record}
use Rattle.foyer_format_layout.specs.BlockBytes.{Write, laid, all_laid, read, IsBeside}
use Rattle.foyer_core_model.specs.Position.{Position, BlockLayout, records_of, last_end}
use Rattle.foyer_core_model.specs.State.{Submission, Piece, Remove, Await, Reinsert, Writing, Batch, Flusher, BlockSet, Writes}
use Rattle.foyer_core_model.specs.Rules.{Rules, flusher_of, first_position}
use Rattle.foyer_core_model.specs.Step.{Bytes, Fault}
use Rattle.foyer_format_layout.specs.Position.{MayWrite}
use Rattle.foyer_core_model.specs.Layout.{AllStand, AllOutside, AllBehind, KeepsBlocks}
use Rattle.foyer_core_model.specs.Event.{Event, Put, Deletion, sequence_in, newest}
use Rattle.foyer_core_model.specs.Access.{BlockWrites, Idle, Issued, InFlight, ReadState, ReadIssued, Reading, ReadDone, Load}
use Rattle.foyer_core_model.specs.World.{World, covers}
use Rattle.foyer_format_layout.specs.Each.{Each}
use Rattle.foyer_core_model.proofs.Basics.{Ascends}

-- what the invariant sees of a world
pub record View (C : Type 0) : Type 0 where
  pub index : ℕ → Option Slot
  pub next : ℕ
  pub flushers : ℕ → Flusher C
  pub place : ℕ → BlockSet
  pub filled : ℕ → Position
  pub filling : ℕ → ℕ
  pub bytes : ℕ → ℕ → ℕ
  pub history : List (Event C)
  pub loads : ℕ → Option (Load C)
  pub block_writes : ℕ → BlockWrites

abbrev pub view_of : {C : Type 0} → World C → View C
view_of w =
    record {
      index = w.core.index;
      next = w.core.next;
      flushers = w.core.flushers;
      place = w.core.place;
      filled = w.filled;
      filling = w.core.filling;
      bytes = w.bytes;
      history = w.history;
      loads = w.loads;
      block_writes = w.block_writes;
    }

-- of each block how far it is filled, in which filling, and its bytes
pub record Ground : Type 0 where
  pub filled : ℕ → Position
  pub filling : ℕ → ℕ
  pub bytes : ℕ → ℕ → ℕ

abbrev pub ground_in : {C : Type 0} → View C → Ground
ground_in v = record { filled = v.filled; filling = v.filling; bytes = v.bytes }

abbrev pub ground_of : {C : Type 0} → World C → Ground
ground_of w = record { filled = w.filled; filling = w.core.filling; bytes = w.bytes }

-- the pages of an address
abbrev pub InPages : {C : Type 0} → Rules C → Address → ℕ → Type 0
InPages rules a o = (a.offset ≤ o) × (o < a.offset + rules.page_up a.len)

-- no write of these touches the pages
abbrev pub Spares : {C : Type 0} → Rules C → Address → Write → Type 0
Spares rules a v = (o : ℕ) → InPages rules a o → IsBeside v o

abbrev pub WritesSpare : {C : Type 0} → Rules C → Address → BlockWrites → Type 0
WritesSpare rules a Idle = Unit {0}
WritesSpare rules a (Issued b results ws) = a.block ≡ b → Each (Spares rules a) ws
WritesSpare rules a (InFlight b results w ws) = a.block ≡ b → Each (Spares rules a) (w ∷ ws)

-- in its filling, an address has bytes with this outcome, and no write touches them any more
pub record IsSolid {C : Type 0} (rules : Rules C) (g : Ground) (block_writes : ℕ → BlockWrites) (h : ℕ) (a : Address) (x : Outcome C) : Type 0 where
  pub outcome : rules.pair_of (read (g.bytes a.block) a.offset a.len) h a.sequence ≡ x
  pub shut : (o : ℕ) → InPages rules a o → MayWrite rules.index_size (g.filled a.block) o → ⊥
  pub spared : (f : ℕ) → WritesSpare rules a (block_writes f)
  pub past : page ≤ a.offset

pub record IsGood {C : Type 0} (rules : Rules C) (g : Ground) (block_writes : ℕ → BlockWrites) (h : ℕ) (a : Address) (x : Outcome C) : Type 0 where
  pub older : a.filling ≤ g.filling a.block
  pub solid : a.filling ≡ g.filling a.block → IsSolid rules g block_writes h a x

-- what waits at a flusher

abbrev pub put_in : {C : Type 0} → ℕ → ℕ → Source C → List (ℕ × ℕ) → List (ℕ × ℕ)
put_in h s (Given c) line = (h, s) ∷ line
put_in h s (Reread a) line = line

-- the hashes and sequences of new pieces, in front of a line
abbrev pub puts_onto : {C : Type 0} → List (Record C) → List (ℕ × ℕ) → List (ℕ × ℕ)
puts_onto [] line = line
puts_onto (r ∷ rs) line = put_in r.hash r.sequence r.source (puts_onto rs line)

abbrev pub queue_puts : {C : Type 0} → List (Submission C) → List (ℕ × ℕ)
queue_puts [] = []
queue_puts (Piece h s n c ∷ rest) = (h, s) ∷ queue_puts rest
queue_puts (Remove h s invalidated ∷ rest) = queue_puts rest
queue_puts (Await i ∷ rest) = queue_puts rest
queue_puts (Reinsert h bytes a ∷ rest) = queue_puts rest

abbrev pub writing_in : {C : Type 0} → Option (Batch C) → Option (Writing C)
writing_in None = None
writing_in (Some b) = b.writing

abbrev pub placed_in : {C : Type 0} → Option (Writing C) → List (ℕ × Record C)
placed_in None = []
placed_in (Some w) = w.records

abbrev pub blocks_in : {C : Type 0} → Option (Batch C) → List (BlockLayout C)
blocks_in None = []
blocks_in (Some b) = b.blocks

abbrev pub goes_on_in : {C : Type 0} → Option (Batch C) → Bool
goes_on_in None = false
goes_on_in (Some b) = b.continues_own_block

abbrev pub marks_in : {C : Type 0} → Option (Batch C) → List (ℕ × ℕ)
marks_in None = []
marks_in (Some b) = b.marks

abbrev pub batch_records : {C : Type 0} → Option (Batch C) → List (Record C)
batch_records b = map (λ p. p.1) (placed_in (writing_in b)) ++ records_of (blocks_in b)

abbrev pub line_of : {C : Type 0} → Flusher C → List (ℕ × ℕ)
line_of φ = puts_onto (batch_records φ.batch) (puts_onto φ.buffer (queue_puts φ.queue))

abbrev pub AtLeast : ℕ → ℕ → List (ℕ × ℕ) → Type 0
AtLeast h n line = Each (λ p. p.0 ≡ h → n ≤ p.1) line

abbrev pub SlotOk : {C : Type 0} → Rules C → Ground → (ℕ → BlockWrites) → List (Event C) → ℕ → List (ℕ × ℕ) → Option Slot → Type 0
SlotOk {C} rules g block_writes H h line (Some (Indexed a)) =
    (x : Outcome C) × (newest h H ≡ Some (Put h a.sequence x)) × IsGood rules g block_writes h a x × AtLeast h a.sequence line
SlotOk rules g block_writes H h line (Some (Mark d)) = newest h H ≡ Some (Deletion h d)
SlotOk rules g block_writes H h line None = AtLeast h (sequence_in (newest h H)) line

-- of a load

-- what a read of an address gave
abbrev pub ReadStateHolds : {C : Type 0} → Rules C → Ground → Address → ReadState → Type 0
ReadStateHolds rules g a ReadIssued = Unit {0}
ReadStateHolds rules g a (Reading covers) = (o : ℕ) → InPages rules a o → covers o ≡ false
ReadStateHolds rules g a (ReadDone Fault) = Unit {0}
ReadStateHolds rules g a (ReadDone (Bytes bs)) = take a.len bs ≡ read (g.bytes a.block) a.offset a.len

pub record IsPromised {C : Type 0} (rules : Rules C) (g : Ground) (block_writes : ℕ → BlockWrites) (l : Load C) : Type 0 where
  pub outcome : Outcome C
  pub promise : l.promise ≡ Some (Put l.ticket.hash l.ticket.address.sequence outcome)
  pub good : IsGood rules g block_writes l.ticket.hash l.ticket.address outcome
  pub read_state : l.ticket.address.filling ≡ g.filling l.ticket.address.block → ReadStateHolds rules g l.ticket.address l.read_state

abbrev pub LoadOk : {C : Type 0} → Rules C → Ground → (ℕ → BlockWrites) → Option (Load C) → Type 0
LoadOk rules g block_writes None = Unit {0}
LoadOk rules g block_writes (Some l) = IsPromised rules g block_writes l

-- of a flusher

abbrev pub sequences : List (ℕ × ℕ) → List ℕ
sequences [] = []
sequences (p ∷ ps) = p.1 ∷ sequences ps

abbrev pub queue_sequences : {C : Type 0} → List (Submission C) → List ℕ
queue_sequences [] = []
queue_sequences (Piece h s n c ∷ rest) = s ∷ queue_sequences rest
queue_sequences (Remove h s invalidated ∷ rest) = s ∷ queue_sequences rest
queue_sequences (Await i ∷ rest) = queue_sequences rest
queue_sequences (Reinsert h bytes a ∷ rest) = queue_sequences rest

-- first what is in the batch, then what was received, then what is queued
pub record IsOrdered {C : Type 0} (next : ℕ) (φ : Flusher C) : Type 0 where
  pub received : ℕ
  pub queued : ℕ
  pub batch : Ascends 0 (sequences (puts_onto (batch_records φ.batch) [])) received
  pub batch_marks : Each (λ p. p.1 < received) (marks_in φ.batch)
  pub buffer : Ascends received (sequences (puts_onto φ.buffer [])) queued
  pub marks : Each (λ p. p.1 < queued) φ.marks
  pub queue : Ascends queued (queue_sequences φ.queue) next

abbrev pub SourceOk : {C : Type 0} → Rules C → ℕ → Record C → Source C → Type 0
SourceOk rules f r (Given c) = (flusher_of rules r.hash ≡ f) × (rules.pair_of r.bytes r.hash r.sequence ≡ Holds c)
SourceOk rules f r (Reread a) = Unit {0}

abbrev pub RecordOk : {C : Type 0} → Rules C → ℕ → Record C → Type 0
RecordOk rules f r = SourceOk rules f r r.source

abbrev pub SubmissionOk : {C : Type 0} → Rules C → ℕ → Submission C → Type 0
SubmissionOk rules f (Piece h s n c) =
    (flusher_of rules h ≡ f) × ((bytes : List ℕ) → rules.encode h s c ≡ Some bytes → rules.pair_of bytes h s ≡ Holds c)
SubmissionOk rules f (Remove h s invalidated) = flusher_of rules h ≡ f
SubmissionOk rules f (Await i) = Unit {0}
SubmissionOk rules f (Reinsert h bytes a) = Unit {0}

-- results and writes that haven't begun are what is left: none comes after one that failed
abbrev pub AreLeft : List Bool → List Write → List Write → Type 0
AreLeft [] ws left = ws ≡ left
AreLeft (true ∷ results) ws [] = ⊥
AreLeft (true ∷ results) ws (w ∷ left) = AreLeft results ws left
AreLeft (false ∷ results) ws left = (results ≡ []) × (ws ≡ []) × (left ≢ [])

abbrev pub AllWell : List Bool → Type 0
AllWell [] = Unit {0}
AllWell (true ∷ results) = AllWell results
AllWell (false ∷ results) = ⊥

-- if no write failed, the records are stored once the writes that are left are done
abbrev pub WritesFit : {C : Type 0} → (ℕ → ℕ → ℕ) → Writing C → BlockWrites → Type 0
WritesFit bytes r Idle = ⊥
WritesFit bytes r (Issued b results ws) = (b ≡ r.block) × AreLeft results ws r.left × (AllWell results → AllStand (all_laid ws (bytes r.block)) r.records)
WritesFit bytes r (InFlight b results w ws) = (b ≡ r.block) × AreLeft results (w ∷ ws) r.left × AllStand (all_laid ws (laid w (bytes r.block))) r.records

abbrev pub WritingOk : {C : Type 0} → Rules C → Ground → Option ℕ → Option (Writing C) → BlockWrites → Type 0
WritingOk rules g own None pending = pending ≡ Idle
WritingOk rules g own (Some r) pending =
    (own ≡ Some r.block) × WritesFit g.bytes r pending
    × AllOutside rules.page_up (MayWrite rules.index_size (g.filled r.block)) r.records
    × AllBehind rules.index_size r.records

-- where the next block of a batch continues
abbrev pub start_of : {C : Type 0} → Rules C → (ℕ → Position) → Option ℕ → Bool → Position
start_of rules filled None continues_own_block = first_position rules
start_of rules filled (Some b) false = first_position rules
start_of rules filled (Some b) true = filled b

pub record FlusherInvariant {C : Type 0} (rules : Rules C) (g : Ground) (place : ℕ → BlockSet) (next : ℕ) (f : ℕ) (φ : Flusher C) (pending : BlockWrites) : Type 0 where
  pub order : IsOrdered next φ
  pub batch : Each (RecordOk rules f) (batch_records φ.batch)
  pub batch_marks : Each (λ p. flusher_of rules p.0 ≡ f) (marks_in φ.batch)
  pub buffer : Each (RecordOk rules f) φ.buffer
  pub marks : Each (λ p. flusher_of rules p.0 ≡ f) φ.marks
  pub queue : Each (SubmissionOk rules f) φ.queue
  pub split : KeepsBlocks rules (start_of rules g.filled φ.own (goes_on_in φ.batch)) (blocks_in φ.batch)
  pub context : φ.context ≡ last_end (start_of rules g.filled φ.own true) (blocks_in φ.batch)
  pub owned : (b : ℕ) → φ.own ≡ Some b → place b ≡ Writes f
  pub spare : (b : ℕ) → φ.ready ≡ Some b → (place b ≡ Writes f) × (g.filled b ≡ first_position rules)
  pub either : (b c : ℕ) → φ.own ≡ Some b → φ.ready ≡ Some c → ⊥
  pub writing : WritingOk rules g φ.own (writing_in φ.batch) pending

pub record WorldViewInvariant {C : Type 0} (rules : Rules C) (v : View C) : Type 0 where
  pub slots : (h f : ℕ) → flusher_of rules h ≡ f → SlotOk rules (ground_in v) v.block_writes v.history h (line_of (v.flushers f)) (v.index h)
  pub loads : (n : ℕ) → LoadOk rules (ground_in v) v.block_writes (v.loads n)
  pub flushers : (f : ℕ) → FlusherInvariant rules (ground_in v) v.place v.next f (v.flushers f) (v.block_writes f)
  pub next : (h : ℕ) → sequence_in (newest h v.history) < v.next

abbrev pub WorldInvariant : {C : Type 0} → Rules C → World C → Type 0
WorldInvariant rules w = WorldViewInvariant rules (view_of w)

-- of reinsertions

-- no flusher owns the block in this filling any more
abbrev pub IsBarred : (ℕ → BlockSet) → (ℕ → ℕ) → Address → Type 0
IsBarred place filling a =
    (a.filling ≤ filling a.block) × (a.filling ≡ filling a.block → (f : ℕ) → place a.block ≡ Writes f → ⊥)

-- as long as the index holds an address, the newest event of the hash is the record that was read from it
abbrev pub IsFaithful : {C : Type 0} → (ℕ → Option Slot) → List (Event C) → ℕ → Address → ℕ → Outcome C → Type 0
IsFaithful m H h a s x = m h ≡ Some (Indexed a) → newest h H ≡ Some (Put h s x)

abbrev pub SourceWaits : {C : Type 0} → Rules C → (ℕ → Option Slot) → List (Event C) → (ℕ → BlockSet) → (ℕ → ℕ) → Record C → Source C → Type 0
SourceWaits rules m H place filling r (Given c) = Unit {0}
SourceWaits rules m H place filling r (Reread a) =
    (a.sequence ≡ r.sequence) × IsBarred place filling a × IsFaithful m H r.hash a r.sequence (rules.pair_of r.bytes r.hash r.sequence)

abbrev pub RecordWaits : {C : Type 0} → Rules C → (ℕ → Option Slot) → List (Event C) → (ℕ → BlockSet) → (ℕ → ℕ) → Record C → Type 0
RecordWaits rules m H place filling r = SourceWaits rules m H place filling r r.source

abbrev pub SubmissionWaits : {C : Type 0} → Rules C → (ℕ → Option Slot) → List (Event C) → (ℕ → BlockSet) → (ℕ → ℕ) → Submission C → Type 0
SubmissionWaits rules m H place filling (Piece h s n c) = Unit {0}
SubmissionWaits rules m H place filling (Remove h s invalidated) = Unit {0}
SubmissionWaits rules m H place filling (Await i) = Unit {0}
SubmissionWaits rules m H place filling (Reinsert h bytes a) =
    IsBarred place filling a × IsFaithful m H h a a.sequence (rules.pair_of bytes h a.sequence)

pub record AllWait {C : Type 0} (rules : Rules C) (m : ℕ → Option Slot) (H : List (Event C)) (place : ℕ → BlockSet) (filling : ℕ → ℕ) (φ : Flusher C) : Type 0 where
  pub batch : Each (RecordWaits rules m H place filling) (batch_records φ.batch)
  pub buffer : Each (RecordWaits rules m H place filling) φ.buffer
  pub queue : Each (SubmissionWaits rules m H place filling) φ.queue

pub one_owner : {C : Type 0} (rules : Rules C) (w : World C) → WorldInvariant rules w → (e f b : ℕ) → (w.core.flushers e).own ≡ Some b → (w.core.flushers f).own ≡ Some b → e ≡ f
one_owner rules w sound e f b p q =
    let here : w.core.place b ≡ Writes e = (sound.flushers e).owned b p in
    let there : w.core.place b ≡ Writes f = (sound.flushers f).owned b q in
    cc

pub tended_place : {C : Type 0} (rules : Rules C) (g : Ground) (place place' : ℕ → BlockSet) (next f : ℕ) (φ : Flusher C) (pending : BlockWrites)
    → ((b : ℕ) → place b ≡ Writes f → place' b ≡ Writes f) → FlusherInvariant rules g place next f φ pending → FlusherInvariant rules g place' next f φ pending
tended_place rules g place place' next f φ pending keeps t =
    record {
      order = t.order;
      batch = t.batch;
      batch_marks = t.batch_marks;
      buffer = t.buffer;
      marks = t.marks;
      queue = t.queue;
      split = t.split;
      context = t.context;
      owned = λ b p. keeps b (t.owned b p);
      spare = λ b p. (keeps b (t.spare b p).0, (t.spare b p).1);
      either = t.either;
      writing = t.writing;
    }

-- What a flusher receives from its queue.
use Rattle.std.specs.Prelude.{◌≡◌, ◌≢◌, ℕ, ◌+◌, ◌≤◌, true, List, [], ◌∷◌, ◌++◌, length, Some, None, ◌⊎◌}
use Rattle.foyer_core_model.specs.Numbers.{put}
use Rattle.foyer_core_model.specs.Record.{Mark, Source, Given, Reread, Record}
use Rattle.foyer_core_model.specs.Index.{holds, inserted}
use Rattle.foyer_core_model.specs.State.{Submission, Piece, Remove, Await, Reinsert, Flusher, State}
use Rattle.foyer_core_model.specs.Rules.{Rules}
use Rattle.foyer_core_model.specs.Layout.{FitsBlock}
use Rattle.foyer_core_model.specs.Queue.{invalidated_by}
use Rattle.foyer_core_model.specs.Reply.{Reply, Empty, Received}

-- the bytes that the records of a buffer take
abbrev pub bytes_taken : {C : Type 0} → (ℕ → ℕ) → List (Record C) → ℕ
bytes_taken page_up [] = 0
bytes_taken page_up (r ∷ rs) = page_up (length r.bytes) + bytes_taken page_up rs

-- in front of others, the content of a piece's record with its sequence
abbrev pub piece_of : {C : Type 0} → (sequence : ℕ) → Source C → List (ℕ × C) → List (ℕ × C)
piece_of sequence (Given c) others = (sequence, c) ∷ others
piece_of sequence (Reread a) others = others

-- the contents of a buffer's pieces with their sequences, in order
abbrev pub pieces_of : {C : Type 0} → List (Record C) → List (ℕ × C)
pieces_of [] = []
pieces_of (r ∷ rs) = piece_of r.sequence r.source (pieces_of rs)

-- anything was received since the batch before: a record, a mark or a wait
abbrev pub HasReceived : {C : Type 0} → Flusher C → Type 0
HasReceived φ = (φ.buffer ≢ []) ⊎ (φ.marks ≢ []) ⊎ (φ.waits ≢ [])

module _ {C : Type 0} (rules : Rules C) (old : State C) where
  -- the flusher of this number
  abbrev pub flusher : ℕ → Flusher C
  flusher f = old.flushers f

  -- what f is afterwards
  abbrev pub turned : ℕ → Flusher C → State C
  turned f φ = record old { flushers = put old.flushers f φ }

  -- a record fits into the room that is left, and into a block
  abbrev pub Fits : Flusher C → List ℕ → Type 0
  Fits φ bytes = (bytes_taken rules.page_up φ.buffer + rules.page_up (length bytes) ≤ rules.room φ.context) × FitsBlock rules bytes

  -- a record is put behind the others of the buffer
  abbrev pub pushed_to : ℕ → List (Submission C) → Record C → State C
  pushed_to f rest r = turned f (record (flusher f) { queue = rest; buffer = (flusher f).buffer ++ r ∷ [] })

  -- a mark is kept for the batch that is next, and enters the index if nothing newer is there
  abbrev pub marked_at : ℕ → List (Submission C) → (hash sequence : ℕ) → State C
  marked_at f rest h s =
      record (turned f (record (flusher f) { queue = rest; marks = (flusher f).marks ++ (h, s) ∷ []; invalidated = (flusher f).invalidated ++ invalidated_by rules s (old.index h) })) {
        index = put old.index h (inserted (old.index h) (Mark s));
      }

  -- The front of the queue is taken. A piece that doesn't fit, or whose code fails, is returned, and a mark of its
  -- sequence takes its place. A reinsertion is dropped unless the index holds its very address and it fits.
  abbrev pub TakesFront : ℕ → List (Submission C) → Reply C → State C → Type 0
  TakesFront f [] Empty new = new ≡ old
  TakesFront f (Piece h s n c ∷ rest) (Received None) new =
      (bytes : List ℕ) × (rules.encode h s c ≡ Some bytes) × Fits (flusher f) bytes
      × (new ≡ pushed_to f rest (record { hash = h; sequence = s; bytes = bytes; source = Given c }))
  TakesFront f (Piece h s n c ∷ rest) (Received (Some d)) new =
      (d ≡ c) × ((bytes : List ℕ) → rules.encode h s c ≡ Some bytes → Fits (flusher f) bytes → ⊥)
      × (new ≡ marked_at f rest h s)
  TakesFront f (Remove h s invalidated ∷ rest) (Received None) new =
      new ≡ turned f (record (flusher f) { queue = rest; marks = (flusher f).marks ++ (h, s) ∷ []; invalidated = (flusher f).invalidated ++ invalidated })
  TakesFront f (Await i ∷ rest) (Received None) new =
      new ≡ turned f (record (flusher f) { queue = rest; waits = (flusher f).waits ++ i ∷ [] })
  TakesFront f (Reinsert h bytes a ∷ rest) (Received None) new =
      ((holds a (old.index h) ≡ true) × Fits (flusher f) bytes
      × (new ≡ pushed_to f rest (record { hash = h; sequence = a.sequence; bytes = bytes; source = Reread a })))
      ⊎ (((holds a (old.index h) ≡ true) → Fits (flusher f) bytes → ⊥) × (new ≡ turned f (record (flusher f) { queue = rest })))
  TakesFront f queue reply new = ⊥

  -- the front of a flusher's queue
  abbrev pub Receives : ℕ → Reply C → State C → Type 0
  Receives f reply new = TakesFront f (flusher f).queue reply new

-- Where a piece that was queued lies in its flusher, and what is behind it there.
use Rattle.std.proofs.Common.{◌≡◌, ℕ, suc, ◌+◌, ◌<◌, ◌≤◌, List, [], ◌∷◌, ◌++◌, length, map, Option, Some, None, ◌⊎◌, inl, inr, ap, subst, ◌∙◌, length-append, arith}
use Rattle.foyer_core_model.specs.Record.{Source, Given, Reread, Record}
use Rattle.foyer_format_layout.specs.BlockBytes.{Write, all_laid, read}
use Rattle.foyer_core_model.specs.Position.{Position, records_of}
use Rattle.foyer_core_model.specs.State.{Submission, Piece, Remove, Await, Reinsert, Writing, Batch, Flusher}
use Rattle.foyer_core_model.specs.Rules.{Rules}
use Rattle.foyer_core_model.specs.Layout.{AllStand, KeepsBlocks}
use Rattle.foyer_core_model.specs.Receive.{piece_of, pieces_of}
use Rattle.foyer_core_model.specs.Flush.{writing_of}
use Rattle.foyer_core_store_runs.proofs.Flights.{queue_pieces, batch_pieces, flight}
use Rattle.foyer_core_written.proofs.Past.{IsAmong, IsGiven, IsItsRecord}

module _ {X : Type 0} (P : X → Type 0) where
  pub among_either : (xs ys : List X) → IsAmong P (xs ++ ys) → IsAmong P xs ⊎ IsAmong P ys
  among_either [] ys is = inr is
  among_either (x ∷ xs) ys is = elim is [ inl here ↦ inl (inl here) | inr later ↦ elim (among_either xs ys later) [ inl a ↦ inl (inr a) | inr b ↦ inr b ] ]

-- one of the list has the property, and with what is counted behind it the number is reached
module _ {X : Type 0} (P : X → Type 0) (count : List X → ℕ) where
  abbrev pub Reaches : (n more : ℕ) → List X → Type 0
  Reaches n more [] = ⊥
  Reaches n more (x ∷ xs) = (P x × (n ≤ count xs + more)) ⊎ Reaches n more xs

  pub reaches_among : (n more : ℕ) (xs : List X) → Reaches n more xs → IsAmong P xs
  reaches_among n more [] is = absurd is
  reaches_among n more (x ∷ xs) is = elim is [ inl here ↦ inl here.0 | inr later ↦ inr (reaches_among n more xs later) ]

  -- other numbers
  pub reaches_other : (n more m other : ℕ) → ((k : ℕ) → n ≤ k + more → m ≤ k + other) → (xs : List X) → Reaches n more xs → Reaches m other xs
  reaches_other n more m other so [] is = absurd is
  reaches_other n more m other so (x ∷ xs) is = elim is [ inl here ↦ inl (here.0, so (count xs) here.1) | inr later ↦ inr (reaches_other n more m other so xs later) ]

  -- more at the end
  pub reaches_front : (n more m other : ℕ) (zs : List X) → ((ys : List X) → n ≤ count ys + more → m ≤ count (ys ++ zs) + other) → (xs : List X) → Reaches n more xs
      → Reaches m other (xs ++ zs)
  reaches_front n more m other zs so [] is = absurd is
  reaches_front n more m other zs so (x ∷ xs) is = elim is [ inl here ↦ inl (here.0, so xs here.1) | inr later ↦ inr (reaches_front n more m other zs so xs later) ]

  -- the last one
  pub reaches_last : (n more : ℕ) (x : X) → P x → n ≤ count [] + more → (xs : List X) → Reaches n more (xs ++ x ∷ [])
  reaches_last n more x its le [] = inl (its, le)
  reaches_last n more x its le (y ∷ xs) = inr (reaches_last n more x its le xs)

-- how many pieces
abbrev pub queue_count : {C : Type 0} → List (Submission C) → ℕ
queue_count queue = length (queue_pieces queue)

abbrev pub buffer_count : {C : Type 0} → List (Record C) → ℕ
buffer_count buffer = length (pieces_of buffer)

-- a piece's record counts, any other may not
given_count : {C : Type 0} (s : ℕ) (src : Source C) (others : List (ℕ × C)) → IsGiven src → length (piece_of s src others) ≡ length others + 1
given_count s (Given c) others given = omega arith
given_count s (Reread a) others given = absurd given

any_count : {C : Type 0} (s : ℕ) (src : Source C) (others : List (ℕ × C)) → length others ≤ length (piece_of s src others)
any_count s (Given c) others = omega arith
any_count s (Reread a) others = omega arith

pub queue_pushed : {C : Type 0} (queue : List (Submission C)) (sub : Submission C) → queue_count (queue ++ sub ∷ []) ≡ queue_count queue + queue_count (sub ∷ [])
queue_pushed [] sub = omega arith
queue_pushed (Piece h s n c ∷ rest) sub = let e : queue_count (rest ++ sub ∷ []) ≡ queue_count rest + queue_count (sub ∷ []) = queue_pushed rest sub in omega arith
queue_pushed (Remove h s invalidated ∷ rest) sub = queue_pushed rest sub
queue_pushed (Await i ∷ rest) sub = queue_pushed rest sub
queue_pushed (Reinsert h bytes a ∷ rest) sub = queue_pushed rest sub

pub buffer_pushed : {C : Type 0} (buffer : List (Record C)) (r : Record C) → buffer_count (buffer ++ r ∷ []) ≡ buffer_count buffer + buffer_count (r ∷ [])
buffer_pushed [] r = omega arith
buffer_pushed {C} (b ∷ buffer) r = one b.source (buffer_pushed buffer r)
  where
    one : (src : Source C) → buffer_count (buffer ++ r ∷ []) ≡ buffer_count buffer + buffer_count (r ∷ [])
        → length (piece_of b.sequence src (pieces_of (buffer ++ r ∷ []))) ≡ length (piece_of b.sequence src (pieces_of buffer)) + buffer_count (r ∷ [])
    one (Given c) e = omega arith
    one (Reread a) e = e

-- bytes that stand over any others were written
none_stands : (bytes : List ℕ) (o : ℕ) → 0 < length bytes → ((g : ℕ → ℕ) → read g o (length bytes) ≡ bytes) → ⊥
none_stands [] o some stand = omega arith
none_stands (x ∷ xs) o some stand =
    let zeros : 0 ∷ read (λ _. 0) (o + 1) (length xs) ≡ x ∷ xs = stand (λ _. 0) in
    let ones : 1 ∷ read (λ _. 1) (o + 1) (length xs) ≡ x ∷ xs = stand (λ _. 1) in
    cc

module _ {C : Type 0} (h s : ℕ) where
  -- a submission is the piece
  abbrev pub IsItsPiece : Submission C → Type 0
  IsItsPiece (Piece q u n c) = (q ≡ h) × (u ≡ s)
  IsItsPiece (Remove q u invalidated) = ⊥
  IsItsPiece (Await i) = ⊥
  IsItsPiece (Reinsert q bytes a) = ⊥

  abbrev pub IsQueued : (n more : ℕ) → List (Submission C) → Type 0
  IsQueued n more queue = Reaches IsItsPiece queue_count n more queue

  abbrev pub IsReceived : (n more : ℕ) → List (Record C) → Type 0
  IsReceived n more buffer = Reaches (IsItsRecord h s) buffer_count n more buffer

  abbrev pub IsInWriting : Option (Writing C) → Type 0
  IsInWriting None = ⊥
  IsInWriting (Some w) = IsAmong (IsItsRecord h s) (map (λ p. p.1) w.records)

  -- the piece's record is in a block that is yet to be issued, or in the one that is written
  abbrev pub IsInBatch : Rules C → Option (Batch C) → Type 0
  IsInBatch rules None = ⊥
  IsInBatch rules (Some batch) =
      (from : Position) × KeepsBlocks rules from batch.blocks × (IsAmong (IsItsRecord h s) (records_of batch.blocks) ⊎ IsInWriting batch.writing)

  -- Of n pieces that were queued at the flusher the piece has a place: it is queued, and no fewer are behind it; or it is received, and no fewer
  -- are behind it or were passed since the batch before; or it is in the batch.
  abbrev pub Lies : Rules C → (place n passed : ℕ) → Flusher C → Type 0
  Lies rules place n passed φ =
      IsQueued n place φ.queue ⊎ IsReceived n (queue_count φ.queue + (passed + place)) φ.buffer ⊎ IsInBatch rules φ.batch

  -- it counts itself
  queue_reaches : (n more : ℕ) (queue : List (Submission C)) → IsQueued n more queue → suc n ≤ queue_count queue + more
  queue_reaches n more [] is = absurd is
  queue_reaches n more (Piece q u k c ∷ rest) is =
      elim is [
        | inl here ↦ (let le : n ≤ queue_count rest + more = here.1 in omega arith)
        | inr later ↦ (let le : suc n ≤ queue_count rest + more = queue_reaches n more rest later in omega arith)
      ]
  queue_reaches n more (Remove q u invalidated ∷ rest) is = elim is [ inl here ↦ absurd here.0 | inr later ↦ queue_reaches n more rest later ]
  queue_reaches n more (Await i ∷ rest) is = elim is [ inl here ↦ absurd here.0 | inr later ↦ queue_reaches n more rest later ]
  queue_reaches n more (Reinsert q bytes a ∷ rest) is = elim is [ inl here ↦ absurd here.0 | inr later ↦ queue_reaches n more rest later ]

  buffer_reaches : (n more : ℕ) (buffer : List (Record C)) → IsReceived n more buffer → suc n ≤ buffer_count buffer + more
  buffer_reaches n more [] is = absurd is
  buffer_reaches n more (r ∷ rs) is =
      elim is [
        | inl here ↦ (let le : n ≤ buffer_count rs + more = here.1 in omega (arith, le, given_count r.sequence r.source (pieces_of rs) (here.0).given))
        | inr later ↦ (let le : suc n ≤ buffer_count rs + more = buffer_reaches n more rs later in omega (arith, le, any_count r.sequence r.source (pieces_of rs)))
      ]

  -- out of a batch it is on its way with all that are behind it
  pub lies_reaches : (rules : Rules C) (place n passed : ℕ) (φ : Flusher C) → φ.batch ≡ None → Lies rules place n passed φ → suc n ≤ length (flight φ) + (passed + place)
  lies_reaches rules place n passed φ none lies =
      elim lies [
        | inl queued ↦ omega (arith, queue_reaches n place φ.queue queued, whole)
        | inr (inl received) ↦ omega (arith, buffer_reaches n (queue_count φ.queue + (passed + place)) φ.buffer received, whole)
        | inr (inr batched) ↦ absurd (subst (IsInBatch rules) none batched)
      ]
    where
      whole : length (flight φ) ≡ length (batch_pieces φ.batch) + (buffer_count φ.buffer + queue_count φ.queue)
      whole = length-append (batch_pieces φ.batch) (pieces_of φ.buffer ++ queue_pieces φ.queue)
          ∙ ap (λ k. length (batch_pieces φ.batch) + k) (length-append (pieces_of φ.buffer) (queue_pieces φ.queue))

  none_stand : (ps : List (ℕ × Record C)) → ((g : ℕ → ℕ) → AllStand g ps) → IsAmong (IsItsRecord h s) (map (λ p. p.1) ps) → ⊥
  none_stand [] stand among = among
  none_stand (p ∷ ps) stand among =
      elim among [
        | inl its ↦ none_stands (p.1).bytes p.0 its.some (λ g. (stand g).0)
        | inr later ↦ none_stand ps (λ g. (stand g).1) later
      ]

  -- a block that holds the piece's record has writes
  pub in_writing : (b : ℕ) (ws : List Write) (ps : List (ℕ × Record C)) → ((g : ℕ → ℕ) → AllStand (all_laid ws g) ps) → IsAmong (IsItsRecord h s) (map (λ p. p.1) ps)
      → IsInWriting (writing_of b ws ps)
  in_writing b [] ps stand among = absurd (none_stand ps stand among)
  in_writing b (w ∷ ws) ps stand among = among

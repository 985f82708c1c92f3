-- How the place of a piece changes if its flusher does.
use Rattle.std.proofs.Common.{◌≡◌, ℕ, suc, ◌+◌, ◌<◌, ◌≤◌, Bool, false, List, [], ◌∷◌, ◌++◌, length, map, Some, None, ◌⊎◌, inl, inr, sym, ap, subst, ◌∙◌, arith}
use Rattle.foyer_core_model.specs.Record.{Given, Record}
use Rattle.foyer_format_layout.specs.BlockBytes.{Write}
use Rattle.foyer_core_model.specs.Position.{BlockLayout, records_in, records_of, last_end}
use Rattle.foyer_core_model.specs.State.{Submission, Piece, Writing, Batch, Flusher}
use Rattle.foyer_core_model.specs.Rules.{Rules, Splitting}
use Rattle.foyer_core_model.specs.Layout.{writes_in, KeepsBlocks, KeepsRecords, KeepsBatch}
use Rattle.foyer_core_model.specs.Receive.{pieces_of}
use Rattle.foyer_core_model.specs.Flush.{is_some, writing_of}
use Rattle.foyer_core_model.specs.InTurn.{IsWritten}
use Rattle.foyer_core_written.proofs.Past.{IsAmong, IsItsRecord}
use Rattle.foyer_core_written.proofs.Places.{among_either, reaches_among, reaches_other, reaches_front, reaches_last, queue_count, buffer_count, queue_pushed, buffer_pushed, IsItsPiece, IsQueued, IsReceived, IsInWriting, IsInBatch, Lies, in_writing}

module _ {C : Type 0} (h s : ℕ) (rules : Rules C) (place n passed : ℕ) where
  abbrev At : ℕ → ℕ → Flusher C → Type 0
  At m past φ = Lies h s rules place m past φ

  -- the piece's record
  abbrev Its : Record C → Type 0
  Its = IsItsRecord h s

  -- what counts behind a buffer
  abbrev behind : ℕ → List (Submission C) → ℕ
  behind past queue = queue_count queue + (past + place)

  -- a submission at the end of the queue
  pub lies_pushed : (φ : Flusher C) (sub : Submission C) → At n passed φ → At (n + queue_count (sub ∷ [])) passed (record φ { queue = φ.queue ++ sub ∷ [] })
  lies_pushed φ sub lies =
      elim lies [
        | inl queued ↦ inl (reaches_front (IsItsPiece h s) queue_count n place (n + queue_count (sub ∷ [])) place (sub ∷ [])
            (λ ys le. omega (arith, le, queue_pushed ys sub)) φ.queue queued)
        | inr (inl received) ↦ inr (inl (reaches_other Its buffer_count n (behind passed φ.queue) (n + queue_count (sub ∷ []))
            (behind passed (φ.queue ++ sub ∷ [])) (λ k le. omega (arith, le, queue_pushed φ.queue sub)) φ.buffer received))
        | inr (inr batched) ↦ inr (inr batched)
      ]

  -- one that is no piece
  pub lies_other : (φ : Flusher C) (sub : Submission C) → queue_count (sub ∷ []) ≡ 0 → At n passed φ → At n passed (record φ { queue = φ.queue ++ sub ∷ [] })
  lies_other φ sub none lies =
      subst (λ k. At k passed (record φ { queue = φ.queue ++ sub ∷ [] })) (let e : n + queue_count (sub ∷ []) ≡ n = omega (arith, none) in e) (lies_pushed φ sub lies)

  -- the front of the queue leaves it, and isn't a piece
  pub lies_dropped : (φ : Flusher C) (sub : Submission C) (rest : List (Submission C)) → φ.queue ≡ sub ∷ rest → (IsItsPiece h s sub → ⊥)
      → queue_count rest ≡ queue_count (sub ∷ rest)
      → At n passed φ → At n passed (record φ { queue = rest })
  lies_dropped φ sub rest is apart same lies =
      elim lies [
        | inl queued ↦ elim (subst (IsQueued h s n place) is queued) [ inl here ↦ absurd (apart here.0) | inr later ↦ inl later ]
        | inr (inl received) ↦ inr (inl (subst (λ k. IsReceived h s n (k + (passed + place)) φ.buffer) (ap queue_count is ∙ sym same) received))
        | inr (inr batched) ↦ inr (inr batched)
      ]

  -- a record at the end of the buffer
  pub lies_buffered : (φ : Flusher C) (r : Record C) → At n passed φ → At n passed (record φ { buffer = φ.buffer ++ r ∷ [] })
  lies_buffered φ r lies =
      elim lies [
        | inl queued ↦ inl queued
        | inr (inl received) ↦ inr (inl (reaches_front Its buffer_count n (behind passed φ.queue) n (behind passed φ.queue) (r ∷ [])
            (λ ys le. omega (arith, le, buffer_pushed ys r)) φ.buffer received))
        | inr (inr batched) ↦ inr (inr batched)
      ]

  -- a piece is received
  pub lies_taken : (φ : Flusher C) (q u k : ℕ) (c : C) (bytes : List ℕ) (rest : List (Submission C)) → φ.queue ≡ Piece q u k c ∷ rest → 0 < length bytes → At n passed φ
      → At n passed (record φ { queue = rest; buffer = φ.buffer ++ record { hash = q; sequence = u; bytes = bytes; source = Given c } ∷ [] })
  lies_taken φ q u k c bytes rest is some lies =
      elim lies [
        | inl queued ↦ elim (subst (IsQueued h s n place) is queued) [
          | inl here ↦ inr (inl (reaches_last Its buffer_count n (behind passed rest) r
              (record { hash = (here.0).0; sequence = (here.0).1; given = tt; some = some }) (let le : n ≤ queue_count rest + place = here.1 in omega arith) φ.buffer))
          | inr later ↦ inl later
        ]
        | inr (inl received) ↦ inr (inl (reaches_front Its buffer_count n (behind passed φ.queue) n (behind passed rest) (r ∷ [])
            (λ ys le. omega (arith, le, front_counts, buffer_pushed ys r)) φ.buffer received))
        | inr (inr batched) ↦ inr (inr batched)
      ]
    where
      r : Record C
      r = record { hash = q; sequence = u; bytes = bytes; source = Given c }

      front_counts : queue_count φ.queue ≡ queue_count (Piece q u k c ∷ rest)
      front_counts = ap queue_count is

  -- a piece is returned from the front of the queue: it is this one, or one more was passed
  pub lies_returned : (φ : Flusher C) (q u k : ℕ) (c : C) (rest : List (Submission C)) → φ.queue ≡ Piece q u k c ∷ rest → At n passed φ
      → At n (suc passed) (record φ { queue = rest }) ⊎ ((q ≡ h) × (u ≡ s))
  lies_returned φ q u k c rest is lies =
      elim lies [
        | inl queued ↦ elim (subst (IsQueued h s n place) is queued) [ inl here ↦ inr here.0 | inr later ↦ inl (inl later) ]
        | inr (inl received) ↦ inl (inr (inl (reaches_other Its buffer_count n (behind passed φ.queue) n (behind (suc passed) rest)
            (λ j le. let one : queue_count φ.queue ≡ queue_count (Piece q u k c ∷ rest) = ap queue_count is in omega (arith, le, one)) φ.buffer received)))
        | inr (inr batched) ↦ inl (inr (inr batched))
      ]

  -- a batch begins
  pub lies_begun : (Splits : Splitting C) → KeepsRecords rules Splits → (φ : Flusher C) (blocks : List (BlockLayout C)) → φ.batch ≡ None
      → Splits φ.context φ.buffer blocks → At n passed φ
      → At n 0 (record φ {
        buffer = [];
        marks = [];
        invalidated = [];
        waits = [];
        context = last_end φ.context blocks;
        batch = Some (record {
          blocks = blocks;
          continues_own_block = is_some φ.own;
          writing = None;
          marks = φ.marks;
          invalidated = φ.invalidated;
          pieces = pieces_of φ.buffer;
          waits = φ.waits;
          logged = None;
        });
      })
  lies_begun Splits places φ blocks none splits lies =
      elim lies [
        | inl queued ↦ inl queued
        | inr (inl received) ↦ inr (inr (
          φ.context,
          kept.placed,
          inl (subst (IsAmong Its) (sym kept.all) (reaches_among Its buffer_count n (behind passed φ.queue) φ.buffer received)),
        ))
        | inr (inr batched) ↦ absurd (subst (IsInBatch h s rules) none batched)
      ]
    where
      kept : KeepsBatch rules φ.context φ.buffer blocks
      kept = places φ.context φ.buffer blocks splits

  -- a block is issued
  pub lies_issued : (φ : Flusher C) (b : ℕ) (batch : Batch C) (t : BlockLayout C) (rest : List (BlockLayout C)) → φ.batch ≡ Some batch → batch.writing ≡ None
      → batch.blocks ≡ t ∷ rest → At n passed φ
      → At n passed (record φ {
        own = Some b;
        ready = None;
        batch = Some (record batch { blocks = rest; continues_own_block = false; writing = writing_of b (writes_in rules t.parts) (records_in t.parts) });
      })
  lies_issued φ b batch t rest is none blocks lies =
      elim lies [
        | inl queued ↦ inl queued
        | inr (inl received) ↦ inr (inl received)
        | inr (inr batched) ↦ inr (inr (issued (subst (IsInBatch h s rules) is batched)))
      ]
    where
      issued : IsInBatch h s rules (Some batch) → IsInBatch h s rules (Some (record batch {
        blocks = rest;
        continues_own_block = false;
        writing = writing_of b (writes_in rules t.parts) (records_in t.parts);
      }))
      issued (from, keeps, lies_in) =
          let kept : KeepsBlocks rules from (t ∷ rest) = subst (KeepsBlocks rules from) blocks keeps in
          elim lies_in [
            | inl among ↦ (
              _,
              kept.1,
              elim (among_either Its (map (λ p. p.1) (records_in t.parts)) (records_of rest) (subst (λ l. IsAmong Its (records_of l)) blocks among)) [
                | inl here ↦ inr (in_writing h s b (writes_in rules t.parts) (records_in t.parts) (kept.0).stand here)
                | inr later ↦ inl later
              ],
            )
            | inr written ↦ absurd (subst (IsInWriting h s) none written)
          ]

  -- a write of the block is reported, and others are yet to be
  pub lies_wrote : (φ : Flusher C) (batch : Batch C) (t : Writing C) (left : List Write) → φ.batch ≡ Some batch → batch.writing ≡ Some t → At n passed φ
      → At n passed (record φ { batch = Some (record batch { writing = Some (record t { left = left }) }) })
  lies_wrote φ batch t left is writing lies =
      elim lies [
        | inl queued ↦ inl queued
        | inr (inl received) ↦ inr (inl received)
        | inr (inr batched) ↦ inr (inr (wrote (subst (IsInBatch h s rules) is batched)))
      ]
    where
      wrote : IsInBatch h s rules (Some batch) → IsInBatch h s rules (Some (record batch { writing = Some (record t { left = left }) }))
      wrote (from, keeps, lies_in) = (from, keeps, elim lies_in [ inl among ↦ inl among | inr written ↦ inr (subst (IsInWriting h s) writing written) ])

  -- a block is done: the piece's record is another's, or was in it
  pub lies_committed : (φ : Flusher C) (batch : Batch C) (t : Writing C) → φ.batch ≡ Some batch → batch.writing ≡ Some t → At n passed φ
      → At n passed (record φ { batch = Some (record batch { writing = None }) }) ⊎ IsAmong Its (map (λ p. p.1) t.records)
  lies_committed φ batch t is writing lies =
      elim lies [
        | inl queued ↦ inl (inl queued)
        | inr (inl received) ↦ inl (inr (inl received))
        | inr (inr batched) ↦ committed (subst (IsInBatch h s rules) is batched)
      ]
    where
      committed : IsInBatch h s rules (Some batch)
          → At n passed (record φ { batch = Some (record batch { writing = None }) }) ⊎ IsAmong Its (map (λ p. p.1) t.records)
      committed (from, keeps, lies_in) =
          elim lies_in [ inl among ↦ inl (inr (inr (from, keeps, inl among))) | inr written ↦ inr (subst (IsInWriting h s) writing written) ]

  -- the log has answered
  pub lies_logged : (φ : Flusher C) (batch : Batch C) (well : Bool) → φ.batch ≡ Some batch → At n passed φ
      → At n passed (record φ { batch = Some (record batch { logged = Some well }) })
  lies_logged φ batch well is lies =
      elim lies [
        | inl queued ↦ inl queued
        | inr (inl received) ↦ inr (inl received)
        | inr (inr batched) ↦ inr (inr (subst (IsInBatch h s rules) is batched))
      ]

  -- a batch ends
  pub lies_ended : (φ : Flusher C) (batch : Batch C) → φ.batch ≡ Some batch → IsWritten rules.has_log (Some batch) → At n passed φ
      → At n passed (record φ { batch = None })
  lies_ended φ batch is done lies =
      elim lies [
        | inl queued ↦ inl queued
        | inr (inl received) ↦ inr (inl received)
        | inr (inr batched) ↦ absurd (ended (subst (IsInBatch h s rules) is batched))
      ]
    where
      ended : IsInBatch h s rules (Some batch) → ⊥
      ended (from, keeps, lies_in) =
          elim lies_in [
            | inl among ↦ subst (λ l. IsAmong Its (records_of l)) done.0 among
            | inr written ↦ subst (IsInWriting h s) done.1 written
          ]

-- Receive and FlushBegin.
use Rattle.std.proofs.Common.{◌≡◌, ℕ, ◌+◌, ◌<◌, ◌≤◌, true, List, [], ◌∷◌, ◌++◌, Option, Some, None, refl, sym, ap, subst, ◌∙◌, arith}
use Rattle.foyer_core_model.specs.Numbers.{put}
use Rattle.foyer_core_model.specs.Record.{Address, Mark, Given, Reread, Record}
use Rattle.foyer_core_model.specs.Position.{Position, BlockLayout, last_end}
use Rattle.foyer_core_model.specs.State.{Invalidated, Submission, Piece, Remove, Await, Reinsert, Flusher}
use Rattle.foyer_core_model.specs.Rules.{Rules, flusher_of}
use Rattle.foyer_core_model.specs.Index.{inserted}
use Rattle.foyer_core_model.specs.Layout.{KeepsBlocks, KeepsBatch}
use Rattle.foyer_core_model.specs.Flush.{is_some}
use Rattle.foyer_core_model.specs.Event.{Deletion}
use Rattle.foyer_core_model.specs.World.{World}
use Rattle.foyer_core_model.proofs.Basics.{Ascends, ascends_span, ascends_from, ascends_to}
use Rattle.foyer_format_layout.specs.Each.{Each}
use Rattle.foyer_core_model.proofs.Invariant.{ground_of, puts_onto, queue_puts, batch_records, line_of, AtLeast, sequences, queue_sequences, RecordOk, start_of, FlusherInvariant, WorldInvariant}
use Rattle.foyer_format_layout.proofs.EachLaws.{each_join, each_weaker}
use Rattle.foyer_core_model.proofs.CommitSteps.{each_onto, each_past, onto_append, ascends_last}
use Rattle.foyer_core_model.proofs.OneFlusher.{one_turned}
use Rattle.foyer_core_model.proofs.LoadSteps.{MarkEnters, returned, returned_enters}

pub marks_below : (n m : ℕ) (ps : List (ℕ × ℕ)) → n ≤ m → Each (λ p. p.1 < n) ps → Each (λ p. p.1 < m) ps
marks_below n m ps le = each_weaker (λ p. p.1 < n) (λ p. p.1 < m) ps (λ p lt. omega arith)

module _ {C : Type 0} (rules : Rules C) where
  -- the front of the queue goes to the buffer
  pub received_piece : (w : World C) (f h s n : ℕ) (c : C) (bytes : List ℕ) (rest : List (Submission C)) → WorldInvariant rules w → (w.core.flushers f).queue ≡ Piece h s n c ∷ rest
      → rules.encode h s c ≡ Some bytes
      → WorldInvariant rules (record w {
        core = record w.core {
          flushers = put w.core.flushers f (record (w.core.flushers f) {
            queue = rest;
            buffer = (w.core.flushers f).buffer ++ record { hash = h; sequence = s; bytes = bytes; source = Given c } ∷ [];
          });
        };
      })
  received_piece w f h s n c bytes rest sound is encoded =
      one_turned rules w f (record φ { queue = Piece h s n c ∷ rest }) (record φ { queue = rest; buffer = φ.buffer ++ r ∷ [] }) w.core.next sound
      (λ i. record φ { queue = is i }) (omega arith)
      (λ k j lt line. let P : ℕ × ℕ → Type 0 = λ p. p.0 ≡ k → j ≤ p.1 in
      each_onto P (batch_records φ.batch) (puts_onto φ.buffer ((h, s) ∷ queue_puts rest)) (puts_onto (φ.buffer ++ r ∷ []) (queue_puts rest))
      (λ all. subst (Each P) (sym (onto_append φ.buffer (r ∷ []) (queue_puts rest))) all) line)
      (λ t. let le : t.order.queued ≤ s = (t.order.queue).0 in
      record {
        order = record {
          received = t.order.received;
          queued = s + 1;
          batch = t.order.batch;
          batch_marks = t.order.batch_marks;
          buffer = ascends_last t.order.received t.order.queued h s φ.buffer r c refl le t.order.buffer;
          marks = marks_below t.order.queued (s + 1) φ.marks (omega arith) t.order.marks;
          queue = (t.order.queue).1;
        };
        batch = t.batch;
        batch_marks = t.batch_marks;
        buffer = each_join (RecordOk rules f) φ.buffer (r ∷ []) t.buffer ((((t.queue).0).0, ((t.queue).0).1 bytes encoded), tt);
        marks = t.marks;
        queue = (t.queue).1;
        split = t.split;
        context = t.context;
        owned = t.owned;
        spare = t.spare;
        either = t.either;
        writing = t.writing;
      })
    where
      φ : Flusher C
      φ = w.core.flushers f

      r : Record C
      r = record { hash = h; sequence = s; bytes = bytes; source = Given c }

  -- the front of the queue, as the flusher that is known
  at_front : (w : World C) (f : ℕ) (sub : Submission C) (rest : List (Submission C)) → WorldInvariant rules w → (w.core.flushers f).queue ≡ sub ∷ rest
      → FlusherInvariant rules (ground_of w) w.core.place w.core.next f (record (w.core.flushers f) { queue = sub ∷ rest }) (w.block_writes f)
  at_front w f sub rest sound is =
      subst (λ k. FlusherInvariant rules (ground_of w) w.core.place w.core.next f k (w.block_writes f)) (λ i. record (w.core.flushers f) { queue = is i }) (sound.flushers f)

  -- a piece at the front waits first of its hash
  waits_first : (w : World C) (f h s n : ℕ) (c : C) (rest : List (Submission C)) → WorldInvariant rules w → (w.core.flushers f).queue ≡ Piece h s n c ∷ rest
      → (k : ℕ) → AtLeast h k (line_of (w.core.flushers (flusher_of rules h))) → k ≤ s
  waits_first w f h s n c rest sound is k line =
      (each_past P φ.buffer ((h, s) ∷ queue_puts rest) (each_past P (batch_records φ.batch) (puts_onto φ.buffer ((h, s) ∷ queue_puts rest))
      (subst (λ q. Each P (puts_onto (batch_records φ.batch) (puts_onto φ.buffer (queue_puts q)))) is
      (subst (λ e. AtLeast h k (line_of (w.core.flushers e))) ((at_front w f (Piece h s n c) rest sound is).queue.0).0 line)))).0 refl
    where
      φ : Flusher C
      φ = w.core.flushers f

      P : ℕ × ℕ → Type 0
      P = λ p. p.0 ≡ h → k ≤ p.1

  -- its mark enters the index
  pub piece_enters : (w : World C) (f h s n : ℕ) (c : C) (rest : List (Submission C)) → WorldInvariant rules w → (w.core.flushers f).queue ≡ Piece h s n c ∷ rest
      → MarkEnters w.core.index (put w.core.index h (inserted (w.core.index h) (Mark s))) w.history (Deletion h s ∷ w.history)
  piece_enters w f h s n c rest sound is = returned_enters rules w h s sound (waits_first w f h s n c rest sound is)

  pub returned_piece : (w : World C) (f h s n : ℕ) (c : C) (rest : List (Submission C)) (more : List Invalidated) → WorldInvariant rules w → (w.core.flushers f).queue ≡ Piece h s n c ∷ rest
      → WorldInvariant rules (record w {
        core = record w.core {
          flushers = put w.core.flushers f (record (w.core.flushers f) {
            queue = rest;
            marks = (w.core.flushers f).marks ++ (h, s) ∷ [];
            invalidated = more;
          });
          index = put w.core.index h (inserted (w.core.index h) (Mark s));
        };
        history = Deletion h s ∷ w.history;
      })
  returned_piece w f h s n c rest more sound is =
      one_turned rules (record w { core = record w.core { index = put w.core.index h (inserted (w.core.index h) (Mark s)) }; history = Deletion h s ∷ w.history })
      f (record φ { queue = Piece h s n c ∷ rest }) (record φ { queue = rest; marks = φ.marks ++ (h, s) ∷ []; invalidated = more }) w.core.next
      (returned rules w h s sound below (waits_first w f h s n c rest sound is))
      (λ i. record φ { queue = is i }) (omega arith)
      (λ k j lt line. let P : ℕ × ℕ → Type 0 = λ p. p.0 ≡ k → j ≤ p.1 in
      each_onto P (batch_records φ.batch) (puts_onto φ.buffer ((h, s) ∷ queue_puts rest)) (puts_onto φ.buffer (queue_puts rest))
      (each_onto P φ.buffer ((h, s) ∷ queue_puts rest) (queue_puts rest) (λ all. all.1)) line)
      (λ t. let le : t.order.queued ≤ s = (t.order.queue).0 in
      record {
        order = record {
          received = t.order.received;
          queued = s + 1;
          batch = t.order.batch;
          batch_marks = t.order.batch_marks;
          buffer = ascends_to t.order.received (sequences (puts_onto φ.buffer [])) t.order.queued (s + 1) (omega arith) t.order.buffer;
          marks = each_join (λ p. p.1 < s + 1) φ.marks ((h, s) ∷ []) (marks_below t.order.queued (s + 1) φ.marks (omega arith) t.order.marks) (omega arith, tt);
          queue = (t.order.queue).1;
        };
        batch = t.batch;
        batch_marks = t.batch_marks;
        buffer = t.buffer;
        marks = each_join (λ p. flusher_of rules p.0 ≡ f) φ.marks ((h, s) ∷ []) t.marks (((t.queue).0).0, tt);
        queue = (t.queue).1;
        split = t.split;
        context = t.context;
        owned = t.owned;
        spare = t.spare;
        either = t.either;
        writing = t.writing;
      })
    where
      φ : Flusher C
      φ = w.core.flushers f

      below : s < w.core.next
      below = let t : FlusherInvariant rules (ground_of w) w.core.place w.core.next f (record φ { queue = Piece h s n c ∷ rest }) (w.block_writes f) = at_front w f (Piece h s n c) rest sound is in
          let span : s + 1 ≤ w.core.next = ascends_span (s + 1) (queue_sequences rest) w.core.next (t.order.queue).1 in
          omega arith

  pub received_mark : (w : World C) (f h s : ℕ) (invalidated more : List Invalidated) (rest : List (Submission C)) → WorldInvariant rules w → (w.core.flushers f).queue ≡ Remove h s invalidated ∷ rest
      → WorldInvariant rules (record w {
        core = record w.core {
          flushers = put w.core.flushers f (record (w.core.flushers f) {
            queue = rest;
            marks = (w.core.flushers f).marks ++ (h, s) ∷ [];
            invalidated = more;
          });
        };
      })
  received_mark w f h s invalidated more rest sound is =
      one_turned rules w f (record φ { queue = Remove h s invalidated ∷ rest }) (record φ { queue = rest; marks = φ.marks ++ (h, s) ∷ []; invalidated = more }) w.core.next sound
      (λ i. record φ { queue = is i }) (omega arith) (λ k n lt line. line)
      (λ t. let le : t.order.queued ≤ s = (t.order.queue).0 in
      record {
        order = record {
          received = t.order.received;
          queued = s + 1;
          batch = t.order.batch;
          batch_marks = t.order.batch_marks;
          buffer = ascends_to t.order.received (sequences (puts_onto φ.buffer [])) t.order.queued (s + 1) (omega arith) t.order.buffer;
          marks = each_join (λ p. p.1 < s + 1) φ.marks ((h, s) ∷ []) (marks_below t.order.queued (s + 1) φ.marks (omega arith) t.order.marks) (omega arith, tt);
          queue = (t.order.queue).1;
        };
        batch = t.batch;
        batch_marks = t.batch_marks;
        buffer = t.buffer;
        marks = each_join (λ p. flusher_of rules p.0 ≡ f) φ.marks ((h, s) ∷ []) t.marks ((t.queue).0, tt);
        queue = (t.queue).1;
        split = t.split;
        context = t.context;
        owned = t.owned;
        spare = t.spare;
        either = t.either;
        writing = t.writing;
      })
    where
      φ : Flusher C
      φ = w.core.flushers f

  pub received_wait : (w : World C) (f j : ℕ) (rest : List (Submission C)) (waits : List ℕ) → WorldInvariant rules w → (w.core.flushers f).queue ≡ Await j ∷ rest
      → WorldInvariant rules (record w { core = record w.core { flushers = put w.core.flushers f (record (w.core.flushers f) { queue = rest; waits = waits }) } })
  received_wait w f j rest waits sound is =
      one_turned rules w f (record φ { queue = Await j ∷ rest }) (record φ { queue = rest; waits = waits }) w.core.next sound
      (λ i. record φ { queue = is i }) (omega arith) (λ k n lt line. line)
      (λ t. record {
        order = record {
          received = t.order.received;
          queued = t.order.queued;
          batch = t.order.batch;
          batch_marks = t.order.batch_marks;
          buffer = t.order.buffer;
          marks = t.order.marks;
          queue = t.order.queue;
        };
        batch = t.batch;
        batch_marks = t.batch_marks;
        buffer = t.buffer;
        marks = t.marks;
        queue = (t.queue).1;
        split = t.split;
        context = t.context;
        owned = t.owned;
        spare = t.spare;
        either = t.either;
        writing = t.writing;
      })
    where
      φ : Flusher C
      φ = w.core.flushers f

  -- a reinsertion goes to the buffer, or is dropped
  pub received_again : (w : World C) (f h : ℕ) (bytes : List ℕ) (a : Address) (rest : List (Submission C)) → WorldInvariant rules w → (w.core.flushers f).queue ≡ Reinsert h bytes a ∷ rest
      → WorldInvariant rules (record w {
        core = record w.core {
          flushers = put w.core.flushers f (record (w.core.flushers f) {
            queue = rest;
            buffer = (w.core.flushers f).buffer ++ record { hash = h; sequence = a.sequence; bytes = bytes; source = Reread a } ∷ [];
          });
        };
      })
  received_again w f h bytes a rest sound is =
      one_turned rules w f (record φ { queue = Reinsert h bytes a ∷ rest }) (record φ { queue = rest; buffer = φ.buffer ++ r ∷ [] }) w.core.next sound
      (λ i. record φ { queue = is i }) (omega arith)
      (λ k j lt line. let P : ℕ × ℕ → Type 0 = λ p. p.0 ≡ k → j ≤ p.1 in
      each_onto P (batch_records φ.batch) (puts_onto φ.buffer (queue_puts rest)) (puts_onto (φ.buffer ++ r ∷ []) (queue_puts rest))
      (λ all. subst (Each P) (sym (onto_append φ.buffer (r ∷ []) (queue_puts rest))) all) line)
      (λ t. record {
        order = record {
          received = t.order.received;
          queued = t.order.queued;
          batch = t.order.batch;
          batch_marks = t.order.batch_marks;
          buffer = subst (λ l. Ascends t.order.received (sequences l) t.order.queued) (sym (onto_append φ.buffer (r ∷ []) [])) t.order.buffer;
          marks = t.order.marks;
          queue = t.order.queue;
        };
        batch = t.batch;
        batch_marks = t.batch_marks;
        buffer = each_join (RecordOk rules f) φ.buffer (r ∷ []) t.buffer (tt, tt);
        marks = t.marks;
        queue = (t.queue).1;
        split = t.split;
        context = t.context;
        owned = t.owned;
        spare = t.spare;
        either = t.either;
        writing = t.writing;
      })
    where
      φ : Flusher C
      φ = w.core.flushers f

      r : Record C
      r = record { hash = h; sequence = a.sequence; bytes = bytes; source = Reread a }

  pub dropped_again : (w : World C) (f h : ℕ) (bytes : List ℕ) (a : Address) (rest : List (Submission C)) → WorldInvariant rules w → (w.core.flushers f).queue ≡ Reinsert h bytes a ∷ rest
      → WorldInvariant rules (record w { core = record w.core { flushers = put w.core.flushers f (record (w.core.flushers f) { queue = rest }) } })
  dropped_again w f h bytes a rest sound is =
      one_turned rules w f (record φ { queue = Reinsert h bytes a ∷ rest }) (record φ { queue = rest }) w.core.next sound
      (λ i. record φ { queue = is i }) (omega arith) (λ k j lt line. line)
      (λ t. record {
        order = record {
          received = t.order.received;
          queued = t.order.queued;
          batch = t.order.batch;
          batch_marks = t.order.batch_marks;
          buffer = t.order.buffer;
          marks = t.order.marks;
          queue = t.order.queue;
        };
        batch = t.batch;
        batch_marks = t.batch_marks;
        buffer = t.buffer;
        marks = t.marks;
        queue = (t.queue).1;
        split = t.split;
        context = t.context;
        owned = t.owned;
        spare = t.spare;
        either = t.either;
        writing = t.writing;
      })
    where
      φ : Flusher C
      φ = w.core.flushers f

  pub start_same : (filled : ℕ → Position) (own : Option ℕ) → start_of rules filled own true ≡ start_of rules filled own (is_some own)
  start_same filled None = refl
  start_same filled (Some b) = refl

  pub begun_batch : (w : World C) (f : ℕ) (blocks : List (BlockLayout C)) (pieces : List (ℕ × C)) → WorldInvariant rules w → (w.core.flushers f).batch ≡ None
      → KeepsBatch rules (w.core.flushers f).context (w.core.flushers f).buffer blocks
      → WorldInvariant rules (record w {
        core = record w.core {
          flushers = put w.core.flushers f (record (w.core.flushers f) {
            buffer = [];
            marks = [];
            invalidated = [];
            waits = [];
            context = last_end (w.core.flushers f).context blocks;
            batch = Some (record { blocks = blocks; continues_own_block = is_some (w.core.flushers f).own; writing = None; marks = (w.core.flushers f).marks; invalidated = (w.core.flushers f).invalidated; pieces = pieces; waits = (w.core.flushers f).waits; logged = None });
          });
        };
      })
  begun_batch w f blocks pieces sound none split =
      one_turned rules w f (record φ { batch = None })
      (record φ { buffer = []; marks = []; invalidated = []; waits = []; context = last_end φ.context blocks; batch = Some (record { blocks = blocks; continues_own_block = is_some φ.own; writing = None; marks = φ.marks; invalidated = φ.invalidated; pieces = pieces; waits = φ.waits; logged = None }) }) w.core.next sound
      (λ i. record φ { batch = none i }) (omega arith)
      (λ k n lt line. subst (λ rs. AtLeast k n (puts_onto rs (queue_puts φ.queue))) (sym split.all) line)
      (λ t. record {
        order = record {
          received = t.order.queued;
          queued = t.order.queued;
          batch = subst (λ rs. Ascends 0 (sequences (puts_onto rs [])) t.order.queued) (sym split.all) (ascends_from 0 t.order.received (sequences (puts_onto φ.buffer [])) t.order.queued (omega arith) t.order.buffer);
          batch_marks = t.order.marks;
          buffer = omega arith;
          marks = tt;
          queue = t.order.queue;
        };
        batch = subst (λ rs. Each (RecordOk rules f) rs) (sym split.all) t.buffer;
        batch_marks = t.marks;
        buffer = tt;
        marks = tt;
        queue = t.queue;
        split = subst (λ g. KeepsBlocks rules g blocks) (t.context ∙ start_same w.filled φ.own) split.placed;
        context = ap (λ g. last_end g blocks) t.context;
        owned = t.owned;
        spare = t.spare;
        either = t.either;
        writing = t.writing;
      })
    where
      φ : Flusher C
      φ = w.core.flushers f

-- Steps that change one flusher alone.
use Rattle.std.proofs.Common.{◌≡◌, ℕ, ◌<◌, ◌≤◌, List, [], ◌∷◌, ◌++◌, refl, sym, ap, subst, ◌∙◌, arith}
use Rattle.foyer_core_model.specs.Numbers.{put}
use Rattle.foyer_core_model.specs.State.{Submission, Piece, Remove, Await, Reinsert, Flusher, BlockSet}
use Rattle.foyer_core_model.specs.Rules.{Rules}
use Rattle.foyer_core_model.specs.Event.{sequence_in, newest}
use Rattle.foyer_core_model.specs.Access.{BlockWrites}
use Rattle.foyer_core_model.specs.World.{World}
use Rattle.foyer_core_model.proofs.Basics.{put_at, Ascends, ascends_to, put_one}
use Rattle.foyer_format_layout.specs.Each.{Each}
use Rattle.foyer_core_model.proofs.Invariant.{Ground, ground_of, puts_onto, queue_puts, batch_records, line_of, AtLeast, SlotOk, sequences, queue_sequences, IsOrdered, SubmissionOk, FlusherInvariant, WorldInvariant}
use Rattle.foyer_core_model.proofs.GoodAddresses.{slot_lift}
use Rattle.foyer_format_layout.proofs.EachLaws.{each_join}
use Rattle.foyer_core_model.proofs.CommitSteps.{each_onto}

pub ordered_next : {C : Type 0} (n m : ℕ) (φ : Flusher C) → n ≤ m → IsOrdered n φ → IsOrdered m φ
ordered_next n m φ le o =
    record {
      received = o.received;
      queued = o.queued;
      batch = o.batch;
      batch_marks = o.batch_marks;
      buffer = o.buffer;
      marks = o.marks;
      queue = ascends_to o.queued (queue_sequences φ.queue) n m le o.queue;
    }

module _ {C : Type 0} (rules : Rules C) where
  pub tended_next : (g : Ground) (place : ℕ → BlockSet) (n m f : ℕ) (φ : Flusher C) (pending : BlockWrites) → n ≤ m → FlusherInvariant rules g place n f φ pending → FlusherInvariant rules g place m f φ pending
  tended_next g place n m f φ pending le t =
      record {
        order = ordered_next n m φ le t.order;
        batch = t.batch;
        batch_marks = t.batch_marks;
        buffer = t.buffer;
        marks = t.marks;
        queue = t.queue;
        split = t.split;
        context = t.context;
        owned = t.owned;
        spare = t.spare;
        either = t.either;
        writing = t.writing;
      }

  -- one flusher changes, and sequences may be drawn
  pub one_turned : (w : World C) (f : ℕ) (φ ψ : Flusher C) (next : ℕ) → WorldInvariant rules w
      → w.core.flushers f ≡ φ → w.core.next ≤ next
      → ((h n : ℕ) → n < w.core.next → AtLeast h n (line_of φ) → AtLeast h n (line_of ψ))
      → (FlusherInvariant rules (ground_of w) w.core.place w.core.next f φ (w.block_writes f) → FlusherInvariant rules (ground_of w) w.core.place next f ψ (w.block_writes f))
      → WorldInvariant rules (record w { core = record w.core { flushers = put w.core.flushers f ψ; next = next } })
  one_turned w f φ ψ next sound is le line tended =
      record {
        slots = λ h e routed. put_at (λ k. SlotOk rules (ground_of w) w.block_writes w.history h (line_of k) (w.core.index h)) w.core.flushers f ψ e
            (λ at. slot_lift rules (ground_of w) (ground_of w) w.block_writes w.block_writes w.history h (line_of φ) (line_of ψ) (w.core.index h) (λ a x good. good)
            (λ n eq. line h n (let below : sequence_in (newest h w.history) < w.core.next = sound.next h in omega arith))
            (subst (λ k. SlotOk rules (ground_of w) w.block_writes w.history h (line_of k) (w.core.index h)) is (sound.slots h f (routed ∙ at))))
            (λ _. sound.slots h e routed);
        loads = sound.loads;
        flushers = put_one (λ q k. FlusherInvariant rules (ground_of w) w.core.place next q k (w.block_writes q)) w.core.flushers f ψ
            (tended (subst (λ k. FlusherInvariant rules (ground_of w) w.core.place w.core.next f k (w.block_writes f)) is (sound.flushers f)))
            (λ q _. tended_next (ground_of w) w.core.place w.core.next next q (w.core.flushers q) (w.block_writes q) le (sound.flushers q));
        next = λ h. let below : sequence_in (newest h w.history) < w.core.next = sound.next h in omega arith;
      }

  -- what waits

  pub queue_puts-append : (a b : List (Submission C)) → queue_puts (a ++ b) ≡ queue_puts a ++ queue_puts b
  queue_puts-append [] b = refl
  queue_puts-append (Piece h s n c ∷ a) b = ap (λ l. (h, s) ∷ l) (queue_puts-append a b)
  queue_puts-append (Remove h s invalidated ∷ a) b = queue_puts-append a b
  queue_puts-append (Await i ∷ a) b = queue_puts-append a b
  queue_puts-append (Reinsert h bytes o ∷ a) b = queue_puts-append a b

  pub queue_sequences-append : (a b : List (Submission C)) → queue_sequences (a ++ b) ≡ queue_sequences a ++ queue_sequences b
  queue_sequences-append [] b = refl
  queue_sequences-append (Piece h s n c ∷ a) b = ap (λ l. s ∷ l) (queue_sequences-append a b)
  queue_sequences-append (Remove h s invalidated ∷ a) b = ap (λ l. s ∷ l) (queue_sequences-append a b)
  queue_sequences-append (Await i ∷ a) b = queue_sequences-append a b
  queue_sequences-append (Reinsert h bytes o ∷ a) b = queue_sequences-append a b

  pub sequences-append : (a b : List (ℕ × ℕ)) → sequences (a ++ b) ≡ sequences a ++ sequences b
  sequences-append [] b = refl
  sequences-append (p ∷ a) b = ap (λ l. p.1 ∷ l) (sequences-append a b)

  -- the queue grows
  pub pushed : (w : World C) (f : ℕ) (sub : Submission C) (next : ℕ) → WorldInvariant rules w → w.core.next ≤ next
      → SubmissionOk rules f sub
      → ((h n : ℕ) → n < w.core.next → AtLeast h n (queue_puts (sub ∷ [])))
      → ((low : ℕ) (xs : List ℕ) → Ascends low xs w.core.next → Ascends low (xs ++ queue_sequences (sub ∷ [])) next)
      → WorldInvariant rules (record w { core = record w.core { flushers = put w.core.flushers f (record (w.core.flushers f) { queue = (w.core.flushers f).queue ++ sub ∷ [] }); next = next } })
  pushed w f sub next sound le ok above up =
      one_turned w f (w.core.flushers f) (record (w.core.flushers f) { queue = (w.core.flushers f).queue ++ sub ∷ [] }) next sound refl le
      (λ h n lt line. let φ : Flusher C = w.core.flushers f in
      let P : ℕ × ℕ → Type 0 = λ p. p.0 ≡ h → n ≤ p.1 in
      each_onto P (batch_records φ.batch) (puts_onto φ.buffer (queue_puts φ.queue)) (puts_onto φ.buffer (queue_puts (φ.queue ++ sub ∷ [])))
      (each_onto P φ.buffer (queue_puts φ.queue) (queue_puts (φ.queue ++ sub ∷ []))
      (λ all. subst (Each P) (sym (queue_puts-append φ.queue (sub ∷ []))) (each_join P (queue_puts φ.queue) (queue_puts (sub ∷ [])) all (above h n lt))))
      line)
      (λ t. record {
        order = record {
          received = t.order.received;
          queued = t.order.queued;
          batch = t.order.batch;
          batch_marks = t.order.batch_marks;
          buffer = t.order.buffer;
          marks = t.order.marks;
          queue = subst (λ l. Ascends t.order.queued l next) (sym (queue_sequences-append (w.core.flushers f).queue (sub ∷ [])))
              (up t.order.queued (queue_sequences (w.core.flushers f).queue) t.order.queue);
        };
        batch = t.batch;
        batch_marks = t.batch_marks;
        buffer = t.buffer;
        marks = t.marks;
        queue = each_join (SubmissionOk rules f) (w.core.flushers f).queue (sub ∷ []) t.queue (ok, tt);
        split = t.split;
        context = t.context;
        owned = t.owned;
        spare = t.spare;
        either = t.either;
        writing = t.writing;
      })

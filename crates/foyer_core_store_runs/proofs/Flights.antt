-- The pieces on their way through a flusher, in order, and how an event moves them.
use Rattle.std.proofs.Common.{◌≡◌, ℕ, ◌+◌, ◌≤◌, ◌==◌, Bool, true, false, List, [], ◌∷◌, ◌++◌, Option, Some, None, ◌⊎◌, inl, inr, refl, sym, ap, subst, ◌∙◌, append_assoc, append-nil}
use Rattle.std.proofs.lemmas.Bool.{eqb-true, eqb-false}
use Rattle.foyer_core_model.specs.Kind.{Kind}
use Rattle.foyer_core_model.specs.Numbers.{put}
use Rattle.foyer_core_model.specs.Record.{Slot, Indexed, Mark, Outcome, NoRecord, Holds, IndexEntry, Source, Given, Reread, Record}
use Rattle.foyer_core_model.specs.State.{Submission, Piece, Remove, Await, Reinsert, Batch, Flusher, Stage, AtIndex, AtRecord, AllListed, ToClean, Reclaim, Destroy, NoDestroy, Begun, Cleaning, State}
use Rattle.foyer_core_model.specs.Rules.{Rules, flusher_of, Splitting}
use Rattle.foyer_core_model.specs.Step.{ReadResult, Bytes, Fault, Age, Ticket, Step, Enqueue, Delete, Wait, MayContains, LoadBegin, LoadEnd, Receive, FlushBegin, FlushBlock, FlushWrote, LogWrote, FlushEnd, ReclaimBegin, ReclaimRead, ReclaimForget, ReclaimCleaned, ReclaimIdle, DestroyBegin, DestroyClear, DestroyCleaned, Close}
use Rattle.foyer_core_model.specs.Reply.{Reply, NotNow, Refused, Ignored, Queued, Dropped, Deleted, Done, Miss, Throttled, Read, Entry, Empty, Received, Began, Written, NoBlock, Next, Committed, Failed, Ended, Picked, Cleans, Destroying, Cleared}
use Rattle.foyer_core_model.specs.Queue.{invalidated_by, queued, Enqueues, Deletes, Waits}
use Rattle.foyer_core_model.specs.Load.{Looks, judged, Judges, Ends}
use Rattle.foyer_core_model.specs.Receive.{piece_of, pieces_of, TakesFront}
use Rattle.foyer_core_model.specs.Flush.{Begins, block_issued, Describes, Wrote, Logs, Finishes}
use Rattle.foyer_core_model.specs.Reclaim.{Picks, Lists, Scanned, Rereads, Forgets, Cleaned}
use Rattle.foyer_core_model.specs.Destroy.{BeginsDestroy, Clears, CleansOne}
use Rattle.foyer_core_model.specs.InTurn.{InTurn}
use Rattle.foyer_core_model.specs.Changes.{Changes}
use Rattle.foyer_core_model.specs.Follows.{Follows}
use Rattle.foyer_core_model.specs.Event.{Event, sequence_in, newest, with_returned}
use Rattle.foyer_core_model.specs.Access.{came}
use Rattle.foyer_core_model.specs.World.{World, WorldEvent, Applies, ReadBegins, ReadEnds, ScanBegins, ScanEnds, WriteBegins, WriteEnds, CleanBegins, CleanEnds, after, MayHappen}
use Rattle.foyer_core_model.proofs.Basics.{put_at, put_one, put_other, put_both}
use Rattle.foyer_core_store_runs.specs.StoreRun.{front_piece, back_after}
use Rattle.foyer_core_store_runs.proofs.Lids.{deletion_covers}

abbrev pub queue_pieces : {C : Type 0} → List (Submission C) → List (ℕ × C)
queue_pieces [] = []
queue_pieces (Piece h s n c ∷ rest) = (s, c) ∷ queue_pieces rest
queue_pieces (Remove h s invalidated ∷ rest) = queue_pieces rest
queue_pieces (Await i ∷ rest) = queue_pieces rest
queue_pieces (Reinsert h bytes a ∷ rest) = queue_pieces rest

abbrev pub batch_pieces : {C : Type 0} → Option (Batch C) → List (ℕ × C)
batch_pieces None = []
batch_pieces (Some batch) = batch.pieces

-- first those of the batch, then those received, then those queued
abbrev pub flight : {C : Type 0} → Flusher C → List (ℕ × C)
flight φ = batch_pieces φ.batch ++ (pieces_of φ.buffer ++ queue_pieces φ.queue)

queue_pushed : {C : Type 0} (queue : List (Submission C)) (sub : Submission C) → queue_pieces (queue ++ sub ∷ []) ≡ queue_pieces queue ++ queue_pieces (sub ∷ [])
queue_pushed [] sub = refl
queue_pushed (Piece h s n c ∷ rest) sub = ap (λ l. (s, c) ∷ l) (queue_pushed rest sub)
queue_pushed (Remove h s invalidated ∷ rest) sub = queue_pushed rest sub
queue_pushed (Await i ∷ rest) sub = queue_pushed rest sub
queue_pushed (Reinsert h bytes a ∷ rest) sub = queue_pushed rest sub

pieces_pushed : {C : Type 0} (buffer : List (Record C)) (r : Record C) → pieces_of (buffer ++ r ∷ []) ≡ pieces_of buffer ++ pieces_of (r ∷ [])
pieces_pushed [] r = refl
pieces_pushed {C} (b ∷ buffer) r = one b.source (pieces_pushed buffer r)
  where
    one : (src : Source C) → pieces_of (buffer ++ r ∷ []) ≡ pieces_of buffer ++ pieces_of (r ∷ [])
        → piece_of b.sequence src (pieces_of (buffer ++ r ∷ [])) ≡ piece_of b.sequence src (pieces_of buffer) ++ pieces_of (r ∷ [])
    one (Given c) rec = ap (λ l. (b.sequence, c) ∷ l) rec
    one (Reread a) rec = rec

-- a submission at the end of a queue
flight_pushed : {C : Type 0} (φ : Flusher C) (sub : Submission C) → flight (record φ { queue = φ.queue ++ sub ∷ [] }) ≡ flight φ ++ queue_pieces (sub ∷ [])
flight_pushed φ sub =
    ap (λ l. batch_pieces φ.batch ++ (pieces_of φ.buffer ++ l)) (queue_pushed φ.queue sub)
    ∙ ap (λ l. batch_pieces φ.batch ++ l) (sym (append_assoc (pieces_of φ.buffer) (queue_pieces φ.queue) (queue_pieces (sub ∷ []))))
    ∙ sym (append_assoc (batch_pieces φ.batch) (pieces_of φ.buffer ++ queue_pieces φ.queue) (queue_pieces (sub ∷ [])))

-- the front of a queue at the end of the buffer
flight_taken : {C : Type 0} (φ : Flusher C) (rest : List (Submission C)) (r : Record C)
    → flight (record φ { queue = rest; buffer = φ.buffer ++ r ∷ [] }) ≡ batch_pieces φ.batch ++ (pieces_of φ.buffer ++ (pieces_of (r ∷ []) ++ queue_pieces rest))
flight_taken φ rest r =
    ap (λ l. batch_pieces φ.batch ++ (l ++ queue_pieces rest)) (pieces_pushed φ.buffer r)
    ∙ ap (λ l. batch_pieces φ.batch ++ l) (append_assoc (pieces_of φ.buffer) (pieces_of (r ∷ [])) (queue_pieces rest))

-- what was given back, and then what is on its way
abbrev pub line_at : {C : Type 0} → (ℕ → List (ℕ × C)) → (ℕ → Flusher C) → ℕ → List (ℕ × C)
line_at back flushers q = back q ++ flight (flushers q)

-- the piece at the front of the queue overtakes those that are received and in the batch, and is past
pub record Overtakes {C : Type 0} (w : World C) (H : List (Event C)) (q : ℕ) (old new : List (ℕ × C)) : Type 0 where
  pub hash : ℕ
  pub sequence : ℕ
  pub size : ℕ
  pub content : C
  pub rest : List (Submission C)
  pub front : (w.core.flushers q).queue ≡ Piece hash sequence size content ∷ rest
  pub past : sequence ≤ sequence_in (newest hash H)
  pub base : List (ℕ × C)
  pub over : List (ℕ × C)
  pub behind : List (ℕ × C)
  pub was : old ≡ base ++ (over ++ (sequence, content) ∷ behind)
  pub is : new ≡ (base ++ (sequence, content) ∷ []) ++ (over ++ behind)

-- a piece is queued at the end
pub record IsPushed {C : Type 0} (rules : Rules C) (e : WorldEvent C) (q : ℕ) (old new : List (ℕ × C)) : Type 0 where
  pub hash : ℕ
  pub size : ℕ
  pub age : Age
  pub sequence : ℕ
  pub content : C
  pub core : State C
  pub event : e ≡ Applies (Enqueue hash size age content) (Queued sequence) core
  pub at : flusher_of rules hash ≡ q
  pub is : new ≡ old ++ (sequence, content) ∷ []

-- how an event changes a flusher's line
abbrev pub LineGoes : {C : Type 0} → Rules C → World C → WorldEvent C → ℕ → List (ℕ × C) → List (ℕ × C) → Type 0
LineGoes rules w e q old new = (new ≡ old) ⊎ Overtakes w (after rules w e).history q old new ⊎ IsPushed rules e q old new

module _ {C : Type 0} (rules : Rules C) (Splits : Splitting C) (w : World C) (back : ℕ → List (ℕ × C)) (q : ℕ) where
  abbrev Line : State C → List (ℕ × C)
  Line new = line_at back new.flushers q

  -- flushers that keep what is on its way
  stays : (new expr : State C) → new ≡ expr → flight (expr.flushers q) ≡ flight (w.core.flushers q) → Line new ≡ Line w.core
  stays new expr eq flies = ap (λ k. back q ++ flight (k.flushers q)) eq ∙ ap (λ l. back q ++ l) flies

  -- one flusher changes, and keeps what is on its way
  flies : (f : ℕ) (ψ : Flusher C) → flight ψ ≡ flight (w.core.flushers f) → flight (put w.core.flushers f ψ q) ≡ flight (w.core.flushers q)
  flies f ψ e = put_one (λ k φ. flight φ ≡ flight (w.core.flushers k)) w.core.flushers f ψ e (λ k _. refl) q

  -- a submission that is no piece
  other_queued : (f : ℕ) (sub : Submission C) → queue_pieces (sub ∷ []) ≡ [] → flight ((queued rules w.core f sub).flushers q) ≡ flight (w.core.flushers q)
  other_queued f sub none = flies f _ (flight_pushed (w.core.flushers f) sub ∙ ap (λ l. flight (w.core.flushers f) ++ l) none ∙ append-nil (flight (w.core.flushers f)))

  deletes_line : (h : ℕ) (reply : Reply C) (new : State C) → Deletes rules w.core h reply new → Line new ≡ Line w.core
  deletes_line h (Deleted s) new ok = stays new _ ok.3 (other_queued (flusher_of rules h) _ refl)
  deletes_line h reply new ok = absurd ok

  waits_line : (f i : ℕ) (reply : Reply C) (new : State C) → Waits rules w.core f i reply new → Line new ≡ Line w.core
  waits_line f i Done new ok = stays new _ ok (other_queued f _ refl)
  waits_line f i reply new ok = absurd ok

  looks_line : (h : ℕ) (throttled : Bool) (slot : Option Slot) (reply : Reply C) (new : State C) → Looks rules w.core h throttled slot reply new → Line new ≡ Line w.core
  looks_line h throttled None Miss new ok = stays new w.core ok refl
  looks_line h throttled (Some (Mark s)) Miss new ok = stays new w.core ok refl
  looks_line h throttled (Some (Indexed a)) Throttled new ok = stays new w.core ok.1 refl
  looks_line h throttled (Some (Indexed a)) Miss new ok = stays new _ ok.2 refl
  looks_line h throttled (Some (Indexed a)) (Read t) new ok = stays new _ ok.3 refl
  looks_line h throttled slot reply new ok = absurd ok

  judges_line : (t : Ticket) (x : Outcome C) (reply : Reply C) (new : State C) → Judges rules w.core t x reply new → Line new ≡ Line w.core
  judges_line t NoRecord Miss new ok = stays new _ ok refl
  judges_line t (Holds c) (Entry d age) new ok = stays new w.core ok.2 refl
  judges_line t x reply new ok = absurd ok

  ends_line : (t : Ticket) (came : ReadResult) (reply : Reply C) (new : State C) → Ends rules w.core t came reply new → Line new ≡ Line w.core
  ends_line t Fault reply new ok = absurd ok
  ends_line t (Bytes bs) reply new ok = judges_line t (judged rules w.core t bs) reply new ok

  begins_line : (f : ℕ) (reply : Reply C) (new : State C) → (w.core.flushers f).batch ≡ None → Begins rules Splits w.core f reply new → Line new ≡ Line w.core
  begins_line f (Began blocks marks) new none ok =
      stays new _ ok.2 (flies f _ (ap (λ b. batch_pieces b ++ (pieces_of (w.core.flushers f).buffer ++ queue_pieces (w.core.flushers f).queue)) (sym none)))
  begins_line f reply new none ok = absurd ok

  issues_line : (f : ℕ) (batch : Option (Batch C)) (reply : Reply C) (new : State C) → (w.core.flushers f).batch ≡ batch → Describes rules w.core f batch reply new → Line new ≡ Line w.core
  issues_line f (Some batch) NoBlock new is ok = stays new _ ok.3 (flies f _ refl)
  issues_line f (Some batch) (Written b writes) new is (s, rest, blocks, all, which) =
      elim which [
        | inl (goes_on, own, eq) ↦ stays new _ eq same
        | inr (inl (fresh, ready, eq)) ↦ stays new _ eq same
        | inr (inr (fresh, ready, free, eq)) ↦ stays new _ eq same
      ]
    where
      same : flight ((block_issued rules w.core f b batch s rest).flushers q) ≡ flight (w.core.flushers q)
      same = flies f _ (ap (λ k. batch_pieces k ++ (pieces_of (w.core.flushers f).buffer ++ queue_pieces (w.core.flushers f).queue)) (sym is))
  issues_line f batch reply new is ok = absurd ok

  wrote_line : (f : ℕ) (good : Bool) (batch : Option (Batch C)) (reply : Reply C) (new : State C) → (w.core.flushers f).batch ≡ batch → Wrote rules w.core f good batch reply new → Line new ≡ Line w.core
  wrote_line f true (Some batch) Next new is ok = stays new _ ok.6 (flies f _ (ap (λ k. batch_pieces k ++ (pieces_of (w.core.flushers f).buffer ++ queue_pieces (w.core.flushers f).queue)) (sym is)))
  wrote_line f true (Some batch) (Committed n) new is ok = stays new _ ok.5 (flies f _ (ap (λ k. batch_pieces k ++ (pieces_of (w.core.flushers f).buffer ++ queue_pieces (w.core.flushers f).queue)) (sym is)))
  wrote_line f good (Some batch) Failed new is ok = stays new _ ok.6 (flies f _ (ap (λ k. batch_pieces k ++ (pieces_of (w.core.flushers f).buffer ++ queue_pieces (w.core.flushers f).queue)) (sym is)))
  wrote_line f good batch reply new is ok = absurd ok

  logs_line : (f : ℕ) (well : Bool) (batch : Option (Batch C)) (reply : Reply C) (new : State C) → (w.core.flushers f).batch ≡ batch → Logs rules w.core f well batch reply new → Line new ≡ Line w.core
  logs_line f well (Some batch) Done new is ok = stays new _ ok (flies f _ (ap (λ k. batch_pieces k ++ (pieces_of (w.core.flushers f).buffer ++ queue_pieces (w.core.flushers f).queue)) (sym is)))
  logs_line f well batch reply new is ok = absurd ok

  reads_line : (b : ℕ) (r : Option Reclaim) (came : ReadResult) (reply : Reply C) (new : State C) → Rereads rules w.core b r came reply new → Line new ≡ Line w.core
  reads_line b None came reply new ok = absurd ok
  reads_line b (Some r) came reply new ok = scanned r.stage came ok
    where
      lists : (place : ℕ) (es : Option (List IndexEntry)) → Lists rules w.core b r place es reply new → Line new ≡ Line w.core
      lists place None given = stays new _ given.1 refl
      lists place (Some es) given = stays new _ given.3 refl

      scanned : (stage : Stage) (came : ReadResult) → Scanned rules w.core b r stage came reply new → Line new ≡ Line w.core
      scanned (AtIndex place) Fault given = stays new _ given.1 refl
      scanned (AtRecord h a rest place) Fault given = stays new _ given.1 refl
      scanned (AtIndex place) (Bytes bs) given = lists place (rules.entries_of place bs) given
      scanned (AtRecord h a rest place) (Bytes bs) given = stays new _ given.1 (other_queued _ _ refl)
      scanned AllListed came given = absurd given
      scanned ToClean came given = absurd given

  picks_line : (reply : Reply C) (new : State C) → Picks rules w.core reply new → Line new ≡ Line w.core
  picks_line (Picked b answers probation) new ok = stays new _ ok.4 refl
  picks_line reply new ok = absurd ok

  forgets_line : (b : ℕ) (r : Option Reclaim) (reply : Reply C) (new : State C) → Forgets rules w.core b r reply new → Line new ≡ Line w.core
  forgets_line b (Some r) (Cleans d) new ok = stays new _ ok.1 refl
  forgets_line b r reply new ok = absurd ok

  cleaned_line : (b : ℕ) (reply : Reply C) (new : State C) → Cleaned rules w.core b reply new → Line new ≡ Line w.core
  cleaned_line b Done new ok =
      elim ok [
        | inl (f, others, waits, room, eq) ↦ stays new _ eq (flies f _ refl)
        | inr (nobody, eq) ↦ stays new _ eq refl
      ]
  cleaned_line b reply new ok = absurd ok

  destroys_line : (reply : Reply C) (new : State C) → BeginsDestroy rules w.core reply new → Line new ≡ Line w.core
  destroys_line (Destroying s) new ok = stays new _ ok.3 (other_queued (flusher_of rules 0) _ refl)
  destroys_line reply new ok = absurd ok

  clears_line : (reply : Reply C) (new : State C) → Clears rules w.core reply new → Line new ≡ Line w.core
  clears_line (Cleared bs) new ok = stays new _ ok.1 refl
  clears_line reply new ok = absurd ok

  cleans_line : (b : ℕ) (well : Option Kind) (d : Destroy) (reply : Reply C) (new : State C) → CleansOne rules w.core b well d reply new → Line new ≡ Line w.core
  cleans_line b well (Cleaning left failed) reply new ok = stays new _ ok.1 refl
  cleans_line b well NoDestroy reply new ok = absurd ok
  cleans_line b well Begun reply new ok = absurd ok

module _ {C : Type 0} (rules : Rules C) (Splits : Splitting C) (w : World C) (back : ℕ → List (ℕ × C)) (q : ℕ) where
  -- the line of a flusher after an event
  abbrev pub LineAfter : WorldEvent C → List (ℕ × C)
  LineAfter e = line_at (back_after w e back) (after rules w e).core.flushers q

  abbrev Old : List (ℕ × C)
  Old = line_at back w.core.flushers q

  -- a batch ends: its pieces are given back
  finishes_line : (f : ℕ) (batch : Option (Batch C)) (reply : Reply C) (done new : State C) → (w.core.flushers f).batch ≡ batch → Finishes rules w.core f batch reply done
      → line_at (back_after w (Applies (FlushEnd f) reply new) back) done.flushers q ≡ Old
  finishes_line f (Some batch) (Ended pieces waits) done new is ok =
      ap (λ k. line_at (put back f (back f ++ pieces)) k.flushers q) ok.2
      ∙ put_both (λ k b φ. b ++ flight φ ≡ back k ++ flight (w.core.flushers k)) back w.core.flushers f (back f ++ pieces) (record (w.core.flushers f) { batch = None })
      (append_assoc (back f) pieces (pieces_of (w.core.flushers f).buffer ++ queue_pieces (w.core.flushers f).queue)
      ∙ ap (λ l. back f ++ (l ++ (pieces_of (w.core.flushers f).buffer ++ queue_pieces (w.core.flushers f).queue))) (ok.0 ∙ ap batch_pieces (sym is)))
      (λ k _. refl) q
  finishes_line f batch reply done new is ok = absurd ok

  -- the front of a queue is taken, or returned
  takes_line : (f : ℕ) (queue : List (Submission C)) (reply : Reply C) (done new : State C) → (w.core.flushers f).queue ≡ queue → TakesFront rules w.core f queue reply done
      → LineGoes rules w (Applies (Receive f) reply new) q Old (line_at (back_after w (Applies (Receive f) reply new) back) done.flushers q)
  takes_line f [] Empty done new is ok = inl (stays rules Splits w back q done w.core ok refl)
  takes_line f (Piece h s n c ∷ rest) (Received None) done new is ok =
      inl (stays rules Splits w back q done _ ok.3 (flies rules Splits w back q f _ (flight_taken (w.core.flushers f) rest _ ∙ whole)))
    where
      whole : batch_pieces (w.core.flushers f).batch ++ (pieces_of (w.core.flushers f).buffer ++ ((s, c) ∷ queue_pieces rest)) ≡ flight (w.core.flushers f)
      whole = ap (λ l. batch_pieces (w.core.flushers f).batch ++ (pieces_of (w.core.flushers f).buffer ++ queue_pieces l)) (sym is)
  takes_line f (Piece h s n c ∷ rest) (Received (Some d)) done new is ok = go (q == f) refl
    where
      φ : Flusher C
      φ = w.core.flushers f

      ψ : Flusher C
      ψ = record φ { queue = rest; marks = φ.marks ++ (h, s) ∷ []; invalidated = φ.invalidated ++ invalidated_by rules s (w.core.index h) }

      given : List (ℕ × C)
      given = back f ++ front_piece φ.queue

      after_it : line_at (put back f given) done.flushers q ≡ line_at (put back f given) (put w.core.flushers f ψ) q
      after_it = ap (λ k. line_at (put back f given) k.flushers q) ok.2

      go : (t : Bool) → (q == f) ≡ t → LineGoes rules w (Applies (Receive f) (Received (Some d)) new) q Old (line_at (put back f given) done.flushers q)
      go false ne =
          inl (after_it ∙ ap (λ b. b ++ flight (put w.core.flushers f ψ q)) (put_other back f given q (eqb-false q f ne)) ∙ ap (λ k. back q ++ flight k) (put_other w.core.flushers f ψ q (eqb-false q f ne)))
      go true e =
          let at : q ≡ f = eqb-true q f e in
          inr (inl (record {
            hash = h;
            sequence = s;
            size = n;
            content = c;
            rest = rest;
            front = ap (λ k. (w.core.flushers k).queue) at ∙ is;
            past = subst (λ l. s ≤ sequence_in (newest h (with_returned l w.history))) (sym is) (deletion_covers h s w.history);
            base = back f;
            over = batch_pieces φ.batch ++ pieces_of φ.buffer;
            behind = queue_pieces rest;
            was = ap (λ k. back k ++ flight (w.core.flushers k)) at
                ∙ ap (λ l. back f ++ (batch_pieces φ.batch ++ (pieces_of φ.buffer ++ queue_pieces l))) is
                ∙ ap (λ l. back f ++ l) (sym (append_assoc (batch_pieces φ.batch) (pieces_of φ.buffer) ((s, c) ∷ queue_pieces rest)));
            is = after_it
                ∙ ap (λ b. b ++ flight (put w.core.flushers f ψ q)) (put_at (λ b. b ≡ given) back f given q (λ _. refl) (λ ne. absurd (ne at)))
                ∙ ap (λ k. given ++ flight k) (put_at (λ k. k ≡ ψ) w.core.flushers f ψ q (λ _. refl) (λ ne. absurd (ne at)))
                ∙ ap (λ l. (back f ++ front_piece l) ++ flight ψ) is
                ∙ ap (λ l. (back f ++ (s, c) ∷ []) ++ l) (sym (append_assoc (batch_pieces φ.batch) (pieces_of φ.buffer) (queue_pieces rest)));
          }))
  takes_line f (Remove h s invalidated ∷ rest) (Received None) done new is ok =
      inl (stays rules Splits w back q done _ ok (flies rules Splits w back q f _ (ap (λ l. batch_pieces (w.core.flushers f).batch ++ (pieces_of (w.core.flushers f).buffer ++ queue_pieces l)) (sym is))))
  takes_line f (Await i ∷ rest) (Received None) done new is ok =
      inl (stays rules Splits w back q done _ ok (flies rules Splits w back q f _ (ap (λ l. batch_pieces (w.core.flushers f).batch ++ (pieces_of (w.core.flushers f).buffer ++ queue_pieces l)) (sym is))))
  takes_line f (Reinsert h bytes a ∷ rest) (Received None) done new is ok =
      inl (elim ok [
        | inl (held, fits, eq) ↦ stays rules Splits w back q done _ eq (flies rules Splits w back q f _ (flight_taken (w.core.flushers f) rest _
            ∙ ap (λ l. batch_pieces (w.core.flushers f).batch ++ (pieces_of (w.core.flushers f).buffer ++ queue_pieces l)) (sym is)))
        | inr (dropped, eq) ↦ stays rules Splits w back q done _ eq (flies rules Splits w back q f _ (ap (λ l. batch_pieces (w.core.flushers f).batch ++ (pieces_of (w.core.flushers f).buffer ++ queue_pieces l)) (sym is)))
      ])
  takes_line f queue reply done new is ok = absurd ok

  enqueues_line : (h n : ℕ) (age : Age) (c : C) (reply : Reply C) (done new : State C) → Enqueues rules w.core h n age c reply done
      → LineGoes rules w (Applies (Enqueue h n age c) reply new) q Old (line_at back done.flushers q)
  enqueues_line h n age c (Ignored d) done new ok = inl (stays rules Splits w back q done w.core ok.3 refl)
  enqueues_line h n age c (Dropped d s) done new ok = inl (deletes_line rules Splits w back q h (Deleted s) done ok.3)
  enqueues_line h n age c (Queued s) done new ok = go (q == flusher_of rules h) refl
    where
      f : ℕ
      f = flusher_of rules h

      ψ : Flusher C
      ψ = record (w.core.flushers f) { queue = (w.core.flushers f).queue ++ Piece h s n c ∷ [] }

      go : (t : Bool) → (q == f) ≡ t → LineGoes rules w (Applies (Enqueue h n age c) (Queued s) new) q Old (line_at back done.flushers q)
      go false ne = inl (ap (λ k. back q ++ flight (k.flushers q)) ok.4 ∙ ap (λ k. back q ++ flight k) (put_other w.core.flushers f ψ q (eqb-false q f ne)))
      go true e =
          let at : q ≡ f = eqb-true q f e in
          inr (inr (record {
            hash = h;
            size = n;
            age = age;
            sequence = s;
            content = c;
            core = new;
            event = refl;
            at = sym at;
            is = ap (λ k. back q ++ flight (k.flushers q)) ok.4
                ∙ ap (λ k. back q ++ flight k) (put_at (λ k. k ≡ ψ) w.core.flushers f ψ q (λ _. refl) (λ ne. absurd (ne at)))
                ∙ ap (λ l. back q ++ l) (flight_pushed (w.core.flushers f) (Piece h s n c))
                ∙ ap (λ k. back q ++ (flight (w.core.flushers k) ++ (s, c) ∷ [])) (sym at)
                ∙ sym (append_assoc (back q) (flight (w.core.flushers q)) ((s, c) ∷ []));
          }))
  enqueues_line h n age c reply done new ok = absurd ok

  does_line : (step : Step C) (reply : Reply C) (done new : State C) → InTurn rules w.core step → Changes rules Splits w.core step reply done
      → LineGoes rules w (Applies step reply new) q Old (line_at (back_after w (Applies step reply new) back) done.flushers q)
  does_line (Enqueue h n age c) reply done new turn ok = enqueues_line h n age c reply done new ok
  does_line (Delete h) reply done new turn ok = inl (deletes_line rules Splits w back q h reply done ok)
  does_line (Wait f i) reply done new turn ok = inl (waits_line rules Splits w back q f i reply done ok)
  does_line (MayContains h) reply done new turn ok = inl (stays rules Splits w back q done w.core ok.1 refl)
  does_line (LoadBegin h throttled) reply done new turn ok = inl (looks_line rules Splits w back q h throttled (w.core.index h) reply done ok)
  does_line (LoadEnd t came) reply done new turn ok = inl (ends_line rules Splits w back q t came reply done ok)
  does_line (Receive f) reply done new turn ok = takes_line f (w.core.flushers f).queue reply done new refl ok
  does_line (FlushBegin f) reply done new turn ok = inl (begins_line rules Splits w back q f reply done turn.1 ok)
  does_line (FlushBlock f) reply done new turn ok = inl (issues_line rules Splits w back q f (w.core.flushers f).batch reply done refl ok)
  does_line (FlushWrote f good) reply done new turn ok = inl (wrote_line rules Splits w back q f good (w.core.flushers f).batch reply done refl ok)
  does_line (LogWrote f well) reply done new turn ok = inl (logs_line rules Splits w back q f well (w.core.flushers f).batch reply done refl ok)
  does_line (FlushEnd f) reply done new turn ok = inl (finishes_line f (w.core.flushers f).batch reply done new refl ok)
  does_line ReclaimBegin reply done new turn ok = inl (picks_line rules Splits w back q reply done ok)
  does_line (ReclaimRead b came) reply done new turn ok = inl (reads_line rules Splits w back q b (w.core.reclaims b) came reply done ok)
  does_line (ReclaimForget b) reply done new turn ok = inl (forgets_line rules Splits w back q b (w.core.reclaims b) reply done ok)
  does_line (ReclaimCleaned b well) reply done new turn ok = inl (cleaned_line rules Splits w back q b reply done ok)
  does_line ReclaimIdle reply done new turn ok = inl (stays rules Splits w back q done w.core ok.1 refl)
  does_line DestroyBegin reply done new turn ok = inl (destroys_line rules Splits w back q reply done ok)
  does_line DestroyClear reply done new turn ok = inl (clears_line rules Splits w back q reply done ok)
  does_line (DestroyCleaned b well) reply done new turn ok = inl (cleans_line rules Splits w back q b well w.core.destroy reply done ok)
  does_line Close reply done new turn ok = inl (stays rules Splits w back q done _ ok.1 refl)

  not_now_back : (step back_step : Step C) (new : State C) → back_after w (Applies step (NotNow back_step) new) back ≡ back
  not_now_back (Receive f) back_step new = refl
  not_now_back (FlushEnd f) back_step new = refl
  not_now_back step back_step new = refl

  refused_back : (step : Step C) (kind : Kind) (back_step : Step C) (new : State C) → back_after w (Applies step (Refused kind back_step) new) back ≡ back
  refused_back (Receive f) kind back_step new = refl
  refused_back (FlushEnd f) kind back_step new = refl
  refused_back step kind back_step new = refl

  step_line : (step : Step C) (reply : Reply C) (new : State C) → Follows rules Splits w.core step reply new
      → LineGoes rules w (Applies step reply new) q Old (LineAfter (Applies step reply new))
  step_line step (NotNow back_step) new ok = inl (ap (λ b. line_at b new.flushers q) (not_now_back step back_step new) ∙ stays rules Splits w back q new w.core ok.2 refl)
  step_line step (Refused kind back_step) new ok = inl (ap (λ b. line_at b new.flushers q) (refused_back step kind back_step new) ∙ stays rules Splits w back q new w.core ok.2 refl)
  step_line step reply new (few, turn, (done, changes, eq)) =
      subst (λ k. LineGoes rules w (Applies step reply new) q Old (line_at (back_after w (Applies step reply new) back) k.flushers q)) (sym eq) (does_line step reply done new turn changes)

  -- how an event changes a flusher's line
  pub event_line : (is_value : C → Type 0) (e : WorldEvent C) → MayHappen rules Splits is_value w e → LineGoes rules w e q Old (LineAfter e)
  event_line is_value (Applies step reply new) ok = step_line step reply new ok.1
  event_line is_value (ReadBegins n) ok = inl refl
  event_line is_value (ReadEnds n result) ok = inl refl
  event_line is_value (ScanBegins b) ok = inl refl
  event_line is_value (ScanEnds b result) ok = inl refl
  event_line is_value (WriteBegins f) ok = inl refl
  event_line is_value (WriteEnds f good g) ok = inl refl
  event_line is_value (CleanBegins b) ok = inl refl
  event_line is_value (CleanEnds b good g) ok = inl refl

  -- a piece that is queued lies at the end of its flusher's line
  pub queued_line : (is_value : C → Type 0) (h n : ℕ) (age : Age) (c : C) (s : ℕ) (new : State C) → MayHappen rules Splits is_value w (Applies (Enqueue h n age c) (Queued s) new) → flusher_of rules h ≡ q
      → line_at back new.flushers q ≡ Old ++ (s, c) ∷ []
  queued_line is_value h n age c s new (fed, (few, turn, (done, changes, eq))) at =
      ap (λ (k : State C). back q ++ flight (k.flushers q)) (eq ∙ ap {A = State C} {B = State C} (λ k. record k { steps = w.core.steps + 1 }) changes.4)
      ∙ ap (λ k. back q ++ flight k) (put_at (λ k. k ≡ ψ) w.core.flushers (flusher_of rules h) ψ q (λ _. refl) (λ ne. absurd (ne (sym at))))
      ∙ ap (λ l. back q ++ l) (flight_pushed (w.core.flushers (flusher_of rules h)) (Piece h s n c))
      ∙ ap (λ k. back q ++ (flight (w.core.flushers k) ++ (s, c) ∷ [])) at
      ∙ sym (append_assoc (back q) (flight (w.core.flushers q)) ((s, c) ∷ []))
    where
      ψ : Flusher C
      ψ = record (w.core.flushers (flusher_of rules h)) { queue = (w.core.flushers (flusher_of rules h)).queue ++ Piece h s n c ∷ [] }

-- A look-up finds the newest record, unless a reclaim or a destroy may have taken it.
use Rattle.std.proofs.Common.{◌≡◌, ℕ, ◌+◌, ◌<◌, ◌==◌, Bool, true, false, if◌then◌else◌, List, [], ◌∷◌, map, take, Option, Some, None, ◌⊎◌, inl, inr, refl, sym, ap, subst, ◌∙◌, arith}
use Rattle.std.proofs.lemmas.Bool.{eqb-true, eqb-false}
use Rattle.foyer_core_model.specs.Kind.{Kind}
use Rattle.foyer_core_model.specs.Numbers.{put}
use Rattle.foyer_core_model.specs.Record.{Address, Slot, Indexed, Mark, Outcome, NoRecord, Holds, IndexEntry, Source, Given, Reread, Record}
use Rattle.foyer_format_layout.specs.BlockBytes.{Write, read}
use Rattle.foyer_core_model.specs.Position.{records_of}
use Rattle.foyer_core_model.specs.State.{Submission, Piece, Remove, Await, Reinsert, Writing, Batch, Flusher, BlockSet, Clean, Writes, Evictable, Reclaims, Stage, AtIndex, AtRecord, Reclaim, Destroy, NoDestroy, Begun, Cleaning, State}
use Rattle.foyer_core_model.specs.Rules.{Rules, flusher_of, Splitting}
use Rattle.foyer_core_model.specs.Step.{ReadResult, Bytes, Fault, Age, Ticket, Step, Enqueue, Delete, Wait, MayContains, LoadBegin, LoadEnd, Receive, FlushBegin, FlushBlock, FlushWrote, LogWrote, FlushEnd, ReclaimBegin, ReclaimRead, ReclaimForget, ReclaimCleaned, ReclaimIdle, DestroyBegin, DestroyClear, DestroyCleaned, Close}
use Rattle.foyer_core_model.specs.Reply.{Reply, NotNow, Refused, Ignored, Queued, Dropped, Deleted, Done, Miss, Throttled, Read, Entry, Empty, Received, Began, Written, NoBlock, Next, Committed, Failed, Ended, Picked, Cleans, Destroying, Cleared}
use Rattle.foyer_core_model.specs.Index.{is_same, holds, inserted, without}
use Rattle.foyer_core_model.specs.Commit.{address_of, committed_one}
use Rattle.foyer_core_model.specs.Queue.{invalidated_by, queued, Enqueues, Deletes, Waits}
use Rattle.foyer_core_model.specs.Load.{Looks, judged, Judges, Ends}
use Rattle.foyer_core_model.specs.Receive.{turned, TakesFront}
use Rattle.foyer_core_model.specs.Flush.{released, commit_in, Begins, clean_block, Describes, Wrote, Logs, Finishes}
use Rattle.foyer_core_model.specs.Reclaim.{is_listed, not_among, Picks, Lists, Rereads, Forgets, Cleaned}
use Rattle.foyer_core_model.specs.Destroy.{BeginsDestroy, Clears, CleansOne}
use Rattle.foyer_core_model.specs.InTurn.{InTurn}
use Rattle.foyer_core_model.specs.Changes.{Changes}
use Rattle.foyer_core_model.specs.Follows.{Follows}
use Rattle.foyer_core_model.specs.Event.{Event, Put, Deletion, Destruction, sequence_in, newest, with_puts, puts_of, with_returned}
use Rattle.foyer_core_model.specs.Kept.{with_kept, kept_of}
use Rattle.foyer_core_model.specs.Access.{Idle, ReadDone, Load, result_of, came}
use Rattle.foyer_core_model.specs.World.{World, WorldEvent, Applies, ReadBegins, ReadEnds, ScanBegins, ScanEnds, WriteBegins, WriteEnds, CleanBegins, CleanEnds, after, IsFed, MayHappen}
use Rattle.foyer_core_model.specs.Opened.{slot_among, block_among, is_clean, IsOpened}
use Rattle.foyer_core_model.specs.Laws.{Demands}
use Rattle.foyer_core_model.proofs.Basics.{put_at, Ascends}
use Rattle.foyer_format_layout.specs.Each.{Each}
use Rattle.foyer_core_model.proofs.Invariant.{ground_of, IsGood, puts_onto, queue_puts, writing_in, batch_records, line_of, SlotOk, ReadStateHolds, IsPromised, LoadOk, sequences, RecordOk, WritingOk, FlusherInvariant, WorldInvariant, RecordWaits}
use Rattle.foyer_core_model.proofs.GoodAddresses.{good_writes, slot_lift}
use Rattle.foyer_format_layout.proofs.EachLaws.{each_front}
use Rattle.foyer_core_model.proofs.CommitSteps.{committed, noted, committed_is, noted_is, onto_append, line_ascends, same_address, Brings}
use Rattle.foyer_core_model.proofs.LoadSteps.{mark_enters}
use Rattle.foyer_core_model.proofs.Received.{piece_enters}
use Rattle.foyer_core_model.proofs.FlushEnds.{last_stands, all_good}
use Rattle.foyer_core_model.proofs.FlushBlocks.{issued}
use Rattle.foyer_core_model.proofs.Rereads.{AllHere, ReclaimOk, still_of, IsAgain}
use Rattle.foyer_core_model.proofs.Sets.{AreSets, clean_is}
use Rattle.foyer_core_model.proofs.RereadFlushes.{brings_of}
use Rattle.foyer_core_model.proofs.SoundKept.{reclaims_at, IsKnown}
use Rattle.foyer_core_model.proofs.OpenedSound.{FoundOk, found_ok}
use Rattle.foyer_core_model.proofs.Found.{kept_one, all_kept, kept_is, Found, IsKept, kept_deleted, kept_marked, kept_put, kept_unmarked, kept_forgotten, kept_reclaimed, kept_placed, commits_found, commits_found_other}

abbrev pub Stays : {C : Type 0} → State C → List (Event C) → (ℕ → Option ℕ) → Type 0
Stays c H kept = IsKept c.index H kept c.filling c.place

abbrev pub Kept : {C : Type 0} → World C → Type 0
Kept w = Stays w.core w.history w.kept

module _ {C : Type 0} (rules : Rules C) (Splits : Splitting C) (is_value : C → Type 0) (demands : Demands rules Splits is_value) where
  -- the state is the one issued
  issued_state : (H : List (Event C)) (kept : ℕ → Option ℕ) (new expr : State C) → new ≡ expr → Stays expr H kept → Stays new H kept
  issued_state H kept new expr is ok = subst (λ c. Stays c H kept) (sym is) ok

  destroying_kept : (w : World C) (reply : Reply C) (new : State C) → BeginsDestroy rules w.core reply new → Kept w → Kept (after rules w (Applies DestroyBegin reply new))
  destroying_kept w (Destroying s) new ok kept = issued_state w.history w.kept new _ ok.3 kept
  destroying_kept w reply new ok kept = absurd ok

  log_kept : (w : World C) (f : ℕ) (well : Bool) (batch : Option (Batch C)) (reply : Reply C) (new : State C) → Logs rules w.core f well batch reply new → Kept w → Kept (after rules w (Applies (LogWrote f well) reply new))
  log_kept w f well (Some batch) Done new ok kept = issued_state w.history w.kept new _ ok kept
  log_kept w f well batch reply new ok kept = absurd ok

  plain_read : (w : World C) (b : ℕ) (came : ReadResult) (reply : Reply C) (new : State C) → Stays new w.history w.kept → Kept (after rules w (Applies (ReclaimRead b came) reply new))
  plain_read w b came (Deleted s) new ok = ok
  plain_read w b came (Received None) new ok = ok
  plain_read w b came (Received (Some d)) new ok = ok
  plain_read w b came reply new ok = ok

  plain_clean : (w : World C) (b : ℕ) (well : Option Kind) (reply : Reply C) (new : State C) → Stays new w.history w.kept → Kept (after rules w (Applies (DestroyCleaned b well) reply new))
  plain_clean w b well (Deleted s) new ok = ok
  plain_clean w b well (Received None) new ok = ok
  plain_clean w b well (Received (Some d)) new ok = ok
  plain_clean w b well reply new ok = ok

  destroyed_kept : (w : World C) (b : ℕ) (well : Option Kind) (d : Destroy) (reply : Reply C) (new : State C) → CleansOne rules w.core b well d reply new → Kept w → Kept (after rules w (Applies (DestroyCleaned b well) reply new))
  destroyed_kept w b well (Cleaning left bad) reply new ok kept = plain_clean w b well reply new (issued_state w.history w.kept new _ ok.1 kept)
  destroyed_kept w b well NoDestroy reply new ok kept = absurd ok
  destroyed_kept w b well Begun reply new ok kept = absurd ok

  lists_kept : (w : World C) (b : ℕ) (came : ReadResult) (r : Reclaim) (place : ℕ) (es : Option (List IndexEntry)) (reply : Reply C) (new : State C) → Lists rules w.core b r place es reply new → Kept w → Kept (after rules w (Applies (ReclaimRead b came) reply new))
  lists_kept w b came r place None reply new ok kept = plain_read w b came reply new (issued_state w.history w.kept new _ ok.1 kept)
  lists_kept w b came r place (Some es) reply new (vs, count, issued, eq) kept = plain_read w b came reply new (issued_state w.history w.kept new _ eq kept)

  scan_kept : (w : World C) (b : ℕ) (r : Reclaim) (stage : Stage) (came : ReadResult) (reply : Reply C) (new : State C) → Rattle.foyer_core_model.specs.Reclaim.Scanned rules w.core b r stage came reply new → Kept w → Kept (after rules w (Applies (ReclaimRead b came) reply new))
  scan_kept w b r (AtIndex place) Fault reply new ok kept = plain_read w b Fault reply new (issued_state w.history w.kept new _ ok.1 kept)
  scan_kept w b r (AtRecord h a rest place) Fault reply new ok kept = plain_read w b Fault reply new (issued_state w.history w.kept new _ ok.1 kept)
  scan_kept w b r (AtIndex place) (Bytes bs) reply new ok kept = lists_kept w b (Bytes bs) r place (rules.entries_of place bs) reply new ok kept
  scan_kept w b r (AtRecord h a rest place) (Bytes bs) reply new ok kept = plain_read w b (Bytes bs) reply new (issued_state w.history w.kept new _ ok.1 kept)
  scan_kept w b r stage came reply new ok kept = absurd ok

  reread_kept : (w : World C) (b : ℕ) (r : Option Reclaim) (came : ReadResult) (reply : Reply C) (new : State C) → Rereads rules w.core b r came reply new → Kept w → Kept (after rules w (Applies (ReclaimRead b came) reply new))
  reread_kept w b None came reply new ok kept = absurd ok
  reread_kept w b (Some r) came reply new ok kept = scan_kept w b r r.stage came reply new ok kept

  delete_kept : (w : World C) (h : ℕ) (reply : Reply C) (new : State C) → Deletes rules w.core h reply new → WorldInvariant rules w → Kept w → Kept (after rules w (Applies (Delete h) reply new))
  delete_kept w h (Deleted s) new ok sound kept =
      issued_state (Deletion h s ∷ w.history) w.kept new _ (ok.3 ∙ entered)
      (kept_deleted rules w.core.index w.history w.kept w.core.filling w.core.place h s
      (let below : sequence_in (newest h w.history) < w.core.next = sound.next h in let e : s ≡ w.core.next = ok.0 in omega arith) kept)
    where
      entered : record (queued rules w.core (flusher_of rules h) (Remove h s (invalidated_by rules s (w.core.index h)))) { next = s + 1; index = put w.core.index h (inserted (w.core.index h) (Mark s)) }
          ≡ record (queued rules w.core (flusher_of rules h) (Remove h s (invalidated_by rules s (w.core.index h)))) { next = s + 1; index = put w.core.index h (Some (Mark s)) }
      entered = λ i. record (queued rules w.core (flusher_of rules h) (Remove h s (invalidated_by rules s (w.core.index h)))) { next = s + 1; index = put w.core.index h (mark_enters rules w h s sound ok.0 i) }
  delete_kept w h reply new ok sound kept = absurd ok

  enqueue_kept : (w : World C) (h n : ℕ) (age : Age) (c : C) (reply : Reply C) (new : State C) → Enqueues rules w.core h n age c reply new → WorldInvariant rules w → Kept w → Kept (after rules w (Applies (Enqueue h n age c) reply new))
  enqueue_kept w h n age c (Dropped d s) new ok sound kept = delete_kept w h (Deleted s) new ok.3 sound kept
  enqueue_kept w h n age c (Ignored d) new ok sound kept = issued_state w.history w.kept new w.core ok.3 kept
  enqueue_kept w h n age c (Queued s) new ok sound kept = issued_state w.history w.kept new _ ok.4 kept
  enqueue_kept w h n age c reply new ok sound kept = absurd ok

  wait_kept : (w : World C) (f i : ℕ) (reply : Reply C) (new : State C) → Waits rules w.core f i reply new → Kept w → Kept (after rules w (Applies (Wait f i) reply new))
  wait_kept w f i Done new ok kept = issued_state w.history w.kept new _ ok kept
  wait_kept w f i reply new ok kept = absurd ok

  look_kept : (w : World C) (h : ℕ) (throttled : Bool) (slot : Option Slot) (reply : Reply C) (new : State C) → w.core.index h ≡ slot → Looks rules w.core h throttled slot reply new → Kept w
      → Kept (after rules w (Applies (LoadBegin h throttled) reply new))
  look_kept w h throttled (Some (Indexed a)) Throttled new is ok kept = issued_state w.history w.kept new w.core ok.1 kept
  look_kept w h throttled (Some (Indexed a)) Miss new is ok kept =
      issued_state w.history w.kept new _ ok.2
      (kept_put rules w.core.index w.history w.kept w.core.filling w.core.place h None
      (λ b s x at newer some.
      let r : (d : Address) × (w.core.index h ≡ Some (Indexed d)) × (d.block ≡ b) × (d.filling ≡ w.core.filling b) = kept.found h b s x at newer some in
      let same : a ≡ r.0 = (let e : Some (Indexed a) ≡ Some (Indexed r.0) = sym is ∙ r.1 in cc) in
      absurd (ok.1 (subst (λ k. k.filling ≡ w.core.filling k.block) (sym same) (r.3 ∙ ap w.core.filling (sym r.2))))) kept)
  look_kept w h throttled (Some (Indexed a)) (Read t) new is ok kept = issued_state w.history w.kept new _ ok.3 kept
  look_kept w h throttled None Miss new is ok kept = issued_state w.history w.kept new w.core ok kept
  look_kept w h throttled (Some (Mark s)) Miss new is ok kept = issued_state w.history w.kept new w.core ok kept
  look_kept w h throttled slot reply new is ok kept = absurd ok

  -- bytes that are no record are not those of a record that is kept
  no_record : (w : World C) (t : Ticket) (bs : List ℕ) (l : Load C) (s : ℕ) (x : Outcome C) → WorldInvariant rules w → IsPromised rules (ground_of w) w.block_writes l
      → l.ticket ≡ t → l.read_state ≡ ReadDone (Bytes bs)
      → w.core.index t.hash ≡ Some (Indexed t.address) → t.address.filling ≡ w.core.filling t.address.block
      → newest t.hash w.history ≡ Some (Put t.hash s x) → judged rules w.core t bs ≡ NoRecord → x ≡ NoRecord
  no_record w t bs l s x sound ok ticket read_state is fill newer none =
      let old : SlotOk rules (ground_of w) w.block_writes w.history t.hash (line_of (w.core.flushers (flusher_of rules t.hash))) (Some (Indexed t.address)) =
      subst (λ v. SlotOk rules (ground_of w) w.block_writes w.history t.hash (line_of (w.core.flushers (flusher_of rules t.hash))) v) is (sound.slots t.hash (flusher_of rules t.hash) refl) in
      let mine : x ≡ old.0 = (let e : Some (Put t.hash s x) ≡ Some (Put t.hash t.address.sequence old.0) = sym newer ∙ old.1 in cc) in
      let bytes : take l.ticket.address.len bs ≡ read (w.bytes l.ticket.address.block) l.ticket.address.offset l.ticket.address.len =
      subst (λ p. ReadStateHolds rules (ground_of w) l.ticket.address p) read_state (ok.read_state (subst (λ u. u.address.filling ≡ w.core.filling u.address.block) (sym ticket) fill)) in
      let there : take t.address.len bs ≡ read (w.bytes t.address.block) t.address.offset t.address.len =
      subst (λ u. take u.address.len bs ≡ read (w.bytes u.address.block) u.address.offset u.address.len) ticket bytes in
      mine ∙ sym (((old.2).solid fill).outcome) ∙ ap (λ b. rules.pair_of b t.hash t.address.sequence) (sym there) ∙ go (t.address.filling == w.core.filling t.address.block) refl none
    where
      go : (p : Bool) → (t.address.filling == w.core.filling t.address.block) ≡ p
          → (if p then rules.pair_of (take t.address.len bs) t.hash t.address.sequence else NoRecord) ≡ NoRecord → rules.pair_of (take t.address.len bs) t.hash t.address.sequence ≡ NoRecord
      go true e given = given
      go false e given = absurd (eqb-false t.address.filling (w.core.filling t.address.block) e fill)

  judge_kept : (w : World C) (t : Ticket) (bs : List ℕ) (outcome : Outcome C) (reply : Reply C) (new : State C) → judged rules w.core t bs ≡ outcome → IsFed rules Splits is_value w (LoadEnd t (Bytes bs))
      → Judges rules w.core t outcome reply new → WorldInvariant rules w → Kept w → Kept (after rules w (Applies (LoadEnd t (Bytes bs)) reply new))
  judge_kept w t bs NoRecord Miss new is (n, l, at, ticket, read_state) ok sound kept =
      issued_state w.history w.kept new _ ok
      (kept_put rules w.core.index w.history w.kept w.core.filling w.core.place t.hash (without t.address (w.core.index t.hash))
      (λ b s x at_b newer some.
      let r : (d : Address) × (w.core.index t.hash ≡ Some (Indexed d)) × (d.block ≡ b) × (d.filling ≡ w.core.filling b) = kept.found t.hash b s x at_b newer some in
      (r.0, ap (without t.address) r.1 ∙ go r.0 b s x r.1 (r.3 ∙ ap w.core.filling (sym r.2)) newer some (is_same t.address r.0) refl, r.2, r.3)) kept)
    where
      promised : IsPromised rules (ground_of w) w.block_writes l
      promised = subst (λ o. LoadOk rules (ground_of w) w.block_writes o) at (sound.loads n)

      go : (d : Address) (b s : ℕ) (x : Outcome C) → w.core.index t.hash ≡ Some (Indexed d) → d.filling ≡ w.core.filling d.block → newest t.hash w.history ≡ Some (Put t.hash s x) → (x ≡ NoRecord → ⊥)
          → (p : Bool) → is_same t.address d ≡ p → (if p then None else Some (Indexed d)) ≡ Some (Indexed d)
      go d b s x held fill newer some true e =
          let same : t.address ≡ d = same_address t.address d e in
          absurd (some (no_record w t bs l s x sound promised ticket read_state (held ∙ ap (λ k. Some (Indexed k)) (sym same)) (subst (λ k. k.filling ≡ w.core.filling k.block) (sym same) fill) newer is))
      go d b s x held fill newer some false e = refl
  judge_kept w t bs (Holds c) (Entry d age) new is fed ok sound kept = issued_state w.history w.kept new w.core ok.2 kept
  judge_kept w t bs outcome reply new is fed ok sound kept = absurd ok

  end_kept : (w : World C) (t : Ticket) (came : ReadResult) (reply : Reply C) (new : State C) → IsFed rules Splits is_value w (LoadEnd t came) → Ends rules w.core t came reply new → WorldInvariant rules w → Kept w
      → Kept (after rules w (Applies (LoadEnd t came) reply new))
  end_kept w t Fault reply new fed ok sound kept = absurd ok
  end_kept w t (Bytes bs) reply new fed ok sound kept = judge_kept w t bs (judged rules w.core t bs) reply new refl fed ok sound kept

  take_kept : (w : World C) (f : ℕ) (queue : List (Submission C)) (reply : Reply C) (new : State C) → (w.core.flushers f).queue ≡ queue → TakesFront rules w.core f queue reply new → WorldInvariant rules w → Kept w → Kept (after rules w (Applies (Receive f) reply new))
  take_kept w f [] Empty new is ok sound kept = issued_state w.history w.kept new w.core ok kept
  take_kept w f (Piece h s n c ∷ rest) (Received None) new is ok sound kept = issued_state w.history w.kept new _ ok.3 kept
  take_kept w f (Piece h s n c ∷ rest) (Received (Some d)) new is ok sound kept =
      subst (λ H. Stays new H w.kept) (sym (ap (λ q. with_returned q w.history) is))
      (issued_state (Deletion h s ∷ w.history) w.kept new _ ok.2
      (kept_marked rules w.core.index (put w.core.index h (inserted (w.core.index h) (Mark s))) w.history (Deletion h s ∷ w.history) w.kept w.core.filling w.core.place (piece_enters rules w f h s n c rest sound is) kept))
  take_kept w f (Remove h s invalidated ∷ rest) (Received None) new is ok sound kept = issued_state w.history w.kept new _ ok kept
  take_kept w f (Await i ∷ rest) (Received None) new is ok sound kept = issued_state w.history w.kept new _ ok kept
  take_kept w f (Reinsert h bytes a ∷ rest) (Received None) new is ok sound kept =
      elim ok [ inl (held, fits, eq) ↦ issued_state w.history w.kept new _ eq kept | inr (dropped, eq) ↦ issued_state w.history w.kept new _ eq kept ]
  take_kept w f queue reply new is ok sound kept = absurd ok

  begin_kept : (w : World C) (f : ℕ) (reply : Reply C) (new : State C) → Begins rules Splits w.core f reply new → Kept w → Kept (after rules w (Applies (FlushBegin f) reply new))
  begin_kept w f (Began n marks) new ok kept = issued_state w.history w.kept new _ ok.2 kept
  begin_kept w f reply new ok kept = absurd ok

  finish_kept : (w : World C) (f : ℕ) (batch : Option (Batch C)) (reply : Reply C) (new : State C) → Finishes rules w.core f batch reply new → Kept w → Kept (after rules w (Applies (FlushEnd f) reply new))
  finish_kept w f (Some batch) (Ended pieces waits) new ok kept =
      issued_state w.history w.kept new _ ok.2 (kept_unmarked rules batch.marks w.core.index w.history w.kept w.core.filling w.core.place kept)
  finish_kept w f batch reply new ok kept = absurd ok

  -- a block that its flusher leaves
  left : (own : Option ℕ) (place : ℕ → BlockSet) (c : ℕ) → (place c ≡ Clean → ⊥) → (place c ≡ Reclaims → ⊥) → (released own place c ≡ Clean → ⊥) × (released own place c ≡ Reclaims → ⊥)
  left None place c p q = (p, q)
  left (Some b) place c p q = put_at (λ k. (k ≡ Clean → ⊥) × (k ≡ Reclaims → ⊥)) place b Evictable c (λ _. (λ e. cc, λ e. cc)) (λ _. (p, q))

  issue_kept : (w : World C) (f : ℕ) (batch : Option (Batch C)) (reply : Reply C) (new : State C) → ((b : ℕ) → clean_block rules w.core ≡ Some b → w.core.place b ≡ Clean) → Describes rules w.core f batch reply new → Kept w → Kept (after rules w (Applies (FlushBlock f) reply new))
  issue_kept w f (Some batch) NoBlock new is_clean ok kept =
      issued_state w.history w.kept new _ ok.3
      (kept_placed rules w.core.index w.history w.kept w.core.filling w.core.place (released (w.core.flushers f).own w.core.place)
      (λ h c _ p q. left (w.core.flushers f).own w.core.place c p q) kept)
  issue_kept w f (Some batch) (Written b writes) new is_clean (s, rest, blocks, all, which) kept =
      elim which [
        | inl (continues_own_block, own, eq) ↦ issued_state w.history w.kept new _ eq kept
        | inr (inl (fresh, ready, eq)) ↦ issued_state w.history w.kept new _ eq kept
        | inr (inr (fresh, _, free, eq)) ↦ issued_state w.history w.kept new _ eq
            (record {
              found = λ h c t x is newer some.
                  let r : (a : Address) × (w.core.index h ≡ Some (Indexed a)) × (a.block ≡ c) × (a.filling ≡ w.core.filling c) = kept.found h c t x is newer some in (
                    r.0,
                    r.1,
                    r.2,
                    put_at (λ n. (r.0).filling ≡ n) w.core.filling b (w.core.filling b + 1) c
                        (λ at. absurd ((kept.safe h c is).0 (ap w.core.place at ∙ is_clean b free))) (λ _. r.3),
                  );
              safe = λ h c is. put_at (λ k. (k ≡ Clean → ⊥) × (k ≡ Reclaims → ⊥)) (released (w.core.flushers f).own w.core.place) b (Writes f) c
                  (λ _. (λ e. cc, λ e. cc))
                  (λ _. left (w.core.flushers f).own w.core.place c (kept.safe h c is).0 (kept.safe h c is).1);
            })
      ]
  issue_kept w f batch reply new is_clean ok kept = absurd ok

  wrote_found : (w : World C) (f : ℕ) (batch : Batch C) (r : Writing C) (last : Write)
      → WorldInvariant rules w → IsAgain rules w → Kept w → (w.core.flushers f).batch ≡ Some batch → batch.writing ≡ Some r → r.left ≡ last ∷ [] → result_of (w.block_writes f) ≡ Some true
      → (h : ℕ) → Found (noted r.block (w.core.filling r.block) r.records w.core.index w.history) w.core.filling h (all_kept r.block (w.core.filling r.block) r.records w.core.index w.kept h) (committed r.block (w.core.filling r.block) r.records w.core.index h)
  wrote_found w f batch r last sound again kept is writing left over h = go (flusher_of rules h == f) refl
    where
      φ : Flusher C
      φ = w.core.flushers f

      φ0 : Flusher C
      φ0 = record φ { batch = Some (record batch { writing = Some r }) }

      ψ : Flusher C
      ψ = record φ { batch = Some (record batch { writing = None }) }

      whole : (w.core.flushers f).batch ≡ Some (record batch { writing = Some r })
      whole = is ∙ (λ j. Some (record batch { writing = writing j }))

      is0 : w.core.flushers f ≡ record (w.core.flushers f) { batch = Some (record batch { writing = Some r }) }
      is0 = λ i. record (w.core.flushers f) { batch = whole i }

      t : FlusherInvariant rules (ground_of w) w.core.place w.core.next f (record (w.core.flushers f) { batch = Some (record batch { writing = Some r }) }) (w.block_writes f)
      t = subst (λ k. FlusherInvariant rules (ground_of w) w.core.place w.core.next f k (w.block_writes f)) is0 (sound.flushers f)

      line_is : line_of φ0 ≡ puts_onto (map (λ p. p.1) r.records) (line_of ψ)
      line_is = onto_append (map (λ p. p.1) r.records) (records_of batch.blocks) (puts_onto φ.buffer (queue_puts φ.queue))

      routed : Each (RecordOk rules f) (map (λ p. p.1) r.records)
      routed = each_front (RecordOk rules f) (map (λ p. p.1) r.records) (records_of batch.blocks) t.batch

      good : Each (λ p. IsGood rules (ground_of w) (put w.block_writes f Idle) (p.1).hash (address_of r.block (w.core.filling r.block) p) (rules.pair_of (p.1).bytes (p.1).hash (p.1).sequence)) r.records
      good = all_good rules w f r.block r.records sound (t.writing).0 (last_stands rules w.bytes r last (w.block_writes f) over left (t.writing).1) (t.writing).2 (t.writing).3

      brings : Each (Brings rules (ground_of w) (put w.block_writes f Idle) r.block (w.core.filling r.block) w.core.index w.history) (map (λ p. p.1) r.records)
      brings = brings_of rules w f r.block (map (λ p. p.1) r.records) ((sound.flushers f).owned r.block (t.writing).0)
          (each_front (RecordWaits rules w.core.index w.history w.core.place w.core.filling) (map (λ p. p.1) r.records) (records_of batch.blocks)
          (subst (λ k. Each (RecordWaits rules w.core.index w.history w.core.place w.core.filling) (batch_records k)) whole (again.waits f).batch))

      slot : flusher_of rules h ≡ f → SlotOk rules (ground_of w) (put w.block_writes f Idle) w.history h (line_of (w.core.flushers f)) (w.core.index h)
      slot at = slot_lift rules (ground_of w) (ground_of w) w.block_writes (put w.block_writes f Idle) w.history h (line_of (w.core.flushers f)) (line_of (w.core.flushers f)) (w.core.index h)
          (λ a x. good_writes rules (ground_of w) w.block_writes h a x f Idle (λ _. tt)) (λ n _ line. line) (sound.slots h f at)

      go : (p : Bool) → (flusher_of rules h == f) ≡ p
          → Found (noted r.block (w.core.filling r.block) r.records w.core.index w.history) w.core.filling h (all_kept r.block (w.core.filling r.block) r.records w.core.index w.kept h) (committed r.block (w.core.filling r.block) r.records w.core.index h)
      go true e =
          commits_found rules (ground_of w) (put w.block_writes f Idle) f r.block r.records w.core.index w.history w.kept h 0 w.core.next (line_of ψ) routed brings good
          (subst (λ l. Ascends 0 (sequences l) w.core.next) line_is (line_ascends w.core.next φ0 t.order))
          (subst (λ l. SlotOk rules (ground_of w) (put w.block_writes f Idle) w.history h l (w.core.index h)) line_is
          (subst (λ k. SlotOk rules (ground_of w) (put w.block_writes f Idle) w.history h (line_of k) (w.core.index h)) is0 (slot (eqb-true (flusher_of rules h) f e))))
          (kept.found h)
      go false e = commits_found_other rules (ground_of w) w.block_writes f r.block r.records w.core.index w.history w.kept h routed (eqb-false (flusher_of rules h) f e) (kept.found h)

  one_kept_safe : (place : ℕ → BlockSet) (b : ℕ) (r : Record C) (src : Source C) (slot : Option Slot) (kept : ℕ → Option ℕ) → ((place b ≡ Clean → ⊥) × (place b ≡ Reclaims → ⊥))
      → ((h c : ℕ) → kept h ≡ Some c → (place c ≡ Clean → ⊥) × (place c ≡ Reclaims → ⊥))
      → (h c : ℕ) → kept_one b r src slot kept h ≡ Some c → (place c ≡ Clean → ⊥) × (place c ≡ Reclaims → ⊥)
  one_kept_safe place b r src slot kept here safe = which src
    where
      added : (k d : ℕ) → put kept r.hash (Some b) k ≡ Some d → (place d ≡ Clean → ⊥) × (place d ≡ Reclaims → ⊥)
      added k d = put_at (λ o. o ≡ Some d → (place d ≡ Clean → ⊥) × (place d ≡ Reclaims → ⊥)) kept r.hash (Some b) k
          (λ _ e. subst (λ q. (place q ≡ Clean → ⊥) × (place q ≡ Reclaims → ⊥)) (let f : Some b ≡ Some d = e in cc) here) (λ _. safe k d)

      either : (t : Bool) (h c : ℕ) → (if t then put kept r.hash (Some b) else kept) h ≡ Some c → (place c ≡ Clean → ⊥) × (place c ≡ Reclaims → ⊥)
      either true = added
      either false = safe

      which : (src : Source C) (h c : ℕ) → kept_one b r src slot kept h ≡ Some c → (place c ≡ Clean → ⊥) × (place c ≡ Reclaims → ⊥)
      which (Given d) = added
      which (Reread over) = either (holds over slot)

  all_kept_safe : (place : ℕ → BlockSet) (b n : ℕ) (ps : List (ℕ × Record C)) (m : ℕ → Option Slot) (kept : ℕ → Option ℕ) → ((place b ≡ Clean → ⊥) × (place b ≡ Reclaims → ⊥))
      → ((h c : ℕ) → kept h ≡ Some c → (place c ≡ Clean → ⊥) × (place c ≡ Reclaims → ⊥))
      → (h c : ℕ) → all_kept b n ps m kept h ≡ Some c → (place c ≡ Clean → ⊥) × (place c ≡ Reclaims → ⊥)
  all_kept_safe place b n [] m kept here safe = safe
  all_kept_safe place b n (p ∷ ps) m kept here safe =
      all_kept_safe place b n ps (committed_one b n p m) (kept_one b p.1 (p.1).source (m (p.1).hash) kept) here (one_kept_safe place b p.1 (p.1).source (m (p.1).hash) kept here safe)

  wrote_kept : (w : World C) (f : ℕ) (good : Bool) (batch : Option (Batch C)) (reply : Reply C) (new : State C) → (w.core.flushers f).batch ≡ batch
      → (result_of (w.block_writes f) ≡ Some good) → Wrote rules w.core f good batch reply new → WorldInvariant rules w → IsAgain rules w → Kept w
      → Kept (after rules w (Applies (FlushWrote f good) reply new))
  wrote_kept w f true (Some batch) Next new is fed (r, first, second, rest, writing, left, eq) sound again kept = issued_state w.history w.kept new _ eq kept
  wrote_kept w f true (Some batch) (Committed n) new is fed (r, last, writing, left, count, eq) sound again kept =
      let whole : (w.core.flushers f).batch ≡ Some (record batch { writing = Some r }) = is ∙ (λ i. Some (record batch { writing = writing i })) in
      subst (λ o. Stays new (with_puts (puts_of w.core o) w.history) (kept_of w.core o w.kept)) (sym whole)
      (subst (λ H. Stays new H (with_kept r.block (commit_in w.core r).puts w.kept)) (sym (noted_is r.block (w.core.filling r.block) r.records w.core.index w.history))
      (subst (λ k. Stays new (noted r.block (w.core.filling r.block) r.records w.core.index w.history) k) (sym (kept_is r.block (w.core.filling r.block) r.records w.core.index w.kept))
      (issued_state (noted r.block (w.core.filling r.block) r.records w.core.index w.history) (all_kept r.block (w.core.filling r.block) r.records w.core.index w.kept) new _
      (eq ∙ (λ i. record (turned rules w.core f (record (w.core.flushers f) { batch = Some (record batch { writing = None }) })) { index = committed_is r.block (w.core.filling r.block) r.records w.core.index i }))
      (record {
        found = wrote_found w f batch r last sound again kept is writing left fed;
        safe = all_kept_safe w.core.place r.block (w.core.filling r.block) r.records w.core.index w.kept
            (let own : (w.core.flushers f).own ≡ Some r.block = own_is (subst (λ k. writing_in k ≡ Some r) (sym whole) refl) in
            let mine : w.core.place r.block ≡ Writes f = (sound.flushers f).owned r.block own in
            (λ e. cc, λ e. cc))
            kept.safe;
      }))))
    where
      own_is : writing_in (w.core.flushers f).batch ≡ Some r → (w.core.flushers f).own ≡ Some r.block
      own_is e = (subst (λ o. WritingOk rules (ground_of w) (w.core.flushers f).own o (w.block_writes f)) e (sound.flushers f).writing).0
  wrote_kept w f good (Some batch) Failed new is fed (r, first, rest, writing, at, grown, eq) sound again kept =
      issued_state w.history w.kept new _ eq
      (kept_placed rules w.core.index w.history w.kept w.core.filling w.core.place (released (w.core.flushers f).own w.core.place)
      (λ h c _ p q. left (w.core.flushers f).own w.core.place c p q) kept)
  wrote_kept w f good batch reply new is fed ok sound again kept = absurd ok

  pick_kept : (w : World C) (reply : Reply C) (new : State C) → Picks rules w.core reply new → Kept w → Kept (after rules w (Applies ReclaimBegin reply new))
  pick_kept w (Picked b answers probation) new ok kept = issued_state w.history _ new _ ok.4 (kept_reclaimed rules b w.core.index w.history w.kept w.core.filling w.core.place kept)
  pick_kept w reply new ok kept = absurd ok

  few_here : (b n : ℕ) (requeued listed : List (ℕ × Address)) → AllHere b n listed → AllHere b n (not_among requeued listed)
  few_here b n requeued [] ok = tt
  few_here b n requeued (p ∷ ps) ok = go (is_listed p requeued) (few_here b n requeued ps ok.1)
    where
      go : (t : Bool) → AllHere b n (not_among requeued ps) → AllHere b n (if t then not_among requeued ps else p ∷ not_among requeued ps)
      go true rest = rest
      go false rest = (ok.0, rest)

  forget_kept : (w : World C) (b : ℕ) (r : Option Reclaim) (reply : Reply C) (new : State C) → w.core.reclaims b ≡ r → Forgets rules w.core b r reply new → IsAgain rules w → Kept w → Kept (after rules w (Applies (ReclaimForget b) reply new))
  forget_kept w b (Some r) (Cleans d) new is ok again kept =
      let was : ReclaimOk rules w.core.index (still_of rules w) w.core.place b (Some r) (w.scans b) = subst (λ q. ReclaimOk rules w.core.index (still_of rules w) w.core.place b q (w.scans b)) is (again.stages b) in
      issued_state w.history w.kept new _ ok.1 (kept_forgotten rules b (not_among r.requeued r.listed) w.core.index w.history w.kept w.core.filling w.core.place (w.core.filling b) (few_here b (w.core.filling b) r.requeued r.listed was.1) was.0 kept)
  forget_kept w b r reply new is ok again kept = absurd ok

  clean_kept : (w : World C) (b : ℕ) (well : Bool) (reply : Reply C) (new : State C) → w.core.place b ≡ Reclaims → Cleaned rules w.core b reply new → Kept w → Kept (after rules w (Applies (ReclaimCleaned b well) reply new))
  clean_kept w b well Done new at_b ok kept =
      elim ok [
        | inl (f, others, waits, room, eq) ↦ issued_state w.history w.kept new _ eq
            (record {
              found = λ h c t x is newer some.
                  let q : (a : Address) × (w.core.index h ≡ Some (Indexed a)) × (a.block ≡ c) × (a.filling ≡ w.core.filling c) = kept.found h c t x is newer some in
                  (q.0, q.1, q.2, put_at (λ n. (q.0).filling ≡ n) w.core.filling b (w.core.filling b + 1) c (λ at. absurd ((kept.safe h c is).1 (ap w.core.place at ∙ at_b))) (λ _. q.3));
              safe = λ h c is. put_at (λ k. (k ≡ Clean → ⊥) × (k ≡ Reclaims → ⊥)) w.core.place b (Writes f) c (λ _. (λ e. cc, λ e. cc)) (λ _. kept.safe h c is);
            })
        | inr (nobody, eq) ↦ issued_state w.history w.kept new _ eq
            (kept_placed rules w.core.index w.history w.kept w.core.filling w.core.place (put w.core.place b Clean)
            (λ h c _ p q. put_at (λ k. (k ≡ Clean → ⊥) × (k ≡ Reclaims → ⊥)) w.core.place b Clean c (λ at. absurd (q (ap w.core.place at ∙ at_b))) (λ _. (p, q))) kept)
      ]
  clean_kept w b well reply new at_b ok kept = absurd ok

  clear_kept : (w : World C) (reply : Reply C) (new : State C) → Clears rules w.core reply new → Kept w → Kept (after rules w (Applies DestroyClear reply new))
  clear_kept w (Cleared bs) new ok kept =
      issued_state (Destruction ∷ w.history) _ new _ ok.1
      (record { found = λ h b s x is newer some. absurd (let e : None ≡ Some b = is in cc); safe = λ h b is. absurd (let e : None ≡ Some b = is in cc) })
  clear_kept w reply new ok kept = absurd ok

  does_kept : (w : World C) (step : Step C) (reply : Reply C) (new : State C) → IsFed rules Splits is_value w step → InTurn rules w.core step → Changes rules Splits w.core step reply new → AreSets rules w.core → WorldInvariant rules w → IsAgain rules w → Kept w
      → Kept (after rules w (Applies step reply new))
  does_kept w (Enqueue h n age c) reply new fed turn ok sets sound again kept = enqueue_kept w h n age c reply new ok sound kept
  does_kept w (Delete h) reply new fed turn ok sets sound again kept = delete_kept w h reply new ok sound kept
  does_kept w (Wait f i) reply new fed turn ok sets sound again kept = wait_kept w f i reply new ok kept
  does_kept w (MayContains h) reply new fed turn ok sets sound again kept = subst (λ r. Kept (after rules w (Applies (MayContains h) r new))) (sym ok.0) (issued_state w.history w.kept new w.core ok.1 kept)
  does_kept w (LoadBegin h throttled) reply new fed turn ok sets sound again kept = look_kept w h throttled (w.core.index h) reply new refl ok kept
  does_kept w (LoadEnd t came) reply new fed turn ok sets sound again kept = end_kept w t came reply new fed ok sound kept
  does_kept w (Receive f) reply new fed turn ok sets sound again kept = take_kept w f (w.core.flushers f).queue reply new refl ok sound kept
  does_kept w (FlushBegin f) reply new fed turn ok sets sound again kept = begin_kept w f reply new ok kept
  does_kept w (FlushBlock f) reply new fed turn ok sets sound again kept = issue_kept w f (w.core.flushers f).batch reply new (clean_is rules w.core sets) ok kept
  does_kept w (FlushWrote f good) reply new fed turn ok sets sound again kept = wrote_kept w f good (w.core.flushers f).batch reply new refl fed ok sound again kept
  does_kept w (LogWrote f well) reply new fed turn ok sets sound again kept = log_kept w f well (w.core.flushers f).batch reply new ok kept
  does_kept w (FlushEnd f) reply new fed turn ok sets sound again kept = finish_kept w f (w.core.flushers f).batch reply new ok kept
  does_kept w ReclaimBegin reply new fed turn ok sets sound again kept = pick_kept w reply new ok kept
  does_kept w (ReclaimRead b came) reply new fed turn ok sets sound again kept = reread_kept w b (w.core.reclaims b) came reply new ok kept
  does_kept w (ReclaimForget b) reply new fed turn ok sets sound again kept = forget_kept w b (w.core.reclaims b) reply new refl ok again kept
  does_kept w (ReclaimCleaned b well) reply new fed turn ok sets sound again kept = clean_kept w b well reply new (reclaims_at rules Splits is_value demands w b again turn.1) ok kept
  does_kept w ReclaimIdle reply new fed turn ok sets sound again kept = subst (λ r. Kept (after rules w (Applies ReclaimIdle r new))) (sym ok.0) (issued_state w.history w.kept new w.core ok.1 kept)
  does_kept w DestroyBegin reply new fed turn ok sets sound again kept = destroying_kept w reply new ok kept
  does_kept w DestroyClear reply new fed turn ok sets sound again kept = clear_kept w reply new ok kept
  does_kept w (DestroyCleaned b well) reply new fed turn ok sets sound again kept = destroyed_kept w b well w.core.destroy reply new ok kept
  does_kept w Close reply new fed turn ok sets sound again kept = subst (λ r. Kept (after rules w (Applies Close r new))) (sym ok.0) (issued_state w.history w.kept new _ ok.1 kept)

  step_kept : (w : World C) (step : Step C) (reply : Reply C) (new : State C) → IsFed rules Splits is_value w step → Follows rules Splits w.core step reply new → IsKnown rules Splits is_value demands w → Kept w
      → Kept (after rules w (Applies step reply new))
  step_kept w step (NotNow back) new fed ok known kept = issued_state w.history w.kept new w.core ok.2 kept
  step_kept w step (Refused kind back) new fed ok known kept = issued_state w.history w.kept new w.core ok.2 kept
  step_kept w step reply new fed (few, turn, (state, does, eq)) known kept =
      subst (λ k. Kept (after rules w (Applies step reply k))) (sym eq) (does_kept w step reply state fed turn does known.sets known.sound known.again kept)

  pub event_kept : (w : World C) (e : WorldEvent C) → MayHappen rules Splits is_value w e → IsKnown rules Splits is_value demands w → Kept w → Kept (after rules w e)
  event_kept w (Applies step reply new) ok known kept = step_kept w step reply new ok.0 ok.1 known kept
  event_kept w (ReadBegins n) ok known kept = kept
  event_kept w (ReadEnds n result) ok known kept = kept
  event_kept w (ScanBegins b) ok known kept = kept
  event_kept w (ScanEnds b result) ok known kept = kept
  event_kept w (WriteBegins f) ok known kept = kept
  event_kept w (WriteEnds f good g) ok known kept = kept
  event_kept w (CleanBegins b) ok known kept = kept
  event_kept w (CleanEnds b good g) ok known kept = kept

  -- the block of what was found
  abbrev block_in : Option Slot → Option ℕ
  block_in None = None
  block_in (Some (Mark s)) = None
  block_in (Some (Indexed a)) = Some a.block

  block_is : (h : ℕ) (ps : List (ℕ × Address)) → block_among h ps ≡ block_in (slot_among h ps)
  block_is h [] = refl
  block_is h (p ∷ ps) = go (p.0 == h) (block_is h ps)
    where
      go : (t : Bool) → block_among h ps ≡ block_in (slot_among h ps) → (if t then Some (p.1).block else block_among h ps) ≡ block_in (if t then Some (Indexed p.1) else slot_among h ps)
      go true e = refl
      go false e = e

  kept_block : (w : World C) → IsOpened rules w → (h : ℕ) → w.kept h ≡ block_in (w.core.index h)
  kept_block w first h = first.kept h ∙ block_is h first.found ∙ ap block_in (sym (first.index h))

  opened_found : (w : World C) → IsOpened rules w → (h : ℕ) (slot : Option Slot) → FoundOk rules w h slot → Found w.history w.core.filling h (block_in slot) slot
  opened_found w first h None found b s x is newer some = absurd (let e : None ≡ Some b = is in cc)
  opened_found w first h (Some (Mark m)) found b s x is newer some = absurd found
  opened_found w first h (Some (Indexed a)) it b s x is newer some =
      (a, refl, (let q : Some a.block ≡ Some b = is in cc), it.found.filling ∙ sym (first.filling b))

  opened_safe : (w : World C) → (h : ℕ) (slot : Option Slot) → FoundOk rules w h slot → (b : ℕ) → block_in slot ≡ Some b → (w.core.place b ≡ Clean → ⊥) × (w.core.place b ≡ Reclaims → ⊥)
  opened_safe w h None found b is = absurd (let e : None ≡ Some b = is in cc)
  opened_safe w h (Some (Mark m)) found b is = absurd found
  opened_safe w h (Some (Indexed a)) it b is =
      let e : a.block ≡ b = (let q : Some a.block ≡ Some b = is in cc) in
      let at : w.core.place b ≡ Evictable = ap w.core.place (sym e) ∙ it.found.place in
      (λ k. let q : Evictable ≡ Clean = sym at ∙ k in cc, λ k. let q : Evictable ≡ Reclaims = sym at ∙ k in cc)

  pub new_kept : (w : World C) → IsOpened rules w → Kept w
  new_kept w first = record {
    found = λ h. subst (λ k. Found w.history w.core.filling h k (w.core.index h)) (sym (kept_block w first h)) (opened_found w first h (w.core.index h) (found_ok rules w first h));
    safe = λ h b is. opened_safe w h (w.core.index h) (found_ok rules w first h) b (sym (kept_block w first h) ∙ is);
  }

  pub looked : (w : World C) (h : ℕ) (throttled : Bool) (slot : Option Slot) (reply : Reply C) (new : State C) (b s : ℕ) (x : Outcome C) → WorldInvariant rules w → Kept w
      → w.core.index h ≡ slot → Looks rules w.core h throttled slot reply new
      → w.kept h ≡ Some b → newest h w.history ≡ Some (Put h s x) → (x ≡ NoRecord → ⊥)
      → ((throttled ≡ true) × (reply ≡ Throttled)) ⊎ ((throttled ≡ false) × ((t : Ticket) × (reply ≡ Read t) × (t.hash ≡ h) × (t.address.sequence ≡ s)))
  looked w h throttled (Some (Indexed a)) Throttled new b s x sound kept is ok at newer some = inl (ok.0, refl)
  looked w h throttled (Some (Indexed a)) (Read t) new b s x sound kept is ok at newer some =
      let old : SlotOk rules (ground_of w) w.block_writes w.history h (line_of (w.core.flushers (flusher_of rules h))) (Some (Indexed a)) =
      subst (λ v. SlotOk rules (ground_of w) w.block_writes w.history h (line_of (w.core.flushers (flusher_of rules h))) v) is (sound.slots h (flusher_of rules h) refl) in
      let mine : a.sequence ≡ s = (let e : Some (Put h a.sequence old.0) ≡ Some (Put h s x) = sym old.1 ∙ newer in cc) in
      inr (ok.0, (t, refl, ap (λ u. u.hash) ok.2, ap (λ u. u.address.sequence) ok.2 ∙ mine))
  looked w h throttled (Some (Indexed a)) Miss new b s x sound kept is ok at newer some =
      let r : (d : Address) × (w.core.index h ≡ Some (Indexed d)) × (d.block ≡ b) × (d.filling ≡ w.core.filling b) = kept.found h b s x at newer some in
      let same : a ≡ r.0 = (let e : Some (Indexed a) ≡ Some (Indexed r.0) = sym is ∙ r.1 in cc) in
      absurd (ok.1 (subst (λ k. k.filling ≡ w.core.filling k.block) (sym same) (r.3 ∙ ap w.core.filling (sym r.2))))
  looked w h throttled None Miss new b s x sound kept is ok at newer some =
      let r : (d : Address) × (w.core.index h ≡ Some (Indexed d)) × (d.block ≡ b) × (d.filling ≡ w.core.filling b) = kept.found h b s x at newer some in
      absurd (let e : None ≡ Some (Indexed r.0) = sym is ∙ r.1 in cc)
  looked w h throttled (Some (Mark m)) Miss new b s x sound kept is ok at newer some =
      let r : (d : Address) × (w.core.index h ≡ Some (Indexed d)) × (d.block ≡ b) × (d.filling ≡ w.core.filling b) = kept.found h b s x at newer some in
      absurd (let e : Some (Mark m) ≡ Some (Indexed r.0) = sym is ∙ r.1 in cc)
  looked w h throttled slot reply new b s x sound kept is ok at newer some = absurd ok

-- Each event keeps a world sound, and so loads answer only what they promise.
use Rattle.std.proofs.Common.{◌≡◌, ℕ, ◌+◌, ◌<◌, ◌≤◌, ◌==◌, nat_lt, Bool, true, false, if◌then◌else◌, List, [], ◌∷◌, ◌++◌, length, map, take, Option, Some, None, ◌⊎◌, inl, inr, refl, sym, ap, subst, ◌∙◌, arith}
use Rattle.std.proofs.lemmas.Bool.{eqb-true, eqb-false}
use Rattle.foyer_core_model.specs.Kind.{Kind}
use Rattle.foyer_core_model.specs.Destroy.{first_fault}
use Rattle.foyer_core_model.specs.Numbers.{put, last_number}
use Rattle.foyer_core_model.specs.Ids.{is_id_in, without_id}
use Rattle.foyer_core_model.specs.Record.{Slot, Indexed, Mark, Outcome, NoRecord, Holds, IndexEntry}
use Rattle.foyer_core_model.specs.Position.{Position, BlockLayout, records_of}
use Rattle.foyer_core_model.specs.State.{Invalidated, Submission, Piece, Remove, Await, Reinsert, Batch, Clean, Writes, Evictable, Reclaims, Stage, AtIndex, AtRecord, AllListed, ToClean, Reclaim, Destroy, NoDestroy, Begun, Cleaning, State}
use Rattle.foyer_core_model.specs.Rules.{Rules, flusher_of, first_position, Splitting}
use Rattle.foyer_core_model.specs.Step.{ReadResult, Bytes, Fault, Age, Ticket, Step, Enqueue, Delete, Wait, MayContains, LoadBegin, LoadEnd, Receive, FlushBegin, FlushBlock, FlushWrote, LogWrote, FlushEnd, ReclaimBegin, ReclaimRead, ReclaimForget, ReclaimCleaned, ReclaimIdle, DestroyBegin, DestroyClear, DestroyCleaned, Close}
use Rattle.foyer_core_model.specs.Reply.{Reply, NotNow, Refused, Ignored, Queued, Dropped, Deleted, Done, Miss, Throttled, Read, Entry, Empty, Received, Began, Written, NoBlock, Next, Committed, Failed, Ended, Picked, Listed, Cleans, Destroying, Cleared, Destroyed}
use Rattle.foyer_core_model.specs.Index.{inserted, without}
use Rattle.foyer_core_model.specs.Layout.{writes_in, KeepsBlock, KeepsBlocks}
use Rattle.foyer_core_model.specs.Queue.{invalidated_by, queued, Enqueues, Deletes, Waits}
use Rattle.foyer_core_model.specs.Load.{Looks, judged, Judges, Ends}
use Rattle.foyer_core_model.specs.Receive.{pieces_of, turned, TakesFront}
use Rattle.foyer_core_model.specs.Flush.{released, Begins, clean_block, Describes, Wrote, Logs, Finishes}
use Rattle.foyer_core_model.specs.Reclaim.{not_among, addresses, admitted, place_behind, Picks, stage_after, issued_at, Lists, Rereads, Forgets, reclaimed, Cleaned}
use Rattle.foyer_core_model.specs.Destroy.{issued_after_clean, BeginsDestroy, Clears, CleansOne}
use Rattle.foyer_core_model.specs.InTurn.{WantsBlock, IsWritten, IsAt, MayClear, InTurn}
use Rattle.foyer_core_model.specs.Changes.{Changes}
use Rattle.foyer_core_model.specs.Follows.{Follows}
use Rattle.foyer_core_model.specs.Event.{Deletion, Destruction, sequence_in, newest, with_puts, puts_of, with_returned}
use Rattle.foyer_core_model.specs.Kept.{unless}
use Rattle.foyer_core_model.specs.Access.{BlockWrites, Idle, ReadIssued, Load, load_unless, writes_of, writes_reported, result_of, came}
use Rattle.foyer_core_model.specs.World.{World, WorldEvent, Applies, ReadBegins, ReadEnds, ScanBegins, ScanEnds, WriteBegins, WriteEnds, CleanBegins, CleanEnds, end_in, after, after_all, IsFed, MayHappen, MayAllHappen}
use Rattle.foyer_core_model.specs.Opened.{is_clean}
use Rattle.foyer_core_model.specs.Laws.{Demands}
use Rattle.foyer_core_model.proofs.Basics.{put_at, put_same, Ascends, ascends_push}
use Rattle.foyer_core_model.proofs.Ids.{in_last}
use Rattle.foyer_format_layout.specs.Each.{Each}
use Rattle.foyer_core_model.proofs.Invariant.{ground_of, writing_in, blocks_in, goes_on_in, batch_records, line_of, SlotOk, LoadOk, WritingOk, start_of, WorldInvariant, RecordWaits, one_owner}
use Rattle.foyer_core_model.proofs.GoodAddresses.{good_issued, good_handed}
use Rattle.foyer_format_layout.proofs.EachLaws.{each_front}
use Rattle.foyer_core_model.proofs.CommitSteps.{noted, committed_is, noted_is}
use Rattle.foyer_core_model.proofs.OneFlusher.{one_turned, pushed}
use Rattle.foyer_core_model.proofs.Received.{received_piece, returned_piece, received_mark, received_wait, received_again, dropped_again, begun_batch}
use Rattle.foyer_core_model.proofs.LoadSteps.{slot_none, slot_without, mark_enters, deleted, indexed, promised}
use Rattle.foyer_core_model.proofs.AccessEvents.{read_begins, read_ends, write_begins, write_ends, clean_begins, clean_ends}
use Rattle.foyer_core_model.proofs.FlushEnds.{released_other, ended, wrote_one, failed, wrote_all}
use Rattle.foyer_core_model.proofs.FlushBlocks.{issued, waited}
use Rattle.foyer_core_model.proofs.ReclaimSteps.{one_moved, forgot, cleared, handed}
use Rattle.foyer_core_model.proofs.Rereads.{ReclaimOk, still_of, IsAgain}
use Rattle.foyer_core_model.proofs.Sets.{AreSets, fillings_few, clean_is, follows_sets}
use Rattle.foyer_core_model.proofs.RereadFlushes.{brings_of}
use Rattle.foyer_core_model.proofs.RereadsKept.{event_goes}

module _ {C : Type 0} (rules : Rules C) (Splits : Splitting C) (is_value : C → Type 0) (demands : Demands rules Splits is_value) where
  same : (w : World C) (new : State C) → new ≡ w.core → WorldInvariant rules w → WorldInvariant rules (record w { core = new })
  same w new is sound = subst (λ c. WorldInvariant rules (record w { core = c })) (sym is) sound

  delete_keeps : (w : World C) (h : ℕ) (reply : Reply C) (new : State C) → Deletes rules w.core h reply new → WorldInvariant rules w
      → WorldInvariant rules (after rules w (Applies (Delete h) reply new))
  delete_keeps w h (Deleted s) new ok sound =
      subst (λ k. WorldInvariant rules (record w { core = k; history = Deletion h s ∷ w.history }))
      (sym (ok.3 ∙ entered))
      (deleted rules (record w {
        core = record w.core {
          flushers = put w.core.flushers (flusher_of rules h) (record (w.core.flushers (flusher_of rules h)) { queue = (w.core.flushers (flusher_of rules h)).queue ++ Remove h s (invalidated_by rules s (w.core.index h)) ∷ [] });
          next = s + 1;
        };
      }) h s
      (marked_queue w h s (invalidated_by rules s (w.core.index h)) ok.0 sound)
      (omega arith)
      (let below : sequence_in (newest h w.history) < w.core.next = sound.next h in let e : s ≡ w.core.next = ok.0 in omega arith))
    where
      entered : record (queued rules w.core (flusher_of rules h) (Remove h s (invalidated_by rules s (w.core.index h)))) { next = s + 1; index = put w.core.index h (inserted (w.core.index h) (Mark s)) }
          ≡ record (queued rules w.core (flusher_of rules h) (Remove h s (invalidated_by rules s (w.core.index h)))) { next = s + 1; index = put w.core.index h (Some (Mark s)) }
      entered = λ i. record (queued rules w.core (flusher_of rules h) (Remove h s (invalidated_by rules s (w.core.index h)))) { next = s + 1; index = put w.core.index h (mark_enters rules w h s sound ok.0 i) }

      marked_queue : (w : World C) (h s : ℕ) (invalidated : List Invalidated) → s ≡ w.core.next → WorldInvariant rules w
          → WorldInvariant rules (record w {
            core = record w.core {
              flushers = put w.core.flushers (flusher_of rules h) (record (w.core.flushers (flusher_of rules h)) { queue = (w.core.flushers (flusher_of rules h)).queue ++ Remove h s invalidated ∷ [] });
              next = s + 1;
            };
          })
      marked_queue w h s invalidated e sound =
          pushed rules w (flusher_of rules h) (Remove h s invalidated) (s + 1) sound (omega arith) refl
          (λ k n lt. tt)
          (λ low xs up. ascends_push low xs w.core.next s (omega arith) up)
  delete_keeps w h reply new ok sound = absurd ok

  enqueue_keeps : (w : World C) (h n : ℕ) (age : Age) (c : C) (reply : Reply C) (new : State C) → (h ≤ last_number) × is_value c → Enqueues rules w.core h n age c reply new → WorldInvariant rules w
      → WorldInvariant rules (after rules w (Applies (Enqueue h n age c) reply new))
  enqueue_keeps w h n age c (Ignored d) new fed ok sound = same w new ok.3 sound
  enqueue_keeps w h n age c (Dropped d s) new fed ok sound = delete_keeps w h (Deleted s) new ok.3 sound
  enqueue_keeps w h n age c (Queued s) new fed ok sound =
      subst (λ k. WorldInvariant rules (record w { core = k }))
      (sym ok.4)
      (pushed rules w (flusher_of rules h) (Piece h s n c) (s + 1) sound (let e : s ≡ w.core.next = ok.0 in omega arith)
      (refl, λ bytes is. demands.trips h s c bytes fed.0 (let e : s ≡ w.core.next = ok.0 in let l : w.core.next < last_number = ok.3 in omega arith) fed.1 is)
      (λ k n lt. ((λ _. let e : s ≡ w.core.next = ok.0 in omega arith), tt))
      (λ low xs up. ascends_push low xs w.core.next s (let e : s ≡ w.core.next = ok.0 in omega arith) up))
  enqueue_keeps w h n age c reply new fed ok sound = absurd ok

  destroying_keeps : (w : World C) (reply : Reply C) (new : State C) → BeginsDestroy rules w.core reply new → WorldInvariant rules w
      → WorldInvariant rules (after rules w (Applies DestroyBegin reply new))
  destroying_keeps w (Destroying s) new ok sound =
      subst (λ k. WorldInvariant rules (record w { core = k })) (sym ok.3)
      (pushed rules w (flusher_of rules 0) (Remove 0 s []) (s + 1) sound (let e : s ≡ w.core.next = ok.0 in omega arith) refl
      (λ k n lt. tt)
      (λ low xs up. ascends_push low xs w.core.next s (let e : s ≡ w.core.next = ok.0 in omega arith) up))
  destroying_keeps w reply new ok sound = absurd ok

  wait_keeps : (w : World C) (f i : ℕ) (reply : Reply C) (new : State C) → Waits rules w.core f i reply new → WorldInvariant rules w
      → WorldInvariant rules (after rules w (Applies (Wait f i) reply new))
  wait_keeps w f i Done new ok sound =
      subst (λ k. WorldInvariant rules (record w { core = k })) (sym ok)
      (pushed rules w f (Await i) w.core.next sound (omega arith) tt (λ k n lt. tt)
      (λ low xs up. subst (λ l. Ascends low l w.core.next) (sym (append_nil xs)) up))
    where
      append_nil : (xs : List ℕ) → xs ++ [] ≡ xs
      append_nil [] = refl
      append_nil (x ∷ xs) = ap (λ l. x ∷ l) (append_nil xs)
  wait_keeps w f i reply new ok sound = absurd ok

  look_keeps : (w : World C) (h : ℕ) (throttled : Bool) (slot : Option Slot) (reply : Reply C) (new : State C) → w.core.index h ≡ slot → Looks rules w.core h throttled slot reply new → WorldInvariant rules w
      → WorldInvariant rules (after rules w (Applies (LoadBegin h throttled) reply new))
  look_keeps w h throttled (Some (Indexed a)) Throttled new is ok sound = same w new ok.1 sound
  look_keeps w h throttled (Some (Indexed a)) Miss new is ok sound =
      subst (λ k. WorldInvariant rules (record w { core = k })) (sym ok.2)
      (indexed rules w h None sound (λ f routed. slot_none rules (ground_of w) w.block_writes w.history h (line_of (w.core.flushers f)) a
      (subst (λ slot. SlotOk rules (ground_of w) w.block_writes w.history h (line_of (w.core.flushers f)) slot) is (sound.slots h f routed))))
  look_keeps w h throttled (Some (Indexed a)) (Read t) new is ok sound =
      subst (λ k. WorldInvariant rules (record w { core = k; loads = put w.loads w.issued (Some (record { ticket = t; promise = newest t.hash w.history; read_state = ReadIssued; kept = w.kept t.hash })); issued = w.issued + 1 })) (sym ok.3)
      (subst (λ t. WorldInvariant rules (record w { loads = put w.loads w.issued (Some (record { ticket = t; promise = newest t.hash w.history; read_state = ReadIssued; kept = w.kept t.hash })); issued = w.issued + 1 })) (sym ok.2)
      (promised rules w h a (w.kept h) sound is))
  look_keeps w h throttled None Miss new is ok sound = same w new ok sound
  look_keeps w h throttled (Some (Mark s)) Miss new is ok sound = same w new ok sound
  look_keeps w h throttled slot reply new is ok sound = absurd ok

  judge_keeps : (w : World C) (t : Ticket) (came : ReadResult) (outcome : Outcome C) (reply : Reply C) (new : State C) → Judges rules w.core t outcome reply new → WorldInvariant rules w
      → WorldInvariant rules (after rules w (Applies (LoadEnd t came) reply new))
  judge_keeps w t came NoRecord Miss new ok sound =
      subst (λ k. WorldInvariant rules (record w { core = k })) (sym ok)
      (indexed rules w t.hash (without t.address (w.core.index t.hash)) sound
      (λ f routed. slot_without rules (ground_of w) w.block_writes w.history t.hash (line_of (w.core.flushers f)) t.address (w.core.index t.hash) (sound.slots t.hash f routed)))
  judge_keeps w t came (Holds c) (Entry d age) new ok sound = same w new ok.2 sound
  judge_keeps w t came outcome reply new ok sound = absurd ok

  end_keeps : (w : World C) (t : Ticket) (came : ReadResult) (reply : Reply C) (new : State C) → Ends rules w.core t came reply new → WorldInvariant rules w
      → WorldInvariant rules (after rules w (Applies (LoadEnd t came) reply new))
  end_keeps w t Fault reply new ok sound = absurd ok
  end_keeps w t (Bytes bs) reply new ok sound = judge_keeps w t (Bytes bs) (judged rules w.core t bs) reply new ok sound

  take_keeps : (w : World C) (f : ℕ) (queue : List (Submission C)) (reply : Reply C) (new : State C) → (w.core.flushers f).queue ≡ queue → TakesFront rules w.core f queue reply new → WorldInvariant rules w
      → WorldInvariant rules (after rules w (Applies (Receive f) reply new))
  take_keeps w f [] Empty new is ok sound = same w new ok sound
  take_keeps w f (Piece h s n c ∷ rest) (Received None) new is ok sound =
      subst (λ k. WorldInvariant rules (record w { core = k })) (sym ok.3) (received_piece rules w f h s n c ok.0 rest sound is ok.1)
  take_keeps w f (Piece h s n c ∷ rest) (Received (Some d)) new is ok sound =
      subst (λ H. WorldInvariant rules (record w { core = new; history = H })) (sym (ap (λ q. with_returned q w.history) is))
      (subst (λ k. WorldInvariant rules (record w { core = k; history = Deletion h s ∷ w.history })) (sym ok.2)
      (returned_piece rules w f h s n c rest ((w.core.flushers f).invalidated ++ invalidated_by rules s (w.core.index h)) sound is))
  take_keeps w f (Remove h s invalidated ∷ rest) (Received None) new is ok sound =
      subst (λ k. WorldInvariant rules (record w { core = k })) (sym ok) (received_mark rules w f h s invalidated ((w.core.flushers f).invalidated ++ invalidated) rest sound is)
  take_keeps w f (Await i ∷ rest) (Received None) new is ok sound =
      subst (λ k. WorldInvariant rules (record w { core = k })) (sym ok) (received_wait rules w f i rest ((w.core.flushers f).waits ++ i ∷ []) sound is)
  take_keeps w f (Reinsert h bytes a ∷ rest) (Received None) new is ok sound =
      elim ok [
        | inl (held, fits, eq) ↦ subst (λ k. WorldInvariant rules (record w { core = k })) (sym eq) (received_again rules w f h bytes a rest sound is)
        | inr (dropped, eq) ↦ subst (λ k. WorldInvariant rules (record w { core = k })) (sym eq) (dropped_again rules w f h bytes a rest sound is)
      ]
  take_keeps w f queue reply new is ok sound = absurd ok

  begin_keeps : (w : World C) (f : ℕ) (reply : Reply C) (new : State C) → (w.core.flushers f).batch ≡ None → Begins rules Splits w.core f reply new → WorldInvariant rules w
      → WorldInvariant rules (after rules w (Applies (FlushBegin f) reply new))
  begin_keeps w f (Began blocks marks) new none ok sound =
      subst (λ k. WorldInvariant rules (record w { core = k })) (sym ok.2)
      (begun_batch rules w f blocks (pieces_of (w.core.flushers f).buffer) sound none (demands.places (w.core.flushers f).context (w.core.flushers f).buffer blocks ok.1))
  begin_keeps w f reply new none ok sound = absurd ok

  log_keeps : (w : World C) (f : ℕ) (well : Bool) (batch : Option (Batch C)) (reply : Reply C) (new : State C) → (w.core.flushers f).batch ≡ batch → Logs rules w.core f well batch reply new → WorldInvariant rules w
      → WorldInvariant rules (after rules w (Applies (LogWrote f well) reply new))
  log_keeps w f well (Some batch) Done new is ok sound =
      subst (λ k. WorldInvariant rules (record w { core = k })) (sym ok)
      (one_turned rules w f (record (w.core.flushers f) { batch = Some batch }) (record (w.core.flushers f) { batch = Some (record batch { logged = Some well }) }) w.core.next sound
      (λ i. record (w.core.flushers f) { batch = is i }) (omega arith) (λ h n lt line. line)
      (λ t. record {
        order = record { received = t.order.received; queued = t.order.queued; batch = t.order.batch; batch_marks = t.order.batch_marks; buffer = t.order.buffer; marks = t.order.marks; queue = t.order.queue };
        batch = t.batch;
        batch_marks = t.batch_marks;
        buffer = t.buffer;
        marks = t.marks;
        queue = t.queue;
        split = t.split;
        context = t.context;
        owned = t.owned;
        spare = t.spare;
        either = t.either;
        writing = t.writing;
      }))
  log_keeps w f well batch reply new is ok sound = absurd ok

  finish_keeps : (w : World C) (f : ℕ) (batch : Option (Batch C)) (reply : Reply C) (new : State C) → (w.core.flushers f).batch ≡ batch → IsWritten rules.has_log batch → Finishes rules w.core f batch reply new → WorldInvariant rules w
      → WorldInvariant rules (after rules w (Applies (FlushEnd f) reply new))
  finish_keeps w f (Some batch) (Ended pieces waits) new is written ok sound =
      subst (λ k. WorldInvariant rules (record w { core = k })) (sym ok.2) (ended rules w f batch sound is written.0 written.1)
  finish_keeps w f batch reply new is written ok sound = absurd ok

  wrote_keeps : (w : World C) (f : ℕ) (good : Bool) (batch : Option (Batch C)) (reply : Reply C) (new : State C) → (w.core.flushers f).batch ≡ batch
      → (result_of (w.block_writes f) ≡ Some good) → Wrote rules w.core f good batch reply new → IsAgain rules w → WorldInvariant rules w
      → WorldInvariant rules (after rules w (Applies (FlushWrote f good) reply new))
  wrote_keeps w f true (Some batch) Next new is fed (r, first, second, rest, writing, left, eq) again sound =
      subst (λ k. WorldInvariant rules (record w { core = k; block_writes = put w.block_writes f (writes_reported (w.block_writes f)) })) (sym eq)
      (wrote_one rules w f batch r first second rest sound is writing left fed)
  wrote_keeps w f true (Some batch) (Committed n) new is fed (r, last, writing, left, count, eq) again sound =
      subst (λ H. WorldInvariant rules (record w { core = new; history = H; block_writes = put w.block_writes f Idle }))
      (sym (ap (λ b. with_puts (puts_of w.core b) w.history) (is ∙ (λ i. Some (record batch { writing = writing i }))) ∙ noted_is r.block (w.core.filling r.block) r.records w.core.index w.history))
      (subst (λ k. WorldInvariant rules (record w { core = k; history = noted r.block (w.core.filling r.block) r.records w.core.index w.history; block_writes = put w.block_writes f Idle })) (sym (eq ∙ (λ i. record (turned rules w.core f (record (w.core.flushers f) { batch = Some (record batch { writing = None }) })) { index = committed_is r.block (w.core.filling r.block) r.records w.core.index i })))
      (wrote_all rules w f batch r last sound is writing left fed
      (let whole : (w.core.flushers f).batch ≡ Some (record batch { writing = Some r }) = is ∙ (λ i. Some (record batch { writing = writing i })) in
      let own : (w.core.flushers f).own ≡ Some r.block = (subst (λ k. WritingOk rules (ground_of w) (w.core.flushers f).own (writing_in k) (w.block_writes f)) whole (sound.flushers f).writing).0 in
      brings_of rules w f r.block (map (λ p. p.1) r.records) ((sound.flushers f).owned r.block own)
      (each_front (RecordWaits rules w.core.index w.history w.core.place w.core.filling) (map (λ p. p.1) r.records) (records_of batch.blocks)
      (subst (λ k. Each (RecordWaits rules w.core.index w.history w.core.place w.core.filling) (batch_records k)) whole (again.waits f).batch)))))
  wrote_keeps w f good (Some batch) Failed new is fed (r, first, rest, writing, left, grown, eq) again sound =
      subst (λ k. WorldInvariant rules (record w { core = k; block_writes = put w.block_writes f Idle })) (sym eq)
      (failed rules w f batch r sound is writing)
  wrote_keeps w f good batch reply new is fed ok again sound = absurd ok

  start_fresh : (filled : ℕ → Position) (own : Option ℕ) → start_of rules filled own false ≡ first_position rules
  start_fresh filled None = refl
  start_fresh filled (Some b) = refl

  issue_keeps : (w : World C) (f : ℕ) (batch : Option (Batch C)) (reply : Reply C) (new : State C) → (w.core.flushers f).batch ≡ batch → WantsBlock batch
      → ((b : ℕ) → clean_block rules w.core ≡ Some b → w.core.place b ≡ Clean) → Describes rules w.core f batch reply new → WorldInvariant rules w
      → WorldInvariant rules (after rules w (Applies (FlushBlock f) reply new))
  issue_keeps w f (Some batch) NoBlock new is wants is_clean ok sound =
      subst (λ k. WorldInvariant rules (record w { core = k })) (sym ok.3) (go batch.blocks refl)
    where
      go : (blocks : List (BlockLayout C)) → batch.blocks ≡ blocks
          → WorldInvariant rules (record w { core = record w.core { flushers = put w.core.flushers f (record (w.core.flushers f) { own = None }); place = released (w.core.flushers f).own w.core.place } })
      go [] none = absurd (wants.0 none)
      go (s ∷ rest) blocks = waited rules w f batch s rest sound is wants.1 blocks ok.0
  issue_keeps w f (Some batch) (Written b writes) new is wants is_clean (s, rest, blocks, all, which) sound =
      subst (λ ws. WorldInvariant rules (record w { core = new; filled = put w.filled b (end_in (w.core.flushers f).batch (w.filled b)); block_writes = put w.block_writes f (writes_of b ws) })) (sym all)
      (subst (λ e. WorldInvariant rules (record w { core = new; filled = put w.filled b e; block_writes = put w.block_writes f (writes_of b (writes_in rules s.parts)) })) (sym (ap (λ k. end_in k (w.filled b)) batch_is))
      (elim which [
        | inl (continues_own_block, own, eq) ↦
            subst (λ k. WorldInvariant rules (record w { core = k; filled = put w.filled b s.end; block_writes = put w.block_writes f (writes_of b (writes_in rules s.parts)) })) (sym eq)
            (let placed : KeepsBlock rules (w.filled b) s = subst (λ g. KeepsBlock rules g s) (λ i. start_of rules w.filled (own i) (continues_own_block i)) split.0 in
            issued rules w f b batch s rest (Some b) w.core.filling w.core.place sound
            (λ i. record (w.core.flushers f) { own = own i; batch = batch_is i })
            (placed.stand (w.bytes b)) placed.outside placed.behind split.1
            (λ q ne mine. ne (one_owner rules w sound q f b mine own))
            (λ q ne c ready at. ne (one_writer q f b (subst (λ k. w.core.place k ≡ Writes q) at ((sound.flushers q).spare c ready).0) ((sound.flushers f).owned b own)))
            ((sound.flushers f).owned b own) (λ q c _ e. e)
            (λ h a x. good_issued rules (ground_of w) w.block_writes h a x f b s placed) (λ a _ e. e))
        | inr (inl (fresh, ready, eq)) ↦
            subst (λ k. WorldInvariant rules (record w { core = k; filled = put w.filled b s.end; block_writes = put w.block_writes f (writes_of b (writes_in rules s.parts)) })) (sym eq)
            (let mine : (w.core.place b ≡ Writes f) × (w.filled b ≡ first_position rules) = (sound.flushers f).spare b ready in
            let placed : KeepsBlock rules (w.filled b) s = subst (λ g. KeepsBlock rules g s) (sym mine.1) (begun fresh) in
            issued rules w f b batch s rest (w.core.flushers f).own w.core.filling w.core.place sound
            (λ i. record (w.core.flushers f) { batch = batch_is i })
            (placed.stand (w.bytes b)) placed.outside placed.behind split.1
            (λ q ne own. ne (one_writer q f b ((sound.flushers q).owned b own) mine.0))
            (λ q ne c own at. ne (one_writer q f b (subst (λ k. w.core.place k ≡ Writes q) at ((sound.flushers q).spare c own).0) mine.0))
            mine.0 (λ q c _ e. e)
            (λ h a x. good_issued rules (ground_of w) w.block_writes h a x f b s placed) (λ a _ e. e))
        | inr (inr (fresh, none, clean, eq)) ↦
            subst (λ k. WorldInvariant rules (record w { core = k; filled = put w.filled b s.end; block_writes = put w.block_writes f (writes_of b (writes_in rules s.parts)) })) (sym eq)
            (let placed : KeepsBlock rules (first_position rules) s = begun fresh in
            let place : w.core.place b ≡ Clean = is_clean b clean in
            issued rules w f b batch s rest (w.core.flushers f).own (put w.core.filling b (w.core.filling b + 1)) (put (released (w.core.flushers f).own w.core.place) b (Writes f)) sound
            (λ i. record (w.core.flushers f) { batch = batch_is i })
            (placed.stand (w.bytes b)) placed.outside placed.behind split.1
            (λ q ne mine. absurd (let e : Clean ≡ Writes q = sym place ∙ (sound.flushers q).owned b mine in cc))
            (λ q ne c ready at. absurd (let e : Clean ≡ Writes q = sym place ∙ ap w.core.place (sym at) ∙ ((sound.flushers q).spare c ready).0 in cc))
            (put_at (λ k. k ≡ Writes f) (released (w.core.flushers f).own w.core.place) b (Writes f) b (λ _. refl) (λ ne. absurd (ne refl)))
            (λ q c ne e. put_at (λ k. k ≡ Writes q) (released (w.core.flushers f).own w.core.place) b (Writes f) c
            (λ at. absurd (let x : Clean ≡ Writes q = sym place ∙ ap w.core.place (sym at) ∙ e in cc))
            (λ _. released_other rules w.core.place f (w.core.flushers f).own (sound.flushers f).owned q c ne e))
            (λ h a x. good_handed rules (ground_of w) w.block_writes h a x f b s)
            (λ a le. put_at (λ n. a.filling ≡ n → a.filling ≡ w.core.filling a.block) w.core.filling b (w.core.filling b + 1) a.block
            (λ at e. let le' : a.filling ≤ w.core.filling b = subst (λ k. a.filling ≤ w.core.filling k) at le in absurd (omega arith))
            (λ _ e. e)))
      ]))
    where
      one_writer : (q r c : ℕ) → w.core.place c ≡ Writes q → w.core.place c ≡ Writes r → q ≡ r
      one_writer q r c mine his = let e : Writes q ≡ Writes r = sym mine ∙ his in cc

      batch_is : (w.core.flushers f).batch ≡ Some (record batch { blocks = s ∷ rest; writing = None })
      batch_is = is ∙ (λ j. Some (record batch { blocks = blocks j; writing = wants.1 j }))

      split : KeepsBlock rules (start_of rules w.filled (w.core.flushers f).own batch.continues_own_block) s × KeepsBlocks rules (first_position rules) rest
      split = subst (λ k. KeepsBlocks rules (start_of rules w.filled (w.core.flushers f).own (goes_on_in k)) (blocks_in k)) batch_is (sound.flushers f).split

      begun : batch.continues_own_block ≡ false → KeepsBlock rules (first_position rules) s
      begun fresh = subst (λ g. KeepsBlock rules g s) (ap (start_of rules w.filled (w.core.flushers f).own) fresh ∙ start_fresh w.filled (w.core.flushers f).own) split.0
  issue_keeps w f batch reply new is wants is_clean ok sound = absurd ok

  -- of the loads, a reclaim or a destroy changes only what is kept
  load_left : (g : _) (block_writes : ℕ → BlockWrites) (f : Option ℕ → Option ℕ) (o : Option (Load C)) → LoadOk rules g block_writes o → LoadOk rules g block_writes (load_unless f o)
  load_left g block_writes f None ok = tt
  load_left g block_writes f (Some l) ok = record { outcome = ok.outcome; promise = ok.promise; good = ok.good; read_state = ok.read_state }

  loads_left : (w : World C) (f : Option ℕ → Option ℕ) → WorldInvariant rules w → WorldInvariant rules (record w { loads = λ n. load_unless f (w.loads n) })
  loads_left w f sound =
      record { slots = sound.slots; loads = λ n. load_left (ground_of w) w.block_writes f (w.loads n) (sound.loads n); flushers = sound.flushers; next = sound.next }

  pick_keeps : (w : World C) (reply : Reply C) (new : State C) → Picks rules w.core reply new → WorldInvariant rules w → WorldInvariant rules (after rules w (Applies ReclaimBegin reply new))
  pick_keeps w (Picked b answers probation) new ok sound =
      subst (λ k. WorldInvariant rules (record w { core = k; loads = λ n. load_unless (unless b) (w.loads n) })) (sym ok.4)
      (loads_left (record w { core = record w.core { place = put w.core.place b Reclaims } }) (unless b) (one_moved rules w b Evictable Reclaims sound ok.1 (λ q e. cc)))
  pick_keeps w reply new ok sound = absurd ok

  forget_keeps : (w : World C) (b : ℕ) (r : Option Reclaim) (reply : Reply C) (new : State C) → Forgets rules w.core b r reply new → WorldInvariant rules w → WorldInvariant rules (after rules w (Applies (ReclaimForget b) reply new))
  forget_keeps w b (Some r) (Cleans d) new ok sound = subst (λ k. WorldInvariant rules (record w { core = k })) (sym ok.1) (forgot rules (not_among r.requeued r.listed) w sound)
  forget_keeps w b r reply new ok sound = absurd ok

  eq_self : (n : ℕ) → (n == n) ≡ true
  eq_self n = go (n == n) refl
    where
      go : (t : Bool) → (n == n) ≡ t → t ≡ true
      go true e = refl
      go false e = absurd (eqb-false n n e refl)

  grown : (m : ℕ → ℕ) (b : ℕ) → (put m b (m b + 1) b == m b) ≡ false
  grown m b = go (put m b (m b + 1) b == m b) refl
    where
      go : (t : Bool) → (put m b (m b + 1) b == m b) ≡ t → t ≡ false
      go true e = absurd (let f : put m b (m b + 1) b ≡ m b = eqb-true (put m b (m b + 1) b) (m b) e in let g : put m b (m b + 1) b ≡ m b + 1 = put_same m b (m b + 1) in omega arith)
      go false e = refl

  clean_keeps : (w : World C) (b : ℕ) (well : Bool) (reply : Reply C) (new : State C) → w.core.place b ≡ Reclaims → AreSets rules w.core → Cleaned rules w.core b reply new → WorldInvariant rules w → WorldInvariant rules (after rules w (Applies (ReclaimCleaned b well) reply new))
  clean_keeps w b well Done new at sets ok sound =
      elim ok [
        | inl (f, others, waits, room, eq) ↦
            (let none : ((w.core.flushers f).own ≡ None) × ((w.core.flushers f).ready ≡ None) = sets.waiting f (subst (λ l. is_id_in f l ≡ true) (sym waits) (in_last f others)) in
            subst (λ k. WorldInvariant rules (after rules w (Applies (ReclaimCleaned b well) Done k))) (sym eq)
            (subst (λ t. WorldInvariant rules (record w {
              core = record (reclaimed rules w.core b) {
                waiting = others;
                place = put w.core.place b (Writes f);
                filling = put w.core.filling b (w.core.filling b + 1);
                flushers = put w.core.flushers f (record (w.core.flushers f) { ready = Some b });
              };
              filled = if t then w.filled else put w.filled b (first_position rules);
            }))
            (sym (grown w.core.filling b)) (handed rules w b f sound at none.0 none.1)))
        | inr (nobody, eq) ↦
            subst (λ k. WorldInvariant rules (after rules w (Applies (ReclaimCleaned b well) Done k))) (sym eq)
            (subst (λ t. WorldInvariant rules (record w { core = record (reclaimed rules w.core b) { place = put w.core.place b Clean; clean = w.core.clean ++ b ∷ [] }; filled = if t then w.filled else put w.filled b (first_position rules) }))
            (sym (eq_self (w.core.filling b))) (one_moved rules w b Reclaims Clean sound at (λ q e. cc)))
      ]
  clean_keeps w b well reply new at sets ok sound = absurd ok

  clear_keeps : (w : World C) (reply : Reply C) (new : State C) → MayClear w.core → ((b : ℕ) → w.core.filling b < last_number) → Clears rules w.core reply new → WorldInvariant rules w → WorldInvariant rules (after rules w (Applies DestroyClear reply new))
  clear_keeps w (Cleared bs) new may few ok sound =
      subst (λ k. WorldInvariant rules (record w { core = k; history = Destruction ∷ w.history; loads = λ n. load_unless (λ o. None) (w.loads n); filled = λ b. if nat_lt b rules.blocks then first_position rules else w.filled b })) (sym ok.1)
      (cleared rules (record w { loads = λ n. load_unless (λ o. None) (w.loads n) }) (loads_left w (λ o. None) sound) few (λ f. (may.1 f).4))
  clear_keeps w reply new may few ok sound = absurd ok

  cleaned_keeps : (w : World C) (b : ℕ) (well : Option Kind) (d : Destroy) (reply : Reply C) (new : State C) → CleansOne rules w.core b well d reply new → WorldInvariant rules w
      → WorldInvariant rules (record w { core = new })
  cleaned_keeps w b well (Cleaning left failed) reply new ok sound = subst (λ k. WorldInvariant rules (record w { core = k })) (sym ok.1) sound
  cleaned_keeps w b well NoDestroy reply new ok sound = absurd ok
  cleaned_keeps w b well Begun reply new ok sound = absurd ok

  -- what DestroyCleaned replies
  is_issued : (left : List ℕ) (failed : Option Kind) → (issued_after_clean {C = C} left failed ≡ Done) ⊎ ((well : Option Kind) × (issued_after_clean {C = C} left failed ≡ Destroyed well))
  is_issued [] failed = inr (failed, refl)
  is_issued (b ∷ bs) failed = inl refl

  destroyed_keeps : (w : World C) (b : ℕ) (well : Option Kind) (d : Destroy) (reply : Reply C) (new : State C) → CleansOne rules w.core b well d reply new → WorldInvariant rules w
      → WorldInvariant rules (after rules w (Applies (DestroyCleaned b well) reply new))
  destroyed_keeps w b well (Cleaning left failed) reply new ok sound =
      subst (λ r. WorldInvariant rules (after rules w (Applies (DestroyCleaned b well) r new))) (sym ok.0)
      (elim (is_issued (without_id b left) (first_fault failed well)) [
        | inl e ↦ subst (λ r. WorldInvariant rules (after rules w (Applies (DestroyCleaned b well) r new))) (sym e) (cleaned_keeps w b well (Cleaning left failed) reply new ok sound)
        | inr e ↦ subst (λ r. WorldInvariant rules (after rules w (Applies (DestroyCleaned b well) r new))) (sym e.1) (cleaned_keeps w b well (Cleaning left failed) reply new ok sound)
      ])
  destroyed_keeps w b well NoDestroy reply new ok sound = absurd ok
  destroyed_keeps w b well Begun reply new ok sound = absurd ok

  -- a reclaim reads on: at most a reinsertion is queued
  reading_keeps : (w : World C) (b : ℕ) (came : ReadResult) (vs : List Bool) (stage : Stage) (new : State C) → WorldInvariant rules (record w { core = new })
      → WorldInvariant rules (after rules w (Applies (ReclaimRead b came) (issued_at rules w.core b stage vs) new))
  reading_keeps w b came vs (AtIndex place) new ok = ok
  reading_keeps w b came vs (AtRecord h a rest place) new ok = ok
  reading_keeps w b came vs AllListed new ok = ok
  reading_keeps w b came vs ToClean new ok = ok

  listed_keeps : (w : World C) (b : ℕ) (came : ReadResult) (reply : Reply C) (new : State C) → reply ≡ Listed [] → WorldInvariant rules (record w { core = new }) → WorldInvariant rules (after rules w (Applies (ReclaimRead b came) reply new))
  listed_keeps w b came reply new is ok = subst (λ q. WorldInvariant rules (after rules w (Applies (ReclaimRead b came) q new))) (sym is) ok

  lists_keeps : (w : World C) (b : ℕ) (came : ReadResult) (r : Reclaim) (place : ℕ) (es : Option (List IndexEntry)) (reply : Reply C) (new : State C) → Lists rules w.core b r place es reply new → WorldInvariant rules w
      → WorldInvariant rules (after rules w (Applies (ReclaimRead b came) reply new))
  lists_keeps w b came r place None reply new ok sound = listed_keeps w b came reply new ok.0 (subst (λ k. WorldInvariant rules (record w { core = k })) (sym ok.1) sound)
  lists_keeps w b came r place (Some es) reply new (vs, count, issued, eq) sound =
      subst (λ q. WorldInvariant rules (after rules w (Applies (ReclaimRead b came) q new))) (sym issued)
      (reading_keeps w b came vs (stage_after rules w.core (admitted vs (addresses b (w.core.filling b) place es)) (place_behind rules.page_up rules.block_size place es)) new (subst (λ k. WorldInvariant rules (record w { core = k })) (sym eq) sound))

  scan_keeps : (w : World C) (b : ℕ) (r : Reclaim) (stage : Stage) (came : ReadResult) (reply : Reply C) (new : State C) → Rattle.foyer_core_model.specs.Reclaim.Scanned rules w.core b r stage came reply new → WorldInvariant rules w
      → WorldInvariant rules (after rules w (Applies (ReclaimRead b came) reply new))
  scan_keeps w b r (AtIndex place) Fault reply new ok sound = listed_keeps w b Fault reply new ok.0 (subst (λ k. WorldInvariant rules (record w { core = k })) (sym ok.1) sound)
  scan_keeps w b r (AtRecord h a rest place) Fault reply new ok sound = listed_keeps w b Fault reply new ok.0 (subst (λ k. WorldInvariant rules (record w { core = k })) (sym ok.1) sound)
  scan_keeps w b r (AtIndex place) (Bytes bs) reply new ok sound = lists_keeps w b (Bytes bs) r place (rules.entries_of place bs) reply new ok sound
  scan_keeps w b r (AtRecord h a rest place) (Bytes bs) reply new ok sound =
      subst (λ q. WorldInvariant rules (after rules w (Applies (ReclaimRead b (Bytes bs)) q new))) (sym ok.0)
      (reading_keeps w b (Bytes bs) [] (stage_after rules w.core rest place) new (subst (λ k. WorldInvariant rules (record w { core = k })) (sym ok.1)
      (pushed rules w (flusher_of rules (length r.requeued)) (Reinsert h (take a.len bs) a) w.core.next sound (omega arith) tt (λ k n lt. tt)
      (λ low xs up. subst (λ l. Ascends low l w.core.next) (sym (no_more xs)) up))))
    where
      no_more : (xs : List ℕ) → xs ++ [] ≡ xs
      no_more [] = refl
      no_more (x ∷ xs) = ap (λ l. x ∷ l) (no_more xs)
  scan_keeps w b r stage came reply new ok sound = absurd ok

  reread_keeps : (w : World C) (b : ℕ) (r : Option Reclaim) (came : ReadResult) (reply : Reply C) (new : State C) → Rereads rules w.core b r came reply new → WorldInvariant rules w
      → WorldInvariant rules (after rules w (Applies (ReclaimRead b came) reply new))
  reread_keeps w b None came reply new ok sound = absurd ok
  reread_keeps w b (Some r) came reply new ok sound = scan_keeps w b r r.stage came reply new ok sound

  pub reclaim_place : (w : World C) (b : ℕ) (r : Reclaim) → IsAgain rules w → w.core.reclaims b ≡ Some r → w.core.place b ≡ Reclaims
  reclaim_place w b r again is = (subst (λ q. ReclaimOk rules w.core.index (still_of rules w) w.core.place b q (w.scans b)) is (again.stages b)).0

  pub reclaims_at : (w : World C) (b : ℕ) → IsAgain rules w → IsAt ToClean (w.core.reclaims b) → w.core.place b ≡ Reclaims
  reclaims_at w b again = go (w.core.reclaims b) refl
    where
      go : (r : Option Reclaim) → w.core.reclaims b ≡ r → IsAt ToClean r → w.core.place b ≡ Reclaims
      go None is at = absurd at
      go (Some r) is at = reclaim_place w b r again is

  does_keeps : (w : World C) (step : Step C) (reply : Reply C) (new : State C) → IsFed rules Splits is_value w step → InTurn rules w.core step → Changes rules Splits w.core step reply new → AreSets rules w.core → w.core.steps < last_number → IsAgain rules w → WorldInvariant rules w
      → WorldInvariant rules (after rules w (Applies step reply new))
  does_keeps w (Enqueue h n age c) reply new fed turn ok sets few again sound = enqueue_keeps w h n age c reply new fed ok sound
  does_keeps w (Delete h) reply new fed turn ok sets few again sound = delete_keeps w h reply new ok sound
  does_keeps w (Wait f i) reply new fed turn ok sets few again sound = wait_keeps w f i reply new ok sound
  does_keeps w (MayContains h) reply new fed turn ok sets few again sound = subst (λ r. WorldInvariant rules (after rules w (Applies (MayContains h) r new))) (sym ok.0) (same w new ok.1 sound)
  does_keeps w (LoadBegin h throttled) reply new fed turn ok sets few again sound = look_keeps w h throttled (w.core.index h) reply new refl ok sound
  does_keeps w (LoadEnd t came) reply new fed turn ok sets few again sound = end_keeps w t came reply new ok sound
  does_keeps w (Receive f) reply new fed turn ok sets few again sound = take_keeps w f (w.core.flushers f).queue reply new refl ok sound
  does_keeps w (FlushBegin f) reply new fed turn ok sets few again sound = begin_keeps w f reply new turn.1 ok sound
  does_keeps w (FlushBlock f) reply new fed turn ok sets few again sound = issue_keeps w f (w.core.flushers f).batch reply new refl turn.1 (clean_is rules w.core sets) ok sound
  does_keeps w (FlushWrote f good) reply new fed turn ok sets few again sound = wrote_keeps w f good (w.core.flushers f).batch reply new refl fed ok again sound
  does_keeps w (LogWrote f well) reply new fed turn ok sets few again sound = log_keeps w f well (w.core.flushers f).batch reply new refl ok sound
  does_keeps w (FlushEnd f) reply new fed turn ok sets few again sound = finish_keeps w f (w.core.flushers f).batch reply new refl turn.1 ok sound
  does_keeps w ReclaimBegin reply new fed turn ok sets few again sound = pick_keeps w reply new ok sound
  does_keeps w (ReclaimRead b came) reply new fed turn ok sets few again sound = reread_keeps w b (w.core.reclaims b) came reply new ok sound
  does_keeps w (ReclaimForget b) reply new fed turn ok sets few again sound = forget_keeps w b (w.core.reclaims b) reply new ok sound
  does_keeps w (ReclaimCleaned b well) reply new fed turn ok sets few again sound = clean_keeps w b well reply new (reclaims_at w b again turn.1) sets ok sound
  does_keeps w ReclaimIdle reply new fed turn ok sets few again sound = subst (λ r. WorldInvariant rules (after rules w (Applies ReclaimIdle r new))) (sym ok.0) (same w new ok.1 sound)
  does_keeps w DestroyBegin reply new fed turn ok sets few again sound = destroying_keeps w reply new ok sound
  does_keeps w DestroyClear reply new fed turn ok sets few again sound = clear_keeps w reply new turn (fillings_few rules w.core sets few) ok sound
  does_keeps w (DestroyCleaned b well) reply new fed turn ok sets few again sound = destroyed_keeps w b well w.core.destroy reply new ok sound
  does_keeps w Close reply new fed turn ok sets few again sound =
      subst (λ r. WorldInvariant rules (after rules w (Applies Close r new))) (sym ok.0) (subst (λ k. WorldInvariant rules (record w { core = k })) (sym ok.1) sound)

  step_keeps : (w : World C) (step : Step C) (reply : Reply C) (new : State C) → IsFed rules Splits is_value w step → Follows rules Splits w.core step reply new → AreSets rules w.core → IsAgain rules w → WorldInvariant rules w
      → WorldInvariant rules (after rules w (Applies step reply new))
  step_keeps w step (NotNow back) new fed ok sets again sound = same w new ok.2 sound
  step_keeps w step (Refused kind back) new fed ok sets again sound = same w new ok.2 sound
  step_keeps w step reply new fed (few, turn, (state, does, eq)) sets again sound =
      subst (λ k. WorldInvariant rules (after rules w (Applies step reply k))) (sym eq) (does_keeps w step reply state fed turn does sets few again sound)

  pub keeps : (w : World C) (e : WorldEvent C) → MayHappen rules Splits is_value w e → AreSets rules w.core → IsAgain rules w → WorldInvariant rules w → WorldInvariant rules (after rules w e)
  keeps w (Applies step reply new) ok sets again sound = step_keeps w step reply new ok.0 ok.1 sets again sound
  keeps w (ReadBegins n) ok sets again sound = read_begins rules w n sound
  keeps w (ReadEnds n result) ok sets again sound = read_ends rules w n result sound ok
  keeps w (ScanBegins b) ok sets again sound = sound
  keeps w (ScanEnds b result) ok sets again sound = sound
  keeps w (WriteBegins f) ok sets again sound = write_begins rules w f sound
  keeps w (WriteEnds f good g) ok sets again sound = write_ends rules w f good g sound ok
  keeps w (CleanBegins b) ok sets again sound = clean_begins rules w b sound
  keeps w (CleanEnds b good g) ok sets again sound = clean_ends rules w b good g sound ok

  -- what is true of every world that is reached
  pub record IsKnown (w : World C) : Type 0 where
    pub sound : WorldInvariant rules w
    pub again : IsAgain rules w
    pub sets : AreSets rules w.core

  pub known_keeps : (w : World C) (e : WorldEvent C) → MayHappen rules Splits is_value w e → IsKnown w → IsKnown (after rules w e)
  known_keeps w e ok known = record {
    sound = keeps w e ok known.sets known.again known.sound;
    again = event_goes rules Splits is_value demands.places w e ok known.sets known.sound known.again;
    sets = sets_keep w e ok known;
  }
    where
      sets_keep : (w : World C) (e : WorldEvent C) → MayHappen rules Splits is_value w e → IsKnown w → AreSets rules (after rules w e).core
      sets_keep w (Applies step reply new) ok known =
          follows_sets rules Splits w.core new step reply (λ f b. (known.sound.flushers f).owned b) (λ b r. reclaim_place w b r known.again) ok.1 known.sets
      sets_keep w (ReadBegins n) ok known = known.sets
      sets_keep w (ReadEnds n result) ok known = known.sets
      sets_keep w (ScanBegins b) ok known = known.sets
      sets_keep w (ScanEnds b result) ok known = known.sets
      sets_keep w (WriteBegins f) ok known = known.sets
      sets_keep w (WriteEnds f good g) ok known = known.sets
      sets_keep w (CleanBegins b) ok known = known.sets
      sets_keep w (CleanEnds b good g) ok known = known.sets

  pub all_known : (w : World C) (events : List (WorldEvent C)) → MayAllHappen rules Splits is_value w events → IsKnown w → IsKnown (after_all rules w events)
  all_known w [] ok known = known
  all_known w (e ∷ es) ok known = all_known (after rules w e) es ok.1 (known_keeps w e ok.0 known)

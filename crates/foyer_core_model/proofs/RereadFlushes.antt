-- What is known of reinsertions stays through what is queued, loaded and flushed.
use Rattle.std.proofs.Common.{◌≡◌, ℕ, ◌+◌, ◌≤◌, Bool, true, false, List, [], ◌∷◌, ◌++◌, map, Option, Some, None, inl, inr, refl, sym, ap, subst, ◌∙◌, arith}
use Rattle.foyer_core_model.specs.Numbers.{put}
use Rattle.foyer_core_model.specs.Record.{Address, Slot, Indexed, Mark, Outcome, NoRecord, Holds, Source, Given, Reread, Record}
use Rattle.foyer_core_model.specs.Position.{records_in, records_of}
use Rattle.foyer_core_model.specs.State.{Submission, Piece, Remove, Await, Reinsert, Batch, Flusher, BlockSet, Clean, Writes, Evictable, Reclaims, State}
use Rattle.foyer_core_model.specs.Rules.{Rules, flusher_of, first_position, Splitting}
use Rattle.foyer_core_model.specs.Step.{ReadResult, Bytes, Fault, Age, Ticket, Enqueue, Delete, Wait, LoadBegin, LoadEnd, Receive, FlushBegin, FlushBlock, FlushWrote, LogWrote, FlushEnd}
use Rattle.foyer_core_model.specs.Reply.{Reply, Ignored, Queued, Dropped, Deleted, Done, Miss, Throttled, Read, Entry, Empty, Received, Began, Written, NoBlock, Next, Committed, Failed, Ended}
use Rattle.foyer_core_model.specs.Index.{inserted, without, unmarked}
use Rattle.foyer_core_model.specs.Layout.{writes_in, KeepsRecords}
use Rattle.foyer_core_model.specs.Queue.{invalidated_by, queued, Enqueues, Deletes, Waits}
use Rattle.foyer_core_model.specs.Load.{Looks, judged, Judges, Ends}
use Rattle.foyer_core_model.specs.Receive.{turned, TakesFront}
use Rattle.foyer_core_model.specs.Flush.{released, writing_of, Begins, clean_block, Describes, Wrote, Logs, Finishes}
use Rattle.foyer_core_model.specs.InTurn.{WantsBlock}
use Rattle.foyer_core_model.specs.Event.{Event, Put, Deletion, newest, with_puts, puts_of, with_returned}
use Rattle.foyer_core_model.specs.Access.{Idle, came}
use Rattle.foyer_core_model.specs.World.{World, Applies, after}
use Rattle.foyer_core_model.specs.Opened.{is_clean}
use Rattle.foyer_core_model.proofs.Basics.{put_at, put_other, put_both}
use Rattle.foyer_format_layout.specs.Each.{Each}
use Rattle.foyer_core_model.proofs.Invariant.{ground_of, writing_in, batch_records, WritingOk, WorldInvariant, IsBarred, SourceWaits, RecordWaits, SubmissionWaits, AllWait}
use Rattle.foyer_format_layout.proofs.EachLaws.{each_back, each_join, each_weaker}
use Rattle.foyer_core_model.proofs.CommitSteps.{committed, noted, committed_is, noted_is, newest_del_other, SourceBrings, Brings, all_faithful}
use Rattle.foyer_core_model.proofs.LoadSteps.{MarkEnters, mark_enters}
use Rattle.foyer_core_model.proofs.Received.{piece_enters}
use Rattle.foyer_core_model.proofs.FlushBlocks.{records_issued}
use Rattle.foyer_core_model.proofs.Rereads.{IsAgainIn, still_of, IsAgain, without_stays, put_stays, unmarked_stays, committed_stays, drifted, removed, one_waits}

module _ {C : Type 0} (rules : Rules C) where
  -- a submission more
  pub push_wait : (m : ℕ → Option Slot) (H : List (Event C)) (place : ℕ → BlockSet) (filling : ℕ → ℕ) (φ : Flusher C) (sub : Submission C) → SubmissionWaits rules m H place filling sub
      → AllWait rules m H place filling φ → AllWait rules m H place filling (record φ { queue = φ.queue ++ sub ∷ [] })
  push_wait m H place filling φ sub ok t = record { batch = t.batch; buffer = t.buffer; queue = each_join (SubmissionWaits rules m H place filling) φ.queue (sub ∷ []) t.queue (ok, tt) }

  pub pushes : (w : World C) (f : ℕ) (sub : Submission C) → SubmissionWaits rules w.core.index w.history w.core.place w.core.filling sub → IsAgain rules w
      → IsAgain rules (record w { core = record w.core { flushers = put w.core.flushers f (record (w.core.flushers f) { queue = (w.core.flushers f).queue ++ sub ∷ [] }) } })
  pushes w f sub ok again =
      one_waits rules w.core.index w.history (still_of rules w) w.core.place w.core.flushers w.core.reclaims w.scans f _
      (push_wait w.core.index w.history w.core.place w.core.filling (w.core.flushers f) sub ok) again

  pub issued_state : (w : World C) (new expr : State C) → new ≡ expr → IsAgain rules (record w { core = expr }) → IsAgain rules (record w { core = new })
  issued_state w new expr is ok = subst (λ k. IsAgain rules (record w { core = k })) (sym is) ok

  pub delete_goes : (w : World C) (h : ℕ) (reply : Reply C) (new : State C) → Deletes rules w.core h reply new → WorldInvariant rules w → IsAgain rules w → IsAgain rules (after rules w (Applies (Delete h) reply new))
  delete_goes w h (Deleted s) new ok sound again =
      subst (λ k. IsAgain rules (record w { core = k; history = Deletion h s ∷ w.history })) (sym (ok.3 ∙ entered))
      (drifted rules w.core.index (put w.core.index h (Some (Mark s))) w.history (Deletion h s ∷ w.history) (still_of rules w) (still_of rules w) w.core.place w.core.place _ w.core.reclaims w.scans
      (λ k a t x e barred faith. put_at (λ v. v ≡ Some (Indexed a) → newest k (Deletion h s ∷ w.history) ≡ Some (Put k t x)) w.core.index h (Some (Mark s)) k
      (λ _ is. absurd (let q : Some (Mark s) ≡ Some (Indexed a) = is in cc))
      (λ ne is. newest_del_other h s w.history k (λ at. ne (sym at)) ∙ faith is))
      (λ k a barred. put_stays w.core.index h (Some (Mark s)) a (λ is. absurd (let q : Some (Mark s) ≡ Some (Indexed a) = is in cc)) k)
      (λ a barred. barred) (λ b r _ at. (at, refl)) (λ b. refl)
      (pushes w (flusher_of rules h) (Remove h s (invalidated_by rules s (w.core.index h))) tt again))
    where
      entered : record (queued rules w.core (flusher_of rules h) (Remove h s (invalidated_by rules s (w.core.index h)))) { next = s + 1; index = put w.core.index h (inserted (w.core.index h) (Mark s)) }
          ≡ record (queued rules w.core (flusher_of rules h) (Remove h s (invalidated_by rules s (w.core.index h)))) { next = s + 1; index = put w.core.index h (Some (Mark s)) }
      entered = λ i. record (queued rules w.core (flusher_of rules h) (Remove h s (invalidated_by rules s (w.core.index h)))) { next = s + 1; index = put w.core.index h (mark_enters rules w h s sound ok.0 i) }
  delete_goes w h reply new ok sound again = absurd ok

  pub enqueue_goes : (w : World C) (h n : ℕ) (age : Age) (c : C) (reply : Reply C) (new : State C) → Enqueues rules w.core h n age c reply new → WorldInvariant rules w → IsAgain rules w → IsAgain rules (after rules w (Applies (Enqueue h n age c) reply new))
  enqueue_goes w h n age c (Dropped d s) new ok sound again = delete_goes w h (Deleted s) new ok.3 sound again
  enqueue_goes w h n age c (Ignored d) new ok sound again = issued_state w new w.core ok.3 again
  enqueue_goes w h n age c (Queued s) new ok sound again = issued_state w new _ ok.4 (pushes w (flusher_of rules h) (Piece h s n c) tt again)
  enqueue_goes w h n age c reply new ok sound again = absurd ok

  pub wait_goes : (w : World C) (f i : ℕ) (reply : Reply C) (new : State C) → Waits rules w.core f i reply new → IsAgain rules w → IsAgain rules (after rules w (Applies (Wait f i) reply new))
  wait_goes w f i Done new ok again = issued_state w new _ ok (pushes w f (Await i) tt again)
  wait_goes w f i reply new ok again = absurd ok

  -- an address leaves the index
  pub leaves_index : (w : World C) (h : ℕ) (slot : Option Slot) → ((a : Address) → slot ≡ Some (Indexed a) → w.core.index h ≡ Some (Indexed a)) → IsAgain rules w → IsAgain rules (record w { core = record w.core { index = put w.core.index h slot } })
  leaves_index w h slot back again =
      removed rules w.core.index (put w.core.index h slot) w.history (still_of rules w) w.core.place w.core.flushers w.core.reclaims w.scans (λ k a. put_stays w.core.index h slot a (back a) k) again

  pub look_goes : (w : World C) (h : ℕ) (throttled : Bool) (slot : Option Slot) (reply : Reply C) (new : State C) → Looks rules w.core h throttled slot reply new → IsAgain rules w → IsAgain rules (after rules w (Applies (LoadBegin h throttled) reply new))
  look_goes w h throttled (Some (Indexed a)) Throttled new ok again = issued_state w new w.core ok.1 again
  look_goes w h throttled (Some (Indexed a)) Miss new ok again = issued_state w new _ ok.2 (leaves_index w h None (λ b is. absurd (let q : None ≡ Some (Indexed b) = is in cc)) again)
  look_goes w h throttled (Some (Indexed a)) (Read t) new ok again = issued_state w new _ ok.3 again
  look_goes w h throttled None Miss new ok again = issued_state w new w.core ok again
  look_goes w h throttled (Some (Mark s)) Miss new ok again = issued_state w new w.core ok again
  look_goes w h throttled slot reply new ok again = absurd ok

  pub judge_goes : (w : World C) (t : Ticket) (came : ReadResult) (outcome : Outcome C) (reply : Reply C) (new : State C) → Judges rules w.core t outcome reply new → IsAgain rules w → IsAgain rules (after rules w (Applies (LoadEnd t came) reply new))
  judge_goes w t came NoRecord Miss new ok again = issued_state w new _ ok (leaves_index w t.hash (without t.address (w.core.index t.hash)) (λ a. without_stays t.address a (w.core.index t.hash)) again)
  judge_goes w t came (Holds c) (Entry d age) new ok again = issued_state w new w.core ok.2 again
  judge_goes w t came outcome reply new ok again = absurd ok

  pub end_goes : (w : World C) (t : Ticket) (came : ReadResult) (reply : Reply C) (new : State C) → Ends rules w.core t came reply new → IsAgain rules w → IsAgain rules (after rules w (Applies (LoadEnd t came) reply new))
  end_goes w t Fault reply new ok again = absurd ok
  end_goes w t (Bytes bs) reply new ok again = judge_goes w t (Bytes bs) (judged rules w.core t bs) reply new ok again

  -- one flusher is another
  pub turn_wait : (w : World C) (f : ℕ) (ψ : Flusher C) → (AllWait rules w.core.index w.history w.core.place w.core.filling (w.core.flushers f) → AllWait rules w.core.index w.history w.core.place w.core.filling ψ)
      → IsAgain rules w → IsAgain rules (record w { core = record w.core { flushers = put w.core.flushers f ψ } })
  turn_wait w f ψ change again = one_waits rules w.core.index w.history (still_of rules w) w.core.place w.core.flushers w.core.reclaims w.scans f ψ change again

  pub take_goes : (w : World C) (f : ℕ) (queue : List (Submission C)) (reply : Reply C) (new : State C) → (w.core.flushers f).queue ≡ queue → TakesFront rules w.core f queue reply new → WorldInvariant rules w → IsAgain rules w
      → IsAgain rules (after rules w (Applies (Receive f) reply new))
  take_goes w f [] Empty new is ok sound again = issued_state w new w.core ok again
  take_goes w f (Piece h s n c ∷ rest) (Received None) new is ok sound again =
      issued_state w new _ ok.3 (turn_wait w f _ (λ t. record {
        batch = t.batch;
        buffer = each_join (RecordWaits rules w.core.index w.history w.core.place w.core.filling) (w.core.flushers f).buffer _ t.buffer (tt, tt);
        queue = (subst (Each (SubmissionWaits rules w.core.index w.history w.core.place w.core.filling)) is t.queue).1;
      }) again)
  take_goes w f (Piece h s n c ∷ rest) (Received (Some d)) new is ok sound again =
      subst (λ H. IsAgain rules (record w { core = new; history = H })) (sym (ap (λ q. with_returned q w.history) is))
      (subst (λ k. IsAgain rules (record w { core = k; history = Deletion h s ∷ w.history })) (sym ok.2)
      (drifted rules w.core.index (put w.core.index h (inserted (w.core.index h) (Mark s))) w.history (Deletion h s ∷ w.history) (still_of rules w) (still_of rules w) w.core.place w.core.place _ w.core.reclaims w.scans
      (λ k a t x e barred faith held. let was : (w.core.index k ≡ Some (Indexed a)) × (newest k (Deletion h s ∷ w.history) ≡ newest k w.history) = enters.addresses k a held in was.1 ∙ faith was.0)
      (λ k a barred held. (enters.addresses k a held).0)
      (λ a barred. barred) (λ b r _ at. (at, refl)) (λ b. refl)
      (turn_wait w f _ (λ t. record { batch = t.batch; buffer = t.buffer; queue = (subst (Each (SubmissionWaits rules w.core.index w.history w.core.place w.core.filling)) is t.queue).1 }) again)))
    where
      enters : MarkEnters w.core.index (put w.core.index h (inserted (w.core.index h) (Mark s))) w.history (Deletion h s ∷ w.history)
      enters = piece_enters rules w f h s n c rest sound is
  take_goes w f (Remove h s invalidated ∷ rest) (Received None) new is ok sound again =
      issued_state w new _ ok (turn_wait w f _ (λ t. record { batch = t.batch; buffer = t.buffer; queue = (subst (Each (SubmissionWaits rules w.core.index w.history w.core.place w.core.filling)) is t.queue).1 }) again)
  take_goes w f (Await i ∷ rest) (Received None) new is ok sound again =
      issued_state w new _ ok (turn_wait w f _ (λ t. record { batch = t.batch; buffer = t.buffer; queue = (subst (Each (SubmissionWaits rules w.core.index w.history w.core.place w.core.filling)) is t.queue).1 }) again)
  take_goes w f (Reinsert h bytes a ∷ rest) (Received None) new is ok sound again =
      elim ok [
        | inl (held, fits, eq) ↦ issued_state w new _ eq (turn_wait w f _ (λ t. let q : Each (SubmissionWaits rules w.core.index w.history w.core.place w.core.filling) (Reinsert h bytes a ∷ rest) = subst (Each (SubmissionWaits rules w.core.index w.history w.core.place w.core.filling)) is t.queue in
            record { batch = t.batch; buffer = each_join (RecordWaits rules w.core.index w.history w.core.place w.core.filling) (w.core.flushers f).buffer _ t.buffer ((refl, (q.0).0, (q.0).1), tt); queue = q.1 }) again)
        | inr (dropped, eq) ↦ issued_state w new _ eq (turn_wait w f _ (λ t. record { batch = t.batch; buffer = t.buffer; queue = (subst (Each (SubmissionWaits rules w.core.index w.history w.core.place w.core.filling)) is t.queue).1 }) again)
      ]
  take_goes w f queue reply new is ok sound again = absurd ok

  pub begin_goes : (Splits : Splitting C) → KeepsRecords rules Splits → (w : World C) (f : ℕ) (reply : Reply C) (new : State C) → Begins rules Splits w.core f reply new → IsAgain rules w → IsAgain rules (after rules w (Applies (FlushBegin f) reply new))
  begin_goes Splits places w f (Began blocks marks) new ok again =
      issued_state w new _ ok.2 (turn_wait w f _ (λ t. record {
        batch = subst (Each (RecordWaits rules w.core.index w.history w.core.place w.core.filling)) (sym (places (w.core.flushers f).context (w.core.flushers f).buffer blocks ok.1).all) t.buffer;
        buffer = tt;
        queue = t.queue;
      }) again)
  begin_goes Splits places w f reply new ok again = absurd ok

  -- a block that a flusher leaves
  pub released_back : (own : Option ℕ) (place : ℕ → BlockSet) (c f : ℕ) → released own place c ≡ Writes f → place c ≡ Writes f
  released_back None place c f e = e
  released_back (Some b) place c f given = put_at (λ p. p ≡ Writes f → place c ≡ Writes f) place b Evictable c (λ _ e. absurd (let q : Evictable ≡ Writes f = e in cc)) (λ _ e. e) given

  pub released_reclaims : (own : Option ℕ) (place : ℕ → BlockSet) (f c : ℕ) → ((b : ℕ) → own ≡ Some b → place b ≡ Writes f) → place c ≡ Reclaims → released own place c ≡ Reclaims
  released_reclaims None place f c owned at = at
  released_reclaims (Some b) place f c owned at =
      put_at (λ p. p ≡ Reclaims) place b Evictable c (λ is. absurd (let e : Reclaims ≡ Writes f = sym at ∙ ap place is ∙ owned b refl in cc)) (λ _. at)

  pub leaves_block : (w : World C) (f : ℕ) → WorldInvariant rules w → IsAgain rules w → IsAgain rules (record w { core = record w.core { place = released (w.core.flushers f).own w.core.place } })
  leaves_block w f sound again =
      drifted rules w.core.index w.core.index w.history w.history (still_of rules w) (still_of rules w) w.core.place (released (w.core.flushers f).own w.core.place) w.core.flushers w.core.reclaims w.scans
      (λ h a s x e barred faith. faith) (λ h a barred is. is)
      (λ a barred. (barred.0, λ e q mine. barred.1 e q (released_back (w.core.flushers f).own w.core.place a.block q mine)))
      (λ b r _ at. (released_reclaims (w.core.flushers f).own w.core.place f b (sound.flushers f).owned at, refl)) (λ b. refl) again

  pub issue_goes : (w : World C) (f : ℕ) (batch : Option (Batch C)) (reply : Reply C) (new : State C) → (w.core.flushers f).batch ≡ batch → WantsBlock batch → ((b : ℕ) → clean_block rules w.core ≡ Some b → w.core.place b ≡ Clean) → Describes rules w.core f batch reply new → WorldInvariant rules w → IsAgain rules w
      → IsAgain rules (after rules w (Applies (FlushBlock f) reply new))
  issue_goes w f (Some batch) NoBlock new is wants is_clean ok sound again =
      issued_state w new _ ok.3 (turn_wait (record w { core = record w.core { place = released (w.core.flushers f).own w.core.place } }) f _ (λ t. record { batch = t.batch; buffer = t.buffer; queue = t.queue }) (leaves_block w f sound again))
  issue_goes w f (Some batch) (Written b writes) new is wants is_clean (s, rest, blocks, all, which) sound again =
      elim which [
        | inl (continues_own_block, own, eq) ↦ issued_state w new _ eq (moved on)
        | inr (inl (fresh, ready, eq)) ↦ issued_state w new _ eq (moved on)
        | inr (inr (fresh, _, clean, eq)) ↦ issued_state w new _ eq
            (drifted rules w.core.index w.core.index w.history w.history (still_of rules w) (record { filled = λ b. first_position rules; filling = put w.core.filling b (w.core.filling b + 1); bytes = w.bytes })
            w.core.place (put (released (w.core.flushers f).own w.core.place) b (Writes f)) _ w.core.reclaims w.scans
            (λ h a s x e barred faith. faith) (λ h a barred is. is)
            (λ a barred. (
              put_at (λ n. a.filling ≤ n) w.core.filling b (w.core.filling b + 1) a.block
                  (λ at. let le : a.filling ≤ w.core.filling b = subst (λ k. a.filling ≤ w.core.filling k) at barred.0 in omega arith) (λ _. barred.0),
              put_both (λ k n p. k ≡ a.block → a.filling ≡ n → (q : ℕ) → p ≡ Writes q → ⊥) w.core.filling (released (w.core.flushers f).own w.core.place) b (w.core.filling b + 1) (Writes f)
                  (λ at e q mine. let le : a.filling ≤ w.core.filling b = subst (λ k. a.filling ≤ w.core.filling k) (sym at) barred.0 in absurd (omega arith))
                  (λ k ne at e q mine. barred.1 (e ∙ ap w.core.filling at) q (released_back (w.core.flushers f).own w.core.place a.block q (ap (released (w.core.flushers f).own w.core.place) (sym at) ∙ mine))) a.block refl,
            ))
            (λ c r _ at. let far : c ≡ b → ⊥ = λ is. (let e : Clean ≡ Reclaims = sym (is_clean b clean) ∙ ap w.core.place (sym is) ∙ at in cc) in (
              put_other (released (w.core.flushers f).own w.core.place) b (Writes f) c far ∙ released_reclaims (w.core.flushers f).own w.core.place f c (sound.flushers f).owned at,
              put_other w.core.filling b (w.core.filling b + 1) c far,
            )) (λ c. refl)
            on)
      ]
    where
      whole : (w.core.flushers f).batch ≡ Some (record batch { blocks = s ∷ rest; writing = None })
      whole = is ∙ (λ j. Some (record batch { blocks = blocks j; writing = wants.1 j }))

      moved : IsAgainIn rules w.core.index w.history (still_of rules w) w.core.place
          (put w.core.flushers f (record (w.core.flushers f) { own = Some b; ready = None; batch = Some (record batch { blocks = rest; continues_own_block = false; writing = writing_of b (writes_in rules s.parts) (records_in s.parts) }) })) w.core.reclaims w.scans
          → IsAgainIn rules w.core.index w.history (record { filled = λ b. first_position rules; filling = w.core.filling; bytes = w.bytes }) w.core.place
          (put w.core.flushers f (record (w.core.flushers f) { own = Some b; ready = None; batch = Some (record batch { blocks = rest; continues_own_block = false; writing = writing_of b (writes_in rules s.parts) (records_in s.parts) }) })) w.core.reclaims w.scans
      moved ok = drifted rules w.core.index w.core.index w.history w.history (still_of rules w) (record { filled = λ b. first_position rules; filling = w.core.filling; bytes = w.bytes }) w.core.place w.core.place _ w.core.reclaims w.scans
          (λ h a s x e barred faith. faith) (λ h a barred is. is) (λ a barred. barred) (λ c r _ at. (at, refl)) (λ c. refl) ok

      on : IsAgainIn rules w.core.index w.history (still_of rules w) w.core.place
          (put w.core.flushers f (record (w.core.flushers f) { own = Some b; ready = None; batch = Some (record batch { blocks = rest; continues_own_block = false; writing = writing_of b (writes_in rules s.parts) (records_in s.parts) }) })) w.core.reclaims w.scans
      on = turn_wait w f (record (w.core.flushers f) { own = Some b; ready = None; batch = Some (record batch { blocks = rest; continues_own_block = false; writing = writing_of b (writes_in rules s.parts) (records_in s.parts) }) }) (λ t. record {
        batch = records_issued rules (Each (RecordWaits rules w.core.index w.history w.core.place w.core.filling)) b (writes_in rules s.parts) (records_in s.parts) (records_of rest) (each_back (RecordWaits rules w.core.index w.history w.core.place w.core.filling))
            (subst (λ k. Each (RecordWaits rules w.core.index w.history w.core.place w.core.filling) (batch_records k)) whole t.batch);
        buffer = t.buffer;
        queue = t.queue;
      }) again
  issue_goes w f batch reply new is wants is_clean ok sound again = absurd ok

  -- the records of a block that are to be committed
  pub brings_of : (w : World C) (f : ℕ) (b : ℕ) (rs : List (Record C)) → w.core.place b ≡ Writes f → Each (RecordWaits rules w.core.index w.history w.core.place w.core.filling) rs
      → Each (Brings rules (still_of rules w) (put w.block_writes f Idle) b (w.core.filling b) w.core.index w.history) rs
  brings_of w f b rs mine ok = each_weaker _ _ rs (λ r. one r r.source) ok
    where
      one : (r : Record C) (src : Source C) → SourceWaits rules w.core.index w.history w.core.place w.core.filling r src
          → SourceBrings rules (still_of rules w) (put w.block_writes f Idle) (λ d k. d ≡ b → k ≡ w.core.filling b → ⊥) w.core.index w.history r src
      one r (Given c) ok = tt
      one r (Reread a) ok = (ok.0, (λ at fill. (ok.1).1 (fill ∙ ap w.core.filling (sym at)) f (ap w.core.place at ∙ mine)), ok.2)

  pub wrote_goes : (w : World C) (f : ℕ) (good : Bool) (batch : Option (Batch C)) (reply : Reply C) (new : State C) → (w.core.flushers f).batch ≡ batch
      → Wrote rules w.core f good batch reply new → WorldInvariant rules w → IsAgain rules w → IsAgain rules (after rules w (Applies (FlushWrote f good) reply new))
  wrote_goes w f true (Some batch) Next new is (r, first, second, rest, writing, left, eq) sound again =
      issued_state w new _ eq (turn_wait w f _ (λ t. record {
        batch = subst (λ k. Each (RecordWaits rules w.core.index w.history w.core.place w.core.filling) (batch_records k)) (is ∙ (λ i. Some (record batch { writing = writing i }))) t.batch;
        buffer = t.buffer;
        queue = t.queue;
      }) again)
  wrote_goes w f true (Some batch) (Committed n) new is (r, last, writing, left, count, eq) sound again =
      subst (λ H. IsAgain rules (record w { core = new; history = H })) (sym (ap (λ k. with_puts (puts_of w.core k) w.history) whole ∙ noted_is r.block (w.core.filling r.block) r.records w.core.index w.history))
      (subst (λ k. IsAgain rules (record w { core = k; history = noted r.block (w.core.filling r.block) r.records w.core.index w.history })) (sym (eq ∙ (λ i. record (turned rules w.core f (record (w.core.flushers f) { batch = Some (record batch { writing = None }) })) { index = committed_is r.block (w.core.filling r.block) r.records w.core.index i })))
      (drifted rules w.core.index (committed r.block (w.core.filling r.block) r.records w.core.index) w.history (noted r.block (w.core.filling r.block) r.records w.core.index w.history) (still_of rules w) (still_of rules w) w.core.place w.core.place _ w.core.reclaims w.scans
      (λ h a s x e barred. all_faithful rules (ground_of w) w.block_writes r.block (w.core.filling r.block) r.records w.core.index w.history h a s x e (apart a barred))
      (λ h a barred. committed_stays rules r.block (w.core.filling r.block) r.records w.core.index h a (apart a barred))
      (λ a barred. barred) (λ b r _ at. (at, refl)) (λ b. refl)
      (turn_wait w f (record (w.core.flushers f) { batch = Some (record batch { writing = None }) }) (λ t. record {
        batch = each_back (RecordWaits rules w.core.index w.history w.core.place w.core.filling) (map (λ p. p.1) r.records) (records_of batch.blocks)
            (subst (λ k. Each (RecordWaits rules w.core.index w.history w.core.place w.core.filling) (batch_records k)) whole t.batch);
        buffer = t.buffer;
        queue = t.queue;
      }) again)))
    where
      whole : (w.core.flushers f).batch ≡ Some (record batch { writing = Some r })
      whole = is ∙ (λ i. Some (record batch { writing = writing i }))

      own : (w.core.flushers f).own ≡ Some r.block
      own = (subst (λ k. WritingOk rules (ground_of w) (w.core.flushers f).own (writing_in k) (w.block_writes f)) whole (sound.flushers f).writing).0

      apart : (a : Address) → IsBarred w.core.place w.core.filling a → a.block ≡ r.block → a.filling ≡ w.core.filling r.block → ⊥
      apart a barred at fill = barred.1 (fill ∙ ap w.core.filling (sym at)) f (ap w.core.place at ∙ (sound.flushers f).owned r.block own)
  wrote_goes w f good (Some batch) Failed new is (r, first, rest, writing, left, grown, eq) sound again =
      issued_state w new _ eq (turn_wait (record w { core = record w.core { place = released (w.core.flushers f).own w.core.place } }) f _ (λ t. record { batch = tt; buffer = t.buffer; queue = t.queue }) (leaves_block w f sound again))
  wrote_goes w f good batch reply new is ok sound again = absurd ok

  pub finish_goes : (w : World C) (f : ℕ) (batch : Option (Batch C)) (reply : Reply C) (new : State C) → Finishes rules w.core f batch reply new → IsAgain rules w → IsAgain rules (after rules w (Applies (FlushEnd f) reply new))
  finish_goes w f (Some batch) (Ended pieces waits) new ok again =
      issued_state w new _ ok.2
      (removed rules w.core.index (unmarked batch.marks w.core.index) w.history (still_of rules w) w.core.place _ w.core.reclaims w.scans (λ h a. unmarked_stays batch.marks w.core.index h a)
      (turn_wait w f (record (w.core.flushers f) { batch = None }) (λ t. record { batch = tt; buffer = t.buffer; queue = t.queue }) again))
  finish_goes w f batch reply new ok again = absurd ok

  pub log_goes : (w : World C) (f : ℕ) (well : Bool) (batch : Option (Batch C)) (reply : Reply C) (new : State C) → (w.core.flushers f).batch ≡ batch → Logs rules w.core f well batch reply new → IsAgain rules w → IsAgain rules (after rules w (Applies (LogWrote f well) reply new))
  log_goes w f well (Some batch) Done new is ok again =
      issued_state w new _ ok (turn_wait w f _ (λ t. record {
        batch = subst (λ k. Each (RecordWaits rules w.core.index w.history w.core.place w.core.filling) (batch_records k)) is t.batch;
        buffer = t.buffer;
        queue = t.queue;
      }) again)
  log_goes w f well batch reply new is ok again = absurd ok

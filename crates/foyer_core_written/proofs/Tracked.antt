-- How an event changes the place of a piece.
use Rattle.std.proofs.Common.{◌≡◌, ℕ, suc, ◌+◌, ◌==◌, Bool, true, false, if◌then◌else◌, List, [], ◌∷◌, ◌++◌, Option, Some, None, ◌⊎◌, inl, inr, refl, sym, subst, ◌∙◌}
use Rattle.std.proofs.lemmas.Bool.{eqb-true, eqb-false}
use Rattle.foyer_core_model.specs.Kind.{Kind}
use Rattle.foyer_core_model.specs.Numbers.{put}
use Rattle.foyer_core_model.specs.Record.{Slot, Indexed, Mark, Outcome, NoRecord, Holds, IndexEntry}
use Rattle.foyer_core_model.specs.State.{Submission, Piece, Remove, Await, Reinsert, Batch, Flusher, Stage, AtIndex, AtRecord, AllListed, ToClean, Reclaim, Destroy, NoDestroy, Begun, Cleaning, State}
use Rattle.foyer_core_model.specs.Rules.{Rules, flusher_of, Splitting}
use Rattle.foyer_core_model.specs.Layout.{KeepsRecords}
use Rattle.foyer_core_model.specs.Step.{ReadResult, Bytes, Fault, Age, Ticket, Step, Enqueue, Delete, Wait, MayContains, LoadBegin, LoadEnd, Receive, FlushBegin, FlushBlock, FlushWrote, LogWrote, FlushEnd, ReclaimBegin, ReclaimRead, ReclaimForget, ReclaimCleaned, ReclaimIdle, DestroyBegin, DestroyClear, DestroyCleaned, Close}
use Rattle.foyer_core_model.specs.Reply.{Reply, NotNow, Refused, Ignored, Queued, Dropped, Deleted, Done, Miss, Throttled, Read, Entry, Empty, Received, Began, Written, NoBlock, Next, Committed, Failed, Ended, Picked, Cleans, Destroying, Cleared}
use Rattle.foyer_core_model.specs.Queue.{invalidated_by, queued, Enqueues, Deletes, Waits}
use Rattle.foyer_core_model.specs.Load.{Looks, judged, Judges, Ends}
use Rattle.foyer_core_model.specs.Receive.{TakesFront}
use Rattle.foyer_core_model.specs.Flush.{Begins, block_issued, Describes, Wrote, Logs, Finishes}
use Rattle.foyer_core_model.specs.Reclaim.{Picks, Lists, Scanned, Rereads, Forgets, Cleaned}
use Rattle.foyer_core_model.specs.Destroy.{BeginsDestroy, Clears, CleansOne}
use Rattle.foyer_core_model.specs.InTurn.{WantsBlock, IsWritten, InTurn}
use Rattle.foyer_core_model.specs.Changes.{Changes}
use Rattle.foyer_core_model.specs.Follows.{Follows}
use Rattle.foyer_core_model.specs.Event.{with_puts, puts_of, with_returned}
use Rattle.foyer_core_model.specs.World.{World, WorldEvent, Applies, ReadBegins, ReadEnds, ScanBegins, ScanEnds, WriteBegins, WriteEnds, CleanBegins, CleanEnds, after, MayHappen}
use Rattle.foyer_core_model.proofs.Basics.{put_at}
use Rattle.foyer_core_written.specs.Written.{queues_at, passed_after, HasLost, IsPast}
use Rattle.foyer_core_written.proofs.Folds.{none_more}
use Rattle.foyer_core_written.proofs.Past.{IsAbove, deletion_covers, commit_covers}
use Rattle.foyer_core_written.proofs.Places.{queue_count, Lies}
use Rattle.foyer_core_written.proofs.Moves.{lies_pushed, lies_other, lies_dropped, lies_buffered, lies_taken, lies_returned, lies_begun, lies_issued, lies_wrote, lies_committed, lies_logged, lies_ended}

module _ {C : Type 0} (rules : Rules C) (Splits : Splitting C) (h s place n m : ℕ) (w : World C) (q : ℕ) (lies : Lies h s rules place n m (w.core.flushers q)) where
  abbrev At : ℕ → ℕ → Flusher C → Type 0
  At k past φ = Lies h s rules place k past φ

  -- the piece has a place, or is past, or was lost
  abbrev Goes : WorldEvent C → State C → Type 0
  Goes e new = At (n + queues_at rules q e) (passed_after q e m) (new.flushers q) ⊎ IsPast h s (after rules w e) ⊎ HasLost (e ∷ [])

  -- nothing was queued or passed
  abbrev Still : State C → Type 0
  Still new = At (n + 0) m (new.flushers q)

  more : (φ : Flusher C) → At n m φ → At (n + 0) m φ
  more φ at = subst (λ k. At k m φ) (none_more n) at

  kept : At (n + 0) m (w.core.flushers q)
  kept = more (w.core.flushers q) lies

  -- flushers that keep its place
  stays : (new expr : State C) → new ≡ expr → At n m (expr.flushers q) → Still new
  stays new expr eq at = more (new.flushers q) (subst (λ k. At n m (k.flushers q)) (sym eq) at)

  -- one flusher changes
  turns : (f : ℕ) (ψ : Flusher C) → (At n m (w.core.flushers f) → At n m ψ) → At n m (put w.core.flushers f ψ q)
  turns f ψ goes = put_at (At n m) w.core.flushers f ψ q (λ at. goes (subst (λ k. At n m (w.core.flushers k)) at lies)) (λ _. lies)

  -- the flusher does, to what has the property
  turned : (P : Flusher C → Type 0) (f : ℕ) (ψ : Flusher C) → q ≡ f → (At n m (w.core.flushers f) → P ψ) → P (put w.core.flushers f ψ q)
  turned P f ψ at goes = put_at P w.core.flushers f ψ q (λ _. goes (subst (λ k. At n m (w.core.flushers k)) at lies)) (λ apart. absurd (apart at))

  -- another does
  unturned : (f : ℕ) (ψ : Flusher C) → (q ≡ f → ⊥) → At n m (put w.core.flushers f ψ q)
  unturned f ψ apart = put_at (At n m) w.core.flushers f ψ q (λ at. absurd (apart at)) (λ _. lies)

  -- a submission that is no piece
  other_queued : (f : ℕ) (sub : Submission C) → queue_count (sub ∷ []) ≡ 0 → At n m ((queued rules w.core f sub).flushers q)
  other_queued f sub none = turns f _ (lies_other h s rules place n m (w.core.flushers f) sub none)

  deletes_goes : (k : ℕ) (reply : Reply C) (new : State C) → Deletes rules w.core k reply new → Still new
  deletes_goes k (Deleted u) new ok = stays new _ ok.3 (other_queued (flusher_of rules k) _ refl)
  deletes_goes k reply new ok = absurd ok

  waits_goes : (f i : ℕ) (reply : Reply C) (new : State C) → Waits rules w.core f i reply new → Still new
  waits_goes f i Done new ok = stays new _ ok (other_queued f _ refl)
  waits_goes f i reply new ok = absurd ok

  looks_goes : (k : ℕ) (throttled : Bool) (slot : Option Slot) (reply : Reply C) (new : State C) → Looks rules w.core k throttled slot reply new → Still new
  looks_goes k throttled None Miss new ok = stays new w.core ok lies
  looks_goes k throttled (Some (Mark u)) Miss new ok = stays new w.core ok lies
  looks_goes k throttled (Some (Indexed a)) Throttled new ok = stays new w.core ok.1 lies
  looks_goes k throttled (Some (Indexed a)) Miss new ok = stays new _ ok.2 lies
  looks_goes k throttled (Some (Indexed a)) (Read t) new ok = stays new _ ok.3 lies
  looks_goes k throttled slot reply new ok = absurd ok

  judges_goes : (t : Ticket) (x : Outcome C) (reply : Reply C) (new : State C) → Judges rules w.core t x reply new → Still new
  judges_goes t NoRecord Miss new ok = stays new _ ok lies
  judges_goes t (Holds c) (Entry d age) new ok = stays new w.core ok.2 lies
  judges_goes t x reply new ok = absurd ok

  ends_goes : (t : Ticket) (came : ReadResult) (reply : Reply C) (new : State C) → Ends rules w.core t came reply new → Still new
  ends_goes t Fault reply new ok = absurd ok
  ends_goes t (Bytes bs) reply new ok = judges_goes t (judged rules w.core t bs) reply new ok

  logs_goes : (f : ℕ) (well : Bool) (batch : Option (Batch C)) (reply : Reply C) (new : State C) → (w.core.flushers f).batch ≡ batch
      → Logs rules w.core f well batch reply new → Still new
  logs_goes f well (Some batch) Done new is ok = stays new _ ok (turns f _ (lies_logged h s rules place n m (w.core.flushers f) batch well is))
  logs_goes f well batch reply new is ok = absurd ok

  issues_goes : (f : ℕ) (batch : Option (Batch C)) (reply : Reply C) (new : State C) → (w.core.flushers f).batch ≡ batch → WantsBlock batch
      → Describes rules w.core f batch reply new → Still new
  issues_goes f (Some batch) NoBlock new is wants ok = stays new _ ok.3 (turns f _ (λ at. at))
  issues_goes f (Some batch) (Written b writes) new is wants (t, rest, blocks, all, which) =
      elim which [
        | inl (goes_on, own, eq) ↦ stays new _ eq issued
        | inr (inl (fresh, ready, eq)) ↦ stays new _ eq issued
        | inr (inr (fresh, ready, free, eq)) ↦ stays new _ eq issued
      ]
    where
      issued : At n m ((block_issued rules w.core f b batch t rest).flushers q)
      issued = turns f _ (lies_issued h s rules place n m (w.core.flushers f) b batch t rest is wants.1 blocks)
  issues_goes f batch reply new is wants ok = absurd ok

  finishes_goes : (f : ℕ) (batch : Option (Batch C)) (reply : Reply C) (new : State C) → (w.core.flushers f).batch ≡ batch → IsWritten rules.has_log batch
      → Finishes rules w.core f batch reply new → Still new
  finishes_goes f (Some batch) (Ended pieces waits) new is done ok = stays new _ ok.2 (turns f _ (lies_ended h s rules place n m (w.core.flushers f) batch is done))
  finishes_goes f batch reply new is done ok = absurd ok

  reads_goes : (b : ℕ) (r : Option Reclaim) (came : ReadResult) (reply : Reply C) (new : State C) → Rereads rules w.core b r came reply new → Still new
  reads_goes b None came reply new ok = absurd ok
  reads_goes b (Some r) came reply new ok = scanned r.stage came ok
    where
      lists : (at : ℕ) (es : Option (List IndexEntry)) → Lists rules w.core b r at es reply new → Still new
      lists at None given = stays new _ given.1 lies
      lists at (Some es) given = stays new _ given.3 lies

      scanned : (stage : Stage) (came : ReadResult) → Scanned rules w.core b r stage came reply new → Still new
      scanned (AtIndex at) Fault given = stays new _ given.1 lies
      scanned (AtRecord k a rest at) Fault given = stays new _ given.1 lies
      scanned (AtIndex at) (Bytes bs) given = lists at (rules.entries_of at bs) given
      scanned (AtRecord k a rest at) (Bytes bs) given = stays new _ given.1 (other_queued _ _ refl)
      scanned AllListed came given = absurd given
      scanned ToClean came given = absurd given

  picks_goes : (reply : Reply C) (new : State C) → Picks rules w.core reply new → Still new
  picks_goes (Picked b answers probation) new ok = stays new _ ok.4 lies
  picks_goes reply new ok = absurd ok

  forgets_goes : (b : ℕ) (r : Option Reclaim) (reply : Reply C) (new : State C) → Forgets rules w.core b r reply new → Still new
  forgets_goes b (Some r) (Cleans d) new ok = stays new _ ok.1 lies
  forgets_goes b r reply new ok = absurd ok

  cleaned_goes : (b : ℕ) (reply : Reply C) (new : State C) → Cleaned rules w.core b reply new → Still new
  cleaned_goes b Done new ok =
      elim ok [
        | inl (f, others, waits, room, eq) ↦ stays new _ eq (turns f _ (λ at. at))
        | inr (nobody, eq) ↦ stays new _ eq lies
      ]
  cleaned_goes b reply new ok = absurd ok

  destroys_goes : (reply : Reply C) (new : State C) → BeginsDestroy rules w.core reply new → Still new
  destroys_goes (Destroying u) new ok = stays new _ ok.3 (other_queued (flusher_of rules 0) _ refl)
  destroys_goes reply new ok = absurd ok

  cleans_goes : (b : ℕ) (well : Option Kind) (d : Destroy) (reply : Reply C) (new : State C) → CleansOne rules w.core b well d reply new → Still new
  cleans_goes b well (Cleaning left failed) reply new ok = stays new _ ok.1 lies
  cleans_goes b well NoDestroy reply new ok = absurd ok
  cleans_goes b well Begun reply new ok = absurd ok

  -- a piece is queued at the end, here or elsewhere
  enqueues_goes : (k z : ℕ) (age : Age) (c : C) (reply : Reply C) (new core : State C) → Enqueues rules w.core k z age c reply new
      → Goes (Applies (Enqueue k z age c) reply core) new
  enqueues_goes k z age c (Ignored d) new core ok = inl (stays new w.core ok.3 lies)
  enqueues_goes k z age c (Dropped d u) new core ok = inl (deletes_goes k (Deleted u) new ok.3)
  enqueues_goes k z age c (Queued u) new core ok = inl (subst (λ j. At (n + (if flusher_of rules k == q then 1 else 0)) m (j.flushers q)) (sym ok.4) (go (f == q) refl))
    where
      f : ℕ
      f = flusher_of rules k

      ψ : Flusher C
      ψ = record (w.core.flushers f) { queue = (w.core.flushers f).queue ++ Piece k u z c ∷ [] }

      go : (t : Bool) → (f == q) ≡ t → At (n + (if t then 1 else 0)) m (put w.core.flushers f ψ q)
      go true e = turned (At (n + 1) m) f ψ (sym (eqb-true f q e)) (lies_pushed h s rules place n m (w.core.flushers f) (Piece k u z c))
      go false e = more (put w.core.flushers f ψ q) (unturned f ψ (λ at. eqb-false f q e (sym at)))
  enqueues_goes k z age c reply new core ok = absurd ok

  -- the front of a queue is taken, or returned
  takes_goes : (f : ℕ) (queue : List (Submission C)) (reply : Reply C) (new core : State C) → (w.core.flushers f).queue ≡ queue
      → TakesFront rules w.core f queue reply new → Goes (Applies (Receive f) reply core) new
  takes_goes f [] Empty new core is ok = inl (stays new w.core ok lies)
  takes_goes f (Piece k u z c ∷ rest) (Received None) new core is ok =
      inl (stays new _ ok.3 (turns f _ (lies_taken h s rules place n m (w.core.flushers f) k u z c ok.0 rest is ((ok.2).1).0)))
  takes_goes f (Piece k u z c ∷ rest) (Received (Some d)) new core is ok = go (f == q) refl
    where
      φ : Flusher C
      φ = w.core.flushers f

      ψ : Flusher C
      ψ = record φ { queue = rest; marks = φ.marks ++ (k, u) ∷ []; invalidated = φ.invalidated ++ invalidated_by rules u (w.core.index k) }

      Out : ℕ → Flusher C → Type 0
      Out past χ = At (n + 0) past χ ⊎ IsAbove h s (with_returned φ.queue w.history) ⊎ HasLost (Applies (Receive f) (Received (Some d)) core ∷ [])

      given_back : At n m φ → Out (suc m) ψ
      given_back at =
          elim (lies_returned h s rules place n m φ k u z c rest is at) [
            | inl still ↦ inl (subst (λ j. At j (suc m) ψ) (none_more n) still)
            | inr its ↦ inr (inl (subst (λ l. IsAbove h s (with_returned l w.history)) (sym is) (deletion_covers h s k u w.history its.0 its.1)))
          ]

      go : (t : Bool) → (f == q) ≡ t → Out (if t then suc m else m) (new.flushers q)
      go true e = subst (λ j. Out (suc m) (j.flushers q)) (sym ok.2) (turned (Out (suc m)) f ψ (sym (eqb-true f q e)) given_back)
      go false e = inl (stays new _ ok.2 (unturned f ψ (λ at. eqb-false f q e (sym at))))
  takes_goes f (Remove k u invalidated ∷ rest) (Received None) new core is ok =
      inl (stays new _ ok (turns f _ (lies_dropped h s rules place n m (w.core.flushers f) (Remove k u invalidated) rest is (λ its. its) refl)))
  takes_goes f (Await i ∷ rest) (Received None) new core is ok =
      inl (stays new _ ok (turns f _ (lies_dropped h s rules place n m (w.core.flushers f) (Await i) rest is (λ its. its) refl)))
  takes_goes f (Reinsert k bytes a ∷ rest) (Received None) new core is ok =
      inl (elim ok [
        | inl (held, fits, eq) ↦ stays new _ eq (turns f _ (λ at. lies_buffered h s rules place n m (record (w.core.flushers f) { queue = rest }) _
            (lies_dropped h s rules place n m (w.core.flushers f) (Reinsert k bytes a) rest is (λ its. its) refl at)))
        | inr (dropped, eq) ↦ stays new _ eq (turns f _ (lies_dropped h s rules place n m (w.core.flushers f) (Reinsert k bytes a) rest is (λ its. its) refl))
      ])
  takes_goes f queue reply new core is ok = absurd ok

  -- a batch begins, here or elsewhere
  begins_goes : KeepsRecords rules Splits → (f : ℕ) (reply : Reply C) (new core : State C) → (w.core.flushers f).batch ≡ None
      → Begins rules Splits w.core f reply new → Goes (Applies (FlushBegin f) reply core) new
  begins_goes places f (Began blocks marks) new core none ok = inl (go (f == q) refl)
    where
      go : (t : Bool) → (f == q) ≡ t → At (n + 0) (if t then 0 else m) (new.flushers q)
      go true e = subst (λ k. At k 0 (new.flushers q)) (none_more n) (subst (λ k. At n 0 (k.flushers q)) (sym ok.2)
          (turned (At n 0) f _ (sym (eqb-true f q e)) (lies_begun h s rules place n m Splits places (w.core.flushers f) blocks none ok.1)))
      go false e = stays new _ ok.2 (unturned f _ (λ at. eqb-false f q e (sym at)))
  begins_goes places f reply new core none ok = absurd ok

  -- a write is reported: if its block is done, the piece's record was committed, or isn't of that block
  wrote_goes : (f : ℕ) (good : Bool) (batch : Option (Batch C)) (reply : Reply C) (new core : State C) → (w.core.flushers f).batch ≡ batch
      → Wrote rules w.core f good batch reply new → Goes (Applies (FlushWrote f good) reply core) new
  wrote_goes f true (Some batch) Next new core is (t, first, second, rest, writing, left, eq) =
      inl (stays new _ eq (turns f _ (lies_wrote h s rules place n m (w.core.flushers f) batch t (second ∷ rest) is writing)))
  wrote_goes f true (Some batch) (Committed j) new core is (t, last, writing, left, count, eq) = done
    where
      φ : Flusher C
      φ = w.core.flushers f

      ψ : Flusher C
      ψ = record φ { batch = Some (record batch { writing = None }) }

      Out : Flusher C → Type 0
      Out χ = At (n + 0) m χ ⊎ IsAbove h s (with_puts (puts_of w.core φ.batch) w.history) ⊎ HasLost (Applies (FlushWrote f true) (Committed j) core ∷ [])

      whole : (w.core.flushers f).batch ≡ Some (record batch { writing = Some t })
      whole = is ∙ (λ i. Some (record batch { writing = writing i }))

      done : Out (new.flushers q)
      done = subst (λ j. Out (j.flushers q)) (sym eq) (put_at Out w.core.flushers f ψ q
          (λ at. elim (lies_committed h s rules place n m (w.core.flushers f) batch t is writing (subst (λ k. At n m (w.core.flushers k)) at lies)) [
            | inl still ↦ inl (more ψ still)
            | inr among ↦ inr (inl (subst (λ k. IsAbove h s (with_puts (puts_of w.core k) w.history)) (sym whole)
                (commit_covers h s t.block (w.core.filling t.block) t.records w.core.index w.history among)))
          ])
          (λ _. inl kept))
  wrote_goes f good (Some batch) Failed new core is ok = inr (inr tt)
  wrote_goes f good batch reply new core is ok = absurd ok

  clears_goes : (reply : Reply C) (new core : State C) → Clears rules w.core reply new → Goes (Applies DestroyClear reply core) new
  clears_goes (Cleared bs) new core ok = inr (inr tt)
  clears_goes reply new core ok = absurd ok

  does_goes : KeepsRecords rules Splits → (step : Step C) (reply : Reply C) (new core : State C) → InTurn rules w.core step
      → Changes rules Splits w.core step reply new → Goes (Applies step reply core) new
  does_goes places (Enqueue k z age c) reply new core turn ok = enqueues_goes k z age c reply new core ok
  does_goes places (Delete k) reply new core turn ok = inl (deletes_goes k reply new ok)
  does_goes places (Wait f i) reply new core turn ok = inl (waits_goes f i reply new ok)
  does_goes places (MayContains k) reply new core turn ok = inl (stays new w.core ok.1 lies)
  does_goes places (LoadBegin k throttled) reply new core turn ok = inl (looks_goes k throttled (w.core.index k) reply new ok)
  does_goes places (LoadEnd t came) reply new core turn ok = inl (ends_goes t came reply new ok)
  does_goes places (Receive f) reply new core turn ok = takes_goes f (w.core.flushers f).queue reply new core refl ok
  does_goes places (FlushBegin f) reply new core turn ok = begins_goes places f reply new core turn.1 ok
  does_goes places (FlushBlock f) reply new core turn ok = inl (issues_goes f (w.core.flushers f).batch reply new refl turn.1 ok)
  does_goes places (FlushWrote f good) reply new core turn ok = wrote_goes f good (w.core.flushers f).batch reply new core refl ok
  does_goes places (LogWrote f well) reply new core turn ok = inl (logs_goes f well (w.core.flushers f).batch reply new refl ok)
  does_goes places (FlushEnd f) reply new core turn ok = inl (finishes_goes f (w.core.flushers f).batch reply new refl turn.1 ok)
  does_goes places ReclaimBegin reply new core turn ok = inl (picks_goes reply new ok)
  does_goes places (ReclaimRead b came) reply new core turn ok = inl (reads_goes b (w.core.reclaims b) came reply new ok)
  does_goes places (ReclaimForget b) reply new core turn ok = inl (forgets_goes b (w.core.reclaims b) reply new ok)
  does_goes places (ReclaimCleaned b well) reply new core turn ok = inl (cleaned_goes b reply new ok)
  does_goes places ReclaimIdle reply new core turn ok = inl (stays new w.core ok.1 lies)
  does_goes places DestroyBegin reply new core turn ok = inl (destroys_goes reply new ok)
  does_goes places DestroyClear reply new core turn ok = clears_goes reply new core ok
  does_goes places (DestroyCleaned b well) reply new core turn ok = inl (cleans_goes b well w.core.destroy reply new ok)
  does_goes places Close reply new core turn ok = inl (stays new _ ok.1 lies)

  -- a step that is returned counts for nothing
  not_now_goes : (step back : Step C) (new : State C) → Still new → Goes (Applies step (NotNow back) new) new
  not_now_goes (Enqueue k z age c) back new still = inl still
  not_now_goes (Receive f) back new still = inl still
  not_now_goes (FlushBegin f) back new still = inl still
  not_now_goes step back new still = inl still

  refused_goes : (step : Step C) (kind : Kind) (back : Step C) (new : State C) → Still new → Goes (Applies step (Refused kind back) new) new
  refused_goes (Enqueue k z age c) kind back new still = inl still
  refused_goes (Receive f) kind back new still = inl still
  refused_goes (FlushBegin f) kind back new still = inl still
  refused_goes step kind back new still = inl still

  step_goes : KeepsRecords rules Splits → (step : Step C) (reply : Reply C) (new : State C) → Follows rules Splits w.core step reply new
      → Goes (Applies step reply new) new
  step_goes places step (NotNow back) new ok = not_now_goes step back new (stays new w.core ok.2 lies)
  step_goes places step (Refused kind back) new ok = refused_goes step kind back new (stays new w.core ok.2 lies)
  step_goes places step reply new (few, turn, (done, changes, eq)) =
      subst (λ k. Goes (Applies step reply new) k) (sym eq) (does_goes places step reply done new turn changes)

  -- an event leaves the piece a place, or it is past, or was lost
  pub event_goes : KeepsRecords rules Splits → (is_value : C → Type 0) (e : WorldEvent C) → MayHappen rules Splits is_value w e
      → Lies h s rules place (n + queues_at rules q e) (passed_after q e m) ((after rules w e).core.flushers q) ⊎ IsPast h s (after rules w e) ⊎ HasLost (e ∷ [])
  event_goes places is_value (Applies step reply new) ok = step_goes places step reply new ok.1
  event_goes places is_value (ReadBegins k) ok = inl kept
  event_goes places is_value (ReadEnds k result) ok = inl kept
  event_goes places is_value (ScanBegins b) ok = inl kept
  event_goes places is_value (ScanEnds b result) ok = inl kept
  event_goes places is_value (WriteBegins f) ok = inl kept
  event_goes places is_value (WriteEnds f good g) ok = inl kept
  event_goes places is_value (CleanBegins b) ok = inl kept
  event_goes places is_value (CleanEnds b good g) ok = inl kept

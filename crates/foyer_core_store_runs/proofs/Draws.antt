-- Sequences are drawn upward.
use Rattle.std.proofs.Common.{◌≡◌, ℕ, ◌+◌, ◌≤◌, Bool, true, List, [], ◌∷◌, Option, Some, None, inl, inr, refl, ap, ◌∙◌, arith}
use Rattle.foyer_core_model.specs.Kind.{Kind}
use Rattle.foyer_core_model.specs.Record.{Slot, Indexed, Mark, Outcome, NoRecord, Holds, IndexEntry}
use Rattle.foyer_core_model.specs.State.{Submission, Piece, Remove, Await, Reinsert, Batch, Stage, AtIndex, AtRecord, AllListed, ToClean, Reclaim, Destroy, NoDestroy, Begun, Cleaning, State}
use Rattle.foyer_core_model.specs.Rules.{Rules, Splitting}
use Rattle.foyer_core_model.specs.Step.{ReadResult, Bytes, Fault, Age, Ticket, Step, Enqueue, Delete, Wait, MayContains, LoadBegin, LoadEnd, Receive, FlushBegin, FlushBlock, FlushWrote, LogWrote, FlushEnd, ReclaimBegin, ReclaimRead, ReclaimForget, ReclaimCleaned, ReclaimIdle, DestroyBegin, DestroyClear, DestroyCleaned, Close}
use Rattle.foyer_core_model.specs.Reply.{Reply, NotNow, Refused, Ignored, Queued, Dropped, Deleted, Done, Miss, Throttled, Read, Entry, Empty, Received, Began, Written, NoBlock, Next, Committed, Failed, Ended, Picked, Cleans, Destroying, Cleared}
use Rattle.foyer_core_model.specs.Queue.{Enqueues, Deletes, Waits}
use Rattle.foyer_core_model.specs.Load.{Looks, judged, Judges, Ends}
use Rattle.foyer_core_model.specs.Receive.{TakesFront}
use Rattle.foyer_core_model.specs.Flush.{Begins, Describes, Wrote, Logs, Finishes}
use Rattle.foyer_core_model.specs.Reclaim.{Picks, Lists, Scanned, Rereads, Forgets, Cleaned}
use Rattle.foyer_core_model.specs.Destroy.{BeginsDestroy, Clears, CleansOne}
use Rattle.foyer_core_model.specs.Changes.{Changes}
use Rattle.foyer_core_model.specs.Follows.{Follows}
use Rattle.foyer_core_model.specs.Access.{came}
use Rattle.foyer_core_model.specs.World.{World, WorldEvent, Applies, ReadBegins, ReadEnds, ScanBegins, ScanEnds, WriteBegins, WriteEnds, CleanBegins, CleanEnds, after, MayHappen}

module _ {C : Type 0} (rules : Rules C) (Splits : Splitting C) (old new : State C) where
  keeps : (expr : State C) → new ≡ expr → expr.next ≡ old.next → old.next ≤ new.next
  keeps expr eq same = let e : new.next ≡ old.next = ap (λ k. k.next) eq ∙ same in omega arith

  draws : (expr : State C) (s : ℕ) → new ≡ expr → expr.next ≡ s + 1 → s ≡ old.next → old.next ≤ new.next
  draws expr s eq one is = let e : new.next ≡ s + 1 = ap (λ k. k.next) eq ∙ one in omega arith

  deletes_up : (h : ℕ) (reply : Reply C) → Deletes rules old h reply new → old.next ≤ new.next
  deletes_up h (Deleted s) ok = draws _ s ok.3 refl ok.0
  deletes_up h reply ok = absurd ok

  enqueues_up : (h n : ℕ) (age : Age) (c : C) (reply : Reply C) → Enqueues rules old h n age c reply new → old.next ≤ new.next
  enqueues_up h n age c (Ignored d) ok = keeps old ok.3 refl
  enqueues_up h n age c (Dropped d s) ok = deletes_up h (Deleted s) ok.3
  enqueues_up h n age c (Queued s) ok = draws _ s ok.4 refl ok.0
  enqueues_up h n age c reply ok = absurd ok

  waits_up : (f i : ℕ) (reply : Reply C) → Waits rules old f i reply new → old.next ≤ new.next
  waits_up f i Done ok = keeps _ ok refl
  waits_up f i reply ok = absurd ok

  looks_up : (h : ℕ) (throttled : Bool) (slot : Option Slot) (reply : Reply C) → Looks rules old h throttled slot reply new → old.next ≤ new.next
  looks_up h throttled None Miss ok = keeps old ok refl
  looks_up h throttled (Some (Mark s)) Miss ok = keeps old ok refl
  looks_up h throttled (Some (Indexed a)) Throttled ok = keeps old ok.1 refl
  looks_up h throttled (Some (Indexed a)) Miss ok = keeps _ ok.2 refl
  looks_up h throttled (Some (Indexed a)) (Read t) ok = keeps _ ok.3 refl
  looks_up h throttled slot reply ok = absurd ok

  judges_up : (t : Ticket) (x : Outcome C) (reply : Reply C) → Judges rules old t x reply new → old.next ≤ new.next
  judges_up t NoRecord Miss ok = keeps _ ok refl
  judges_up t (Holds c) (Entry d age) ok = keeps old ok.2 refl
  judges_up t x reply ok = absurd ok

  ends_up : (t : Ticket) (came : ReadResult) (reply : Reply C) → Ends rules old t came reply new → old.next ≤ new.next
  ends_up t Fault reply ok = absurd ok
  ends_up t (Bytes bs) reply ok = judges_up t (judged rules old t bs) reply ok

  takes_up : (f : ℕ) (queue : List (Submission C)) (reply : Reply C) → TakesFront rules old f queue reply new → old.next ≤ new.next
  takes_up f [] Empty ok = keeps old ok refl
  takes_up f (Piece h s n c ∷ rest) (Received None) ok = keeps _ ok.3 refl
  takes_up f (Piece h s n c ∷ rest) (Received (Some d)) ok = keeps _ ok.2 refl
  takes_up f (Remove h s invalidated ∷ rest) (Received None) ok = keeps _ ok refl
  takes_up f (Await i ∷ rest) (Received None) ok = keeps _ ok refl
  takes_up f (Reinsert h bytes a ∷ rest) (Received None) ok = elim ok [ inl (held, fits, eq) ↦ keeps _ eq refl | inr (dropped, eq) ↦ keeps _ eq refl ]
  takes_up f queue reply ok = absurd ok

  begins_up : (f : ℕ) (reply : Reply C) → Begins rules Splits old f reply new → old.next ≤ new.next
  begins_up f (Began blocks marks) ok = keeps _ ok.2 refl
  begins_up f reply ok = absurd ok

  issues_up : (f : ℕ) (batch : Option (Batch C)) (reply : Reply C) → Describes rules old f batch reply new → old.next ≤ new.next
  issues_up f (Some batch) NoBlock ok = keeps _ ok.3 refl
  issues_up f (Some batch) (Written b writes) (s, rest, blocks, all, which) =
      elim which [
        | inl (goes_on, own, eq) ↦ keeps _ eq refl
        | inr (inl (fresh, ready, eq)) ↦ keeps _ eq refl
        | inr (inr (fresh, ready, free, eq)) ↦ keeps _ eq refl
      ]
  issues_up f batch reply ok = absurd ok

  wrote_up : (f : ℕ) (good : Bool) (batch : Option (Batch C)) (reply : Reply C) → Wrote rules old f good batch reply new → old.next ≤ new.next
  wrote_up f true (Some batch) Next ok = keeps _ ok.6 refl
  wrote_up f true (Some batch) (Committed n) ok = keeps _ ok.5 refl
  wrote_up f good (Some batch) Failed ok = keeps _ ok.6 refl
  wrote_up f good batch reply ok = absurd ok

  logs_up : (f : ℕ) (well : Bool) (batch : Option (Batch C)) (reply : Reply C) → Logs rules old f well batch reply new → old.next ≤ new.next
  logs_up f well (Some batch) Done ok = keeps _ ok refl
  logs_up f well batch reply ok = absurd ok

  finishes_up : (f : ℕ) (batch : Option (Batch C)) (reply : Reply C) → Finishes rules old f batch reply new → old.next ≤ new.next
  finishes_up f (Some batch) (Ended pieces waits) ok = keeps _ ok.2 refl
  finishes_up f batch reply ok = absurd ok

  reads_up : (b : ℕ) (r : Option Reclaim) (came : ReadResult) (reply : Reply C) → Rereads rules old b r came reply new → old.next ≤ new.next
  reads_up b None came reply ok = absurd ok
  reads_up b (Some r) came reply ok = scanned r.stage came ok
    where
      lists : (place : ℕ) (es : Option (List IndexEntry)) → Lists rules old b r place es reply new → old.next ≤ new.next
      lists place None given = keeps _ given.1 refl
      lists place (Some es) given = keeps _ given.3 refl

      scanned : (stage : Stage) (came : ReadResult) → Scanned rules old b r stage came reply new → old.next ≤ new.next
      scanned (AtIndex place) Fault given = keeps _ given.1 refl
      scanned (AtRecord h a rest place) Fault given = keeps _ given.1 refl
      scanned (AtIndex place) (Bytes bs) given = lists place (rules.entries_of place bs) given
      scanned (AtRecord h a rest place) (Bytes bs) given = keeps _ given.1 refl
      scanned AllListed came given = absurd given
      scanned ToClean came given = absurd given

  picks_up : (reply : Reply C) → Picks rules old reply new → old.next ≤ new.next
  picks_up (Picked b answers probation) ok = keeps _ ok.4 refl
  picks_up reply ok = absurd ok

  forgets_up : (b : ℕ) (r : Option Reclaim) (reply : Reply C) → Forgets rules old b r reply new → old.next ≤ new.next
  forgets_up b (Some r) (Cleans d) ok = keeps _ ok.1 refl
  forgets_up b r reply ok = absurd ok

  cleaned_up : (b : ℕ) (reply : Reply C) → Cleaned rules old b reply new → old.next ≤ new.next
  cleaned_up b Done ok =
      elim ok [
        | inl (f, others, waits, room, eq) ↦ keeps _ eq refl
        | inr (nobody, eq) ↦ keeps _ eq refl
      ]
  cleaned_up b reply ok = absurd ok

  destroys_up : (reply : Reply C) → BeginsDestroy rules old reply new → old.next ≤ new.next
  destroys_up (Destroying s) ok = draws _ s ok.3 refl ok.0
  destroys_up reply ok = absurd ok

  clears_up : (reply : Reply C) → Clears rules old reply new → old.next ≤ new.next
  clears_up (Cleared bs) ok = keeps _ ok.1 refl
  clears_up reply ok = absurd ok

  cleans_up : (b : ℕ) (well : Option Kind) (d : Destroy) (reply : Reply C) → CleansOne rules old b well d reply new → old.next ≤ new.next
  cleans_up b well (Cleaning left failed) reply ok = keeps _ ok.1 refl
  cleans_up b well NoDestroy reply ok = absurd ok
  cleans_up b well Begun reply ok = absurd ok

  does_up : (step : Step C) (reply : Reply C) → Changes rules Splits old step reply new → old.next ≤ new.next
  does_up (Enqueue h n age c) reply ok = enqueues_up h n age c reply ok
  does_up (Delete h) reply ok = deletes_up h reply ok
  does_up (Wait f i) reply ok = waits_up f i reply ok
  does_up (MayContains h) reply ok = keeps old ok.1 refl
  does_up (LoadBegin h throttled) reply ok = looks_up h throttled (old.index h) reply ok
  does_up (LoadEnd t came) reply ok = ends_up t came reply ok
  does_up (Receive f) reply ok = takes_up f (old.flushers f).queue reply ok
  does_up (FlushBegin f) reply ok = begins_up f reply ok
  does_up (FlushBlock f) reply ok = issues_up f (old.flushers f).batch reply ok
  does_up (FlushWrote f good) reply ok = wrote_up f good (old.flushers f).batch reply ok
  does_up (LogWrote f well) reply ok = logs_up f well (old.flushers f).batch reply ok
  does_up (FlushEnd f) reply ok = finishes_up f (old.flushers f).batch reply ok
  does_up ReclaimBegin reply ok = picks_up reply ok
  does_up (ReclaimRead b came) reply ok = reads_up b (old.reclaims b) came reply ok
  does_up (ReclaimForget b) reply ok = forgets_up b (old.reclaims b) reply ok
  does_up (ReclaimCleaned b well) reply ok = cleaned_up b reply ok
  does_up ReclaimIdle reply ok = keeps old ok.1 refl
  does_up DestroyBegin reply ok = destroys_up reply ok
  does_up DestroyClear reply ok = clears_up reply ok
  does_up (DestroyCleaned b well) reply ok = cleans_up b well old.destroy reply ok
  does_up Close reply ok = keeps _ ok.1 refl

module _ {C : Type 0} (rules : Rules C) (Splits : Splitting C) (is_value : C → Type 0) where
  step_draws : (old : State C) (step : Step C) (reply : Reply C) (new : State C) → Follows rules Splits old step reply new → old.next ≤ new.next
  step_draws old step (NotNow back) new ok = keeps rules Splits old new old ok.2 refl
  step_draws old step (Refused kind back) new ok = keeps rules Splits old new old ok.2 refl
  step_draws old step reply new (few, turn, (done, changes, eq)) =
      let up : old.next ≤ done.next = does_up rules Splits old done step reply changes in
      let e : new.next ≡ done.next = ap (λ k. k.next) eq in omega arith

  pub event_draws : (w : World C) (e : WorldEvent C) → MayHappen rules Splits is_value w e → w.core.next ≤ (after rules w e).core.next
  event_draws w (Applies step reply new) ok = step_draws w.core step reply new ok.1
  event_draws w (ReadBegins n) ok = omega arith
  event_draws w (ReadEnds n result) ok = omega arith
  event_draws w (ScanBegins b) ok = omega arith
  event_draws w (ScanEnds b result) ok = omega arith
  event_draws w (WriteBegins f) ok = omega arith
  event_draws w (WriteEnds f good g) ok = omega arith
  event_draws w (CleanBegins b) ok = omega arith
  event_draws w (CleanEnds b good g) ok = omega arith

-- The state afterwards is determined by the state before, the step and the reply.
use Rattle.std.proofs.Common.{◌≡◌, ℕ, ◌+◌, Bool, true, false, List, [], ◌∷◌, ◌++◌, Option, Some, None, inl, inr, refl, sym, ap, ◌∙◌, arith}
use Rattle.foyer_core_model.specs.Kind.{Kind}
use Rattle.foyer_core_model.specs.Numbers.{put}
use Rattle.foyer_core_model.specs.Ids.{without_id}
use Rattle.foyer_core_model.specs.Record.{Slot, Indexed, Mark, Outcome, NoRecord, Holds, IndexEntry, Given}
use Rattle.foyer_core_model.specs.State.{Submission, Piece, Remove, Await, Reinsert, Batch, Writes, Stage, AtIndex, AtRecord, AllListed, ToClean, Reclaim, Destroy, NoDestroy, Begun, Cleaning, State}
use Rattle.foyer_core_model.specs.Rules.{Rules, Splitting}
use Rattle.foyer_core_model.specs.Step.{ReadResult, Bytes, Fault, Age, Ticket, Step, Enqueue, Delete, Wait, MayContains, LoadBegin, LoadEnd, Receive, FlushBegin, FlushBlock, FlushWrote, LogWrote, FlushEnd, ReclaimBegin, ReclaimRead, ReclaimForget, ReclaimCleaned, ReclaimIdle, DestroyBegin, DestroyClear, DestroyCleaned, Close}
use Rattle.foyer_core_model.specs.Reply.{Reply, NotNow, Refused, Ignored, Queued, Dropped, Deleted, Done, Miss, Throttled, Read, Entry, Empty, Received, Began, Written, NoBlock, Next, Committed, Failed, Ended, Picked, Scans, Listed, Cleans, Destroying, Cleared}
use Rattle.foyer_core_model.specs.Queue.{Enqueues, Deletes, Waits}
use Rattle.foyer_core_model.specs.Load.{Looks, judged, Judges, Ends}
use Rattle.foyer_core_model.specs.Receive.{pushed_to, TakesFront}
use Rattle.foyer_core_model.specs.Flush.{released, Begins, block_issued, Describes, write_done, block_done, Wrote, Logs, Finishes}
use Rattle.foyer_core_model.specs.Reclaim.{addresses, Picks, issued_at, reclaiming, stage_behind, Lists, Scanned, Rereads, Forgets, reclaimed, Cleaned}
use Rattle.foyer_core_model.specs.Destroy.{BeginsDestroy, Clears, CleansOne}
use Rattle.foyer_core_model.specs.Changes.{Changes}
use Rattle.foyer_core_model.specs.Follows.{Follows}
use Rattle.foyer_core_model.specs.Access.{came}
use Rattle.foyer_core_model.specs.Companions.{IsDetermined}
use Rattle.foyer_core_model.proofs.FlushEnds.{failed}
use Rattle.foyer_core_model.proofs.FlushBlocks.{issued}

-- two ends of one list
same_last : (xs ys : List ℕ) (x y : ℕ) → xs ++ x ∷ [] ≡ ys ++ y ∷ [] → (xs ≡ ys) × (x ≡ y)
same_last [] [] x y e = (refl, (let f : x ∷ [] ≡ y ∷ [] = e in cc))
same_last [] (b ∷ []) x y e = absurd (let f : x ∷ [] ≡ b ∷ y ∷ [] = e in cc)
same_last [] (b ∷ c ∷ ys) x y e = absurd (let f : x ∷ [] ≡ b ∷ c ∷ (ys ++ y ∷ []) = e in cc)
same_last (a ∷ []) [] x y e = absurd (let f : a ∷ x ∷ [] ≡ y ∷ [] = e in cc)
same_last (a ∷ c ∷ xs) [] x y e = absurd (let f : a ∷ c ∷ (xs ++ x ∷ []) ≡ y ∷ [] = e in cc)
same_last (a ∷ xs) (b ∷ ys) x y e =
    let rest : xs ++ x ∷ [] ≡ ys ++ y ∷ [] = (let f : a ∷ (xs ++ x ∷ []) ≡ b ∷ (ys ++ y ∷ []) = e in cc) in
    let r : (xs ≡ ys) × (x ≡ y) = same_last xs ys x y rest in
    let at : a ≡ b = (let f : a ∷ (xs ++ x ∷ []) ≡ b ∷ (ys ++ y ∷ []) = e in cc) in
    ((λ i. at i ∷ r.0 i), r.1)

not_empty : (xs : List ℕ) (x : ℕ) → xs ++ x ∷ [] ≡ [] → ⊥
not_empty [] x e = let f : x ∷ [] ≡ [] = e in cc
not_empty (y ∷ ys) x e = let f : y ∷ (ys ++ x ∷ []) ≡ [] = e in cc

module _ {C : Type 0} (rules : Rules C) (Splits : Splitting C) (old : State C) where
  joined : (one two expr : State C) → one ≡ expr → two ≡ expr → one ≡ two
  joined one two expr p q = p ∙ sym q

  deletes_one : (h : ℕ) (reply : Reply C) (one two : State C) → Deletes rules old h reply one → Deletes rules old h reply two → one ≡ two
  deletes_one h (Deleted s) one two p q = joined one two _ p.3 q.3
  deletes_one h reply one two p q = absurd p

  enqueues_one : (h n : ℕ) (age : Age) (k : C) (reply : Reply C) (one two : State C) → Enqueues rules old h n age k reply one → Enqueues rules old h n age k reply two → one ≡ two
  enqueues_one h n age k (Dropped d s) one two p q = deletes_one h (Deleted s) one two p.3 q.3
  enqueues_one h n age k (Ignored d) one two p q = joined one two old p.3 q.3
  enqueues_one h n age k (Queued s) one two p q = joined one two _ p.4 q.4
  enqueues_one h n age k reply one two p q = absurd p

  waits_one : (f i : ℕ) (reply : Reply C) (one two : State C) → Waits rules old f i reply one → Waits rules old f i reply two → one ≡ two
  waits_one f i Done one two p q = joined one two _ p q
  waits_one f i reply one two p q = absurd p

  looks_one : (h : ℕ) (throttled : Bool) (slot : Option Slot) (reply : Reply C) (one two : State C) → Looks rules old h throttled slot reply one → Looks rules old h throttled slot reply two → one ≡ two
  looks_one h throttled None Miss one two p q = joined one two old p q
  looks_one h throttled (Some (Mark s)) Miss one two p q = joined one two old p q
  looks_one h throttled (Some (Indexed a)) Throttled one two p q = joined one two old p.1 q.1
  looks_one h throttled (Some (Indexed a)) Miss one two p q = joined one two _ p.2 q.2
  looks_one h throttled (Some (Indexed a)) (Read t) one two p q = joined one two _ p.3 q.3
  looks_one h throttled slot reply one two p q = absurd p

  judges_one : (t : Ticket) (x : Outcome C) (reply : Reply C) (one two : State C) → Judges rules old t x reply one → Judges rules old t x reply two → one ≡ two
  judges_one t NoRecord Miss one two p q = joined one two _ p q
  judges_one t (Holds k) (Entry d age) one two p q = joined one two old p.2 q.2
  judges_one t x reply one two p q = absurd p

  ends_one : (t : Ticket) (came : ReadResult) (reply : Reply C) (one two : State C) → Ends rules old t came reply one → Ends rules old t came reply two → one ≡ two
  ends_one t Fault reply one two p q = absurd p
  ends_one t (Bytes bs) reply one two p q = judges_one t (judged rules old t bs) reply one two p q

  takes_one : (f : ℕ) (queue : List (Submission C)) (reply : Reply C) (one two : State C) → TakesFront rules old f queue reply one → TakesFront rules old f queue reply two → one ≡ two
  takes_one f [] Empty one two p q = joined one two old p q
  takes_one f (Piece h s n k ∷ rest) (Received None) one two (bs, encoded, fits, eq) (bs', encoded', fits', eq') =
      eq ∙ ap (λ b. pushed_to rules old f rest (record { hash = h; sequence = s; bytes = b; source = Given k }))
      (let e : Some bs ≡ Some bs' = sym encoded ∙ encoded' in let g : bs ≡ bs' = cc in g) ∙ sym eq'
  takes_one f (Piece h s n k ∷ rest) (Received (Some d)) one two p q = joined one two _ p.2 q.2
  takes_one f (Remove h s invalidated ∷ rest) (Received None) one two p q = joined one two _ p q
  takes_one f (Await i ∷ rest) (Received None) one two p q = joined one two _ p q
  takes_one f (Reinsert h bytes a ∷ rest) (Received None) one two p q =
      elim p [
        | inl (held, fits, eq) ↦ elim q [ inl (held', fits', eq') ↦ joined one two _ eq eq' | inr (dropped, eq') ↦ absurd (dropped held fits) ]
        | inr (dropped, eq) ↦ elim q [ inl (held', fits', eq') ↦ absurd (dropped held' fits') | inr (dropped', eq') ↦ joined one two _ eq eq' ]
      ]
  takes_one f queue reply one two p q = absurd p

  begins_one : (f : ℕ) (reply : Reply C) (one two : State C) → Begins rules Splits old f reply one → Begins rules Splits old f reply two → one ≡ two
  begins_one f (Began blocks marks) one two p q = joined one two _ p.2 q.2
  begins_one f reply one two p q = absurd p

  issues_one : (f : ℕ) (batch : Option (Batch C)) (reply : Reply C) (one two : State C) → Describes rules old f batch reply one → Describes rules old f batch reply two → one ≡ two
  issues_one f (Some batch) NoBlock one two p q = joined one two _ p.3 q.3
  issues_one f (Some batch) (Written b writes) one two (s, rest, blocks, all, which) (s', rest', blocks', all', which') =
      elim which [
        | inl (on, own, eq) ↦ elim which' [
          | inl (on', own', eq') ↦ issued eq eq'
          | inr (inl (off', ready', eq')) ↦ absurd (let e : true ≡ false = sym on ∙ off' in cc)
          | inr (inr (off', none', free', eq')) ↦ absurd (let e : true ≡ false = sym on ∙ off' in cc)
        ]
        | inr (inl (off, ready, eq)) ↦ elim which' [
          | inl (on', own', eq') ↦ absurd (let e : true ≡ false = sym on' ∙ off in cc)
          | inr (inl (off', ready', eq')) ↦ issued eq eq'
          | inr (inr (off', none', free', eq')) ↦ absurd (let e : None ≡ Some b = sym none' ∙ ready in cc)
        ]
        | inr (inr (off, none, free, eq)) ↦ elim which' [
          | inl (on', own', eq') ↦ absurd (let e : true ≡ false = sym on' ∙ off in cc)
          | inr (inl (off', ready', eq')) ↦ absurd (let e : None ≡ Some b = sym none ∙ ready' in cc)
          | inr (inr (off', none', free', eq')) ↦ eq ∙ (λ i. record (block_issued rules old f b batch (same_s i) (same_rest i)) {
            filling = put old.filling b (old.filling b + 1);
            clean = without_id b old.clean;
            place = put (released (old.flushers f).own old.place) b (Writes f);
          }) ∙ sym eq'
        ]
      ]
    where
      same_blocks : s ∷ rest ≡ s' ∷ rest'
      same_blocks = sym blocks ∙ blocks'

      same_s : s ≡ s'
      same_s = let e : s ∷ rest ≡ s' ∷ rest' = same_blocks in cc

      same_rest : rest ≡ rest'
      same_rest = let e : s ∷ rest ≡ s' ∷ rest' = same_blocks in cc

      issued : one ≡ block_issued rules old f b batch s rest → two ≡ block_issued rules old f b batch s' rest' → one ≡ two
      issued eq eq' = eq ∙ (λ i. block_issued rules old f b batch (same_s i) (same_rest i)) ∙ sym eq'
  issues_one f batch reply one two p q = absurd p

  wrote_one : (f : ℕ) (good : Bool) (batch : Option (Batch C)) (reply : Reply C) (one two : State C) → Wrote rules old f good batch reply one → Wrote rules old f good batch reply two → one ≡ two
  wrote_one f true (Some batch) Next one two (r, first, second, rest, writing, left, eq) (r', first', second', rest', writing', left', eq') =
      eq ∙ (λ i. write_done rules old f batch (same_r i) (same_left i)) ∙ sym eq'
    where
      same_r : r ≡ r'
      same_r = let e : Some r ≡ Some r' = sym writing ∙ writing' in cc

      same_left : second ∷ rest ≡ second' ∷ rest'
      same_left = let e : first ∷ second ∷ rest ≡ first' ∷ second' ∷ rest' = sym left ∙ ap (λ w. w.left) same_r ∙ left' in cc
  wrote_one f true (Some batch) (Committed n) one two (r, last, writing, left, count, eq) (r', last', writing', left', count', eq') =
      eq ∙ ap (block_done rules old f batch) (let e : Some r ≡ Some r' = sym writing ∙ writing' in let g : r ≡ r' = cc in g) ∙ sym eq'
  wrote_one f good (Some batch) Failed one two (r, first, rest, writing, left, grown, eq) (r', first', rest', writing', left', grown', eq') = joined one two _ eq eq'
  wrote_one f good batch reply one two p q = absurd p

  logs_one : (f : ℕ) (well : Bool) (batch : Option (Batch C)) (reply : Reply C) (one two : State C) → Logs rules old f well batch reply one → Logs rules old f well batch reply two → one ≡ two
  logs_one f well (Some batch) Done one two p q = joined one two _ p q
  logs_one f well batch reply one two p q = absurd p

  finishes_one : (f : ℕ) (batch : Option (Batch C)) (reply : Reply C) (one two : State C) → Finishes rules old f batch reply one → Finishes rules old f batch reply two → one ≡ two
  finishes_one f (Some batch) (Ended pieces waits) one two p q = joined one two _ p.2 q.2
  finishes_one f batch reply one two p q = absurd p

  picks_one : (reply : Reply C) (one two : State C) → Picks rules old reply one → Picks rules old reply two → one ≡ two
  picks_one (Picked b answers probation) one two p q = joined one two _ p.4 q.4
  picks_one reply one two p q = absurd p

  -- the verdicts stand in the reply
  abbrev verdicts_in : Reply C → List Bool
  verdicts_in (Scans b o n verdicts) = verdicts
  verdicts_in (Listed verdicts) = verdicts
  verdicts_in reply = []

  verdicts_issued : (b : ℕ) (stage : Stage) (vs : List Bool) → verdicts_in (issued_at rules old b stage vs) ≡ vs
  verdicts_issued b (AtIndex place) vs = refl
  verdicts_issued b (AtRecord h a rest place) vs = refl
  verdicts_issued b AllListed vs = refl
  verdicts_issued b ToClean vs = refl

  lists_one : (b : ℕ) (r : Reclaim) (place : ℕ) (es : Option (List IndexEntry)) (reply : Reply C) (one two : State C) → Lists rules old b r place es reply one → Lists rules old b r place es reply two → one ≡ two
  lists_one b r place None reply one two p q = joined one two _ p.1 q.1
  lists_one b r place (Some es) reply one two (vs, count, issued, eq) (vs', count', issued', eq') =
      eq ∙ ap (λ v. reclaiming rules old b (record r { stage = stage_behind rules old b place es v; listed = addresses b (old.filling b) place es ++ r.listed }))
      (sym (verdicts_issued b (stage_behind rules old b place es vs) vs) ∙ ap verdicts_in (sym issued ∙ issued') ∙ verdicts_issued b (stage_behind rules old b place es vs') vs') ∙ sym eq'

  scanned_one : (b : ℕ) (r : Reclaim) (stage : Stage) (came : ReadResult) (reply : Reply C) (one two : State C) → Scanned rules old b r stage came reply one → Scanned rules old b r stage came reply two → one ≡ two
  scanned_one b r (AtIndex place) Fault reply one two p q = joined one two _ p.1 q.1
  scanned_one b r (AtRecord h a rest place) Fault reply one two p q = joined one two _ p.1 q.1
  scanned_one b r (AtIndex place) (Bytes bs) reply one two p q = lists_one b r place (rules.entries_of place bs) reply one two p q
  scanned_one b r (AtRecord h a rest place) (Bytes bs) reply one two p q = joined one two _ p.1 q.1
  scanned_one b r stage came reply one two p q = absurd p

  reads_one : (b : ℕ) (r : Option Reclaim) (came : ReadResult) (reply : Reply C) (one two : State C) → Rereads rules old b r came reply one → Rereads rules old b r came reply two → one ≡ two
  reads_one b None came reply one two p q = absurd p
  reads_one b (Some r) came reply one two p q = scanned_one b r r.stage came reply one two p q

  forgets_one : (b : ℕ) (r : Option Reclaim) (reply : Reply C) (one two : State C) → Forgets rules old b r reply one → Forgets rules old b r reply two → one ≡ two
  forgets_one b (Some r) (Cleans d) one two p q = joined one two _ p.1 q.1
  forgets_one b r reply one two p q = absurd p

  cleaned_one : (b : ℕ) (reply : Reply C) (one two : State C) → Cleaned rules old b reply one → Cleaned rules old b reply two → one ≡ two
  cleaned_one b Done one two p q =
      elim p [
        | inl (f, others, waits, room, eq) ↦ elim q [
          | inl (f', others', waits', room', eq') ↦
              (let same : (others ≡ others') × (f ≡ f') = same_last others others' f f' (sym waits ∙ waits') in
              eq ∙ (λ i. record (reclaimed rules old b) {
                waiting = same.0 i;
                place = put old.place b (Writes (same.1 i));
                filling = put old.filling b (old.filling b + 1);
                flushers = put old.flushers (same.1 i) (record (old.flushers (same.1 i)) { ready = Some b });
              }) ∙ sym eq')
          | inr (nobody', eq') ↦ absurd (elim nobody' [ inl none ↦ not_empty others f (sym waits ∙ none) | inr full ↦ omega arith ])
        ]
        | inr (nobody, eq) ↦ elim q [
          | inl (f', others', waits', room', eq') ↦ absurd (elim nobody [ inl none ↦ not_empty others' f' (sym waits' ∙ none) | inr full ↦ omega arith ])
          | inr (nobody', eq') ↦ joined one two _ eq eq'
        ]
      ]
  cleaned_one b reply one two p q = absurd p

  destroys_one : (reply : Reply C) (one two : State C) → BeginsDestroy rules old reply one → BeginsDestroy rules old reply two → one ≡ two
  destroys_one (Destroying s) one two p q = joined one two _ p.3 q.3
  destroys_one reply one two p q = absurd p

  clears_one : (reply : Reply C) (one two : State C) → Clears rules old reply one → Clears rules old reply two → one ≡ two
  clears_one (Cleared bs) one two p q = joined one two _ p.1 q.1
  clears_one reply one two p q = absurd p

  cleans_one : (b : ℕ) (well : Option Kind) (d : Destroy) (reply : Reply C) (one two : State C) → CleansOne rules old b well d reply one → CleansOne rules old b well d reply two → one ≡ two
  cleans_one b well (Cleaning left failed) reply one two p q = joined one two _ p.1 q.1
  cleans_one b well NoDestroy reply one two p q = absurd p
  cleans_one b well Begun reply one two p q = absurd p

  does_one : (step : Step C) (reply : Reply C) (one two : State C) → Changes rules Splits old step reply one → Changes rules Splits old step reply two → one ≡ two
  does_one (Enqueue h n age k) reply one two p q = enqueues_one h n age k reply one two p q
  does_one (Delete h) reply one two p q = deletes_one h reply one two p q
  does_one (Wait f i) reply one two p q = waits_one f i reply one two p q
  does_one (MayContains h) reply one two p q = joined one two old p.1 q.1
  does_one (LoadBegin h throttled) reply one two p q = looks_one h throttled (old.index h) reply one two p q
  does_one (LoadEnd t came) reply one two p q = ends_one t came reply one two p q
  does_one (Receive f) reply one two p q = takes_one f (old.flushers f).queue reply one two p q
  does_one (FlushBegin f) reply one two p q = begins_one f reply one two p q
  does_one (FlushBlock f) reply one two p q = issues_one f (old.flushers f).batch reply one two p q
  does_one (FlushWrote f good) reply one two p q = wrote_one f good (old.flushers f).batch reply one two p q
  does_one (LogWrote f well) reply one two p q = logs_one f well (old.flushers f).batch reply one two p q
  does_one (FlushEnd f) reply one two p q = finishes_one f (old.flushers f).batch reply one two p q
  does_one ReclaimBegin reply one two p q = picks_one reply one two p q
  does_one (ReclaimRead b came) reply one two p q = reads_one b (old.reclaims b) came reply one two p q
  does_one (ReclaimForget b) reply one two p q = forgets_one b (old.reclaims b) reply one two p q
  does_one (ReclaimCleaned b well) reply one two p q = cleaned_one b reply one two p q
  does_one ReclaimIdle reply one two p q = joined one two old p.1 q.1
  does_one DestroyBegin reply one two p q = destroys_one reply one two p q
  does_one DestroyClear reply one two p q = clears_one reply one two p q
  does_one (DestroyCleaned b well) reply one two p q = cleans_one b well old.destroy reply one two p q
  does_one Close reply one two p q = joined one two _ p.1 q.1

  pub follows_one : (one two : State C) (step : Step C) (reply : Reply C) → Follows rules Splits old step reply one → Follows rules Splits old step reply two → one ≡ two
  follows_one one two step (NotNow back) p q = joined one two old p.2 q.2
  follows_one one two step (Refused kind back) p q = joined one two old p.2 q.2
  follows_one one two step reply (few, turn, (done, does, eq)) (few', turn', (done', does', eq')) =
      eq ∙ ap {A = State C} (λ k. record k { steps = old.steps + 1 }) (does_one step reply done done' does does') ∙ sym eq'

pub is_determined_lem : {C : Type 0} (rules : Rules C) (Splits : Splitting C) → IsDetermined rules Splits
is_determined_lem rules Splits old one two step reply p q = follows_one rules Splits old one two step reply p q

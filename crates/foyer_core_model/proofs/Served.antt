-- What a flusher always has: so that its next step has a reply.
use Rattle.std.proofs.Common.{◌≡◌, ◌≢◌, ℕ, Bool, true, false, List, [], ◌∷◌, ◌++◌, length, take, Option, Some, None, inl, inr, refl, sym, ap, subst, ◌∙◌}
use Rattle.foyer_core_model.specs.Kind.{Kind}
use Rattle.foyer_core_model.specs.Numbers.{put}
use Rattle.foyer_core_model.specs.Record.{Slot, Indexed, Mark, Outcome, NoRecord, Holds, IndexEntry, Record}
use Rattle.foyer_format_layout.specs.BlockBytes.{Write}
use Rattle.foyer_core_model.specs.Position.{records_in}
use Rattle.foyer_core_model.specs.State.{Submission, Piece, Remove, Await, Reinsert, Writing, Batch, Flusher, Stage, AtIndex, AtRecord, AllListed, ToClean, Reclaim, Destroy, NoDestroy, Begun, Cleaning, State}
use Rattle.foyer_core_model.specs.Rules.{Rules, flusher_of, Splitting}
use Rattle.foyer_core_model.specs.Step.{ReadResult, Bytes, Fault, Age, Ticket, Step, Enqueue, Delete, Wait, MayContains, LoadBegin, LoadEnd, Receive, FlushBegin, FlushBlock, FlushWrote, LogWrote, FlushEnd, ReclaimBegin, ReclaimRead, ReclaimForget, ReclaimCleaned, ReclaimIdle, DestroyBegin, DestroyClear, DestroyCleaned, Close}
use Rattle.foyer_core_model.specs.Reply.{Reply, NotNow, Refused, Ignored, Queued, Dropped, Deleted, Done, Miss, Throttled, Read, Entry, Empty, Received, Began, Written, NoBlock, Next, Committed, Failed, Ended, Picked, Cleans, Destroying, Cleared}
use Rattle.foyer_core_model.specs.Widths.{RecordsHaveWidths, StateHasWidths}
use Rattle.foyer_core_model.specs.Layout.{writes_in, FitsBlock, AllFitBlock, KeepsRecords, MayBegin}
use Rattle.foyer_core_model.specs.Layout.MayBegin.{empty_block, after_batch}
use Rattle.foyer_core_model.specs.Queue.{invalidated_by, queued, Enqueues, Deletes, Waits}
use Rattle.foyer_core_model.specs.Load.{Looks, judged, Judges, Ends}
use Rattle.foyer_core_model.specs.Receive.{TakesFront}
use Rattle.foyer_core_model.specs.Flush.{is_some, writing_of, Begins, block_issued, Describes, Wrote, Logs, Finishes}
use Rattle.foyer_core_model.specs.Reclaim.{Picks, Lists, Scanned, Rereads, Forgets, Cleaned}
use Rattle.foyer_core_model.specs.Destroy.{BeginsDestroy, Clears, CleansOne}
use Rattle.foyer_core_model.specs.InTurn.{MayClear, InTurn}
use Rattle.foyer_core_model.specs.Changes.{Changes}
use Rattle.foyer_core_model.specs.Follows.{Follows}
use Rattle.foyer_core_model.specs.Access.{came}
use Rattle.foyer_core_model.specs.World.{World, WorldEvent, Applies, ReadBegins, ReadEnds, ScanBegins, ScanEnds, WriteBegins, WriteEnds, CleanBegins, CleanEnds, after, after_all, MayHappen, MayAllHappen}
use Rattle.foyer_core_model.specs.Opened.{IsOpened}
use Rattle.foyer_core_model.specs.Laws.{IsReached}
use Rattle.foyer_core_model.proofs.Basics.{put_one}
use Rattle.foyer_core_model.proofs.Invariant.{writing_in, goes_on_in}
use Rattle.foyer_core_model.proofs.FlushEnds.{failed}
use Rattle.foyer_core_model.proofs.Widths.{event_wide, opened_wide}

-- The flusher has its own block if its batch continues in it, and writes are left if a block is written. The buffer's records
-- fit into a block, and the splitter continues where a batch may begin.
pub record IsServed {C : Type 0} (rules : Rules C) (Splits : Splitting C) (φ : Flusher C) : Type 0 where
  pub owner : goes_on_in φ.batch ≡ true → (b : ℕ) × (φ.own ≡ Some b)
  pub some : (w : Writing C) → writing_in φ.batch ≡ Some w → w.left ≢ []
  pub fit : AllFitBlock rules φ.buffer
  pub begins : MayBegin rules Splits φ.context

module _ {C : Type 0} (rules : Rules C) (Splits : Splitting C) where
  fit_more : (rs : List (Record C)) (r : Record C) → FitsBlock rules r.bytes → AllFitBlock rules rs → AllFitBlock rules (rs ++ r ∷ [])
  fit_more [] r fits ok = (fits, tt)
  fit_more (q ∷ rs) r fits ok = (ok.0, fit_more rs r fits ok.1)

  -- one flusher changes
  one_served : (c : State C) (f : ℕ) (ψ : Flusher C) → (IsServed rules Splits (c.flushers f) → IsServed rules Splits ψ) → ((q : ℕ) → IsServed rules Splits (c.flushers q)) → (q : ℕ) → IsServed rules Splits (put c.flushers f ψ q)
  one_served c f ψ change ok = put_one (λ q φ. IsServed rules Splits φ) c.flushers f ψ (change (ok f)) (λ q _. ok q)

  served_as : (new expr : State C) → new ≡ expr → ((q : ℕ) → IsServed rules Splits (expr.flushers q)) → (q : ℕ) → IsServed rules Splits (new.flushers q)
  served_as new expr eq ok = subst (λ c. (q : ℕ) → IsServed rules Splits (c.flushers q)) (sym eq) ok

  -- only its queue and what it keeps change
  same_served : (φ ψ : Flusher C) → ψ.batch ≡ φ.batch → ψ.own ≡ φ.own → ψ.buffer ≡ φ.buffer → ψ.context ≡ φ.context → IsServed rules Splits φ → IsServed rules Splits ψ
  same_served φ ψ batch own buffer context ok = record {
    owner = λ is. let r : (b : ℕ) × (φ.own ≡ Some b) = ok.owner (sym (ap goes_on_in batch) ∙ is) in (r.0, own ∙ r.1);
    some = λ w is. ok.some w (sym (ap writing_in batch) ∙ is);
    fit = subst (AllFitBlock rules) (sym buffer) ok.fit;
    begins = subst (MayBegin rules Splits) (sym context) ok.begins;
  }

  queued_served : (c new : State C) (f : ℕ) (sub : Submission C) → new.flushers ≡ (queued rules c f sub).flushers → ((q : ℕ) → IsServed rules Splits (c.flushers q)) → (q : ℕ) → IsServed rules Splits (new.flushers q)
  queued_served c new f sub eq ok = subst (λ fs. (q : ℕ) → IsServed rules Splits (fs q)) (sym eq)
      (one_served c f (record (c.flushers f) { queue = (c.flushers f).queue ++ sub ∷ [] }) (same_served (c.flushers f) _ refl refl refl refl) ok)

  takes_served : (c new : State C) (f : ℕ) (queue : List (Submission C)) (reply : Reply C) → TakesFront rules c f queue reply new → ((q : ℕ) → IsServed rules Splits (c.flushers q)) → (q : ℕ) → IsServed rules Splits (new.flushers q)
  takes_served c new f [] Empty ok served = served_as new c ok served
  takes_served c new f (Piece h s n k ∷ rest) (Received None) (bytes, encoded, fits, eq) served =
      served_as new _ eq (one_served c f _ (λ t. record { owner = t.owner; some = t.some; fit = fit_more (c.flushers f).buffer _ fits.1 t.fit; begins = t.begins }) served)
  takes_served c new f (Piece h s n k ∷ rest) (Received (Some d)) ok served = served_as new _ ok.2 (one_served c f _ (same_served (c.flushers f) _ refl refl refl refl) served)
  takes_served c new f (Remove h s invalidated ∷ rest) (Received None) ok served = served_as new _ ok (one_served c f _ (same_served (c.flushers f) _ refl refl refl refl) served)
  takes_served c new f (Await i ∷ rest) (Received None) ok served = served_as new _ ok (one_served c f _ (same_served (c.flushers f) _ refl refl refl refl) served)
  takes_served c new f (Reinsert h bytes a ∷ rest) (Received None) ok served =
      elim ok [
        | inl (held, fits, eq) ↦ served_as new _ eq (one_served c f _ (λ t. record { owner = t.owner; some = t.some; fit = fit_more (c.flushers f).buffer _ fits.1 t.fit; begins = t.begins }) served)
        | inr (dropped, eq) ↦ served_as new _ eq (one_served c f _ (same_served (c.flushers f) _ refl refl refl refl) served)
      ]
  takes_served c new f queue reply ok served = absurd ok

  some_is : (own : Option ℕ) → is_some own ≡ true → (b : ℕ) × (own ≡ Some b)
  some_is None e = absurd (let f : false ≡ true = e in cc)
  some_is (Some b) e = (b, refl)

  begins_served : (c new : State C) (f : ℕ) (reply : Reply C) → RecordsHaveWidths (c.flushers f).buffer → Begins rules Splits c f reply new → ((q : ℕ) → IsServed rules Splits (c.flushers q)) → (q : ℕ) → IsServed rules Splits (new.flushers q)
  begins_served c new f (Began blocks marks) widths ok served = served_as new _ ok.2 (one_served c f _ (λ t. record {
    owner = some_is (c.flushers f).own;
    some = λ w is. absurd (let e : None ≡ Some w = is in cc);
    fit = tt;
    begins = after_batch t.begins widths t.fit ok.1;
  }) served)
  begins_served c new f reply widths ok served = absurd ok

  abbrev left_or : List Write → Option (Writing C) → List Write
  left_or ws None = ws
  left_or ws (Some r) = r.left

  written_some : (b : ℕ) (ws : List Write) (ps : List (ℕ × Record C)) (w : Writing C) → writing_of b ws ps ≡ Some w → w.left ≢ []
  written_some b [] ps w is = absurd (let e : None ≡ Some w = is in cc)
  written_some b (v ∷ vs) ps w is = λ none. let e : v ∷ vs ≡ [] = ap (left_or (v ∷ vs)) is ∙ none in cc

  issues_served : (c new : State C) (f : ℕ) (batch : Option (Batch C)) (reply : Reply C) → (c.flushers f).batch ≡ batch → Describes rules c f batch reply new → ((q : ℕ) → IsServed rules Splits (c.flushers q)) → (q : ℕ) → IsServed rules Splits (new.flushers q)
  issues_served c new f (Some batch) NoBlock is ok served = served_as new _ ok.3 (one_served c f _ (λ t. record {
    owner = λ e. absurd (let g : false ≡ true = sym (ap goes_on_in is ∙ ok.0) ∙ e in cc);
    some = t.some;
    fit = t.fit;
    begins = t.begins;
  }) served)
  issues_served c new f (Some batch) (Written b writes) is (s, rest, blocks, all, which) served =
      elim which [
        | inl (continues_own_block, own, eq) ↦ served_as new _ eq issued
        | inr (inl (fresh, ready, eq)) ↦ served_as new _ eq issued
        | inr (inr (fresh, ready, free, eq)) ↦ served_as new _ eq issued
      ]
    where
      issued : (q : ℕ) → IsServed rules Splits ((block_issued rules c f b batch s rest).flushers q)
      issued = one_served c f _ (λ t. record {
        owner = λ e. absurd (let g : false ≡ true = e in cc);
        some = λ w. written_some b (writes_in rules s.parts) (records_in s.parts) w;
        fit = t.fit;
        begins = t.begins;
      }) served
  issues_served c new f batch reply is ok served = absurd ok

  wrote_served : (c new : State C) (f : ℕ) (good : Bool) (batch : Option (Batch C)) (reply : Reply C) → (c.flushers f).batch ≡ batch → Wrote rules c f good batch reply new → ((q : ℕ) → IsServed rules Splits (c.flushers q)) → (q : ℕ) → IsServed rules Splits (new.flushers q)
  wrote_served c new f true (Some batch) Next is (r, first, second, rest, writing, left, eq) served = served_as new _ eq (one_served c f _ (λ t. record {
    owner = λ e. t.owner (ap goes_on_in is ∙ e);
    some = λ w same none. let e : second ∷ rest ≡ [] = ap (left_or (second ∷ rest)) same ∙ none in cc;
    fit = t.fit;
    begins = t.begins;
  }) served)
  wrote_served c new f true (Some batch) (Committed n) is (r, last, writing, left, count, eq) served = served_as new _ eq (one_served c f _ (λ t. record {
    owner = λ e. t.owner (ap goes_on_in is ∙ e);
    some = λ w same. absurd (let e : None ≡ Some w = same in cc);
    fit = t.fit;
    begins = t.begins;
  }) served)
  wrote_served c new f good (Some batch) Failed is (r, first, rest, writing, left, grown, eq) served = served_as new _ eq (one_served c f _ (λ t. record {
    owner = λ e. absurd (let g : false ≡ true = e in cc);
    some = λ w same. absurd (let e : None ≡ Some w = same in cc);
    fit = t.fit;
    begins = empty_block;
  }) served)
  wrote_served c new f good batch reply is ok served = absurd ok

  logs_served : (c new : State C) (f : ℕ) (well : Bool) (batch : Option (Batch C)) (reply : Reply C) → (c.flushers f).batch ≡ batch → Logs rules c f well batch reply new → ((q : ℕ) → IsServed rules Splits (c.flushers q)) → (q : ℕ) → IsServed rules Splits (new.flushers q)
  logs_served c new f well (Some batch) Done is ok served = served_as new _ ok (one_served c f _ (λ t. record {
    owner = λ e. t.owner (ap goes_on_in is ∙ e);
    some = λ w same. t.some w (ap writing_in is ∙ same);
    fit = t.fit;
    begins = t.begins;
  }) served)
  logs_served c new f well batch reply is ok served = absurd ok

  finishes_served : (c new : State C) (f : ℕ) (batch : Option (Batch C)) (reply : Reply C) → Finishes rules c f batch reply new → ((q : ℕ) → IsServed rules Splits (c.flushers q)) → (q : ℕ) → IsServed rules Splits (new.flushers q)
  finishes_served c new f (Some batch) (Ended pieces waits) ok served = served_as new _ ok.2 (one_served c f _ (λ t. record {
    owner = λ e. absurd (let g : false ≡ true = e in cc);
    some = λ w same. absurd (let e : None ≡ Some w = same in cc);
    fit = t.fit;
    begins = t.begins;
  }) served)
  finishes_served c new f batch reply ok served = absurd ok

  reads_served : (c new : State C) (b : ℕ) (r : Option Reclaim) (came : ReadResult) (reply : Reply C) → Rereads rules c b r came reply new → ((q : ℕ) → IsServed rules Splits (c.flushers q)) → (q : ℕ) → IsServed rules Splits (new.flushers q)
  reads_served c new b None came reply ok served = absurd ok
  reads_served c new b (Some r) came reply ok served = scanned r.stage came ok
    where
      lists : (place : ℕ) (es : Option (List IndexEntry)) → Lists rules c b r place es reply new → (q : ℕ) → IsServed rules Splits (new.flushers q)
      lists place None given = served_as new _ given.1 served
      lists place (Some es) given = served_as new _ given.3 served

      scanned : (stage : Stage) (came : ReadResult) → Scanned rules c b r stage came reply new → (q : ℕ) → IsServed rules Splits (new.flushers q)
      scanned (AtIndex place) Fault given = served_as new _ given.1 served
      scanned (AtRecord h a rest place) Fault given = served_as new _ given.1 served
      scanned (AtIndex place) (Bytes bs) given = lists place (rules.entries_of place bs) given
      scanned (AtRecord h a rest place) (Bytes bs) given = queued_served c new (flusher_of rules (length r.requeued)) (Reinsert h (take a.len bs) a) (ap (λ k. k.flushers) given.1) served
      scanned AllListed came given = absurd given
      scanned ToClean came given = absurd given

  looks_served : (c new : State C) (h : ℕ) (throttled : Bool) (slot : Option Slot) (reply : Reply C) → Looks rules c h throttled slot reply new → ((q : ℕ) → IsServed rules Splits (c.flushers q)) → (q : ℕ) → IsServed rules Splits (new.flushers q)
  looks_served c new h throttled None Miss ok served = served_as new c ok served
  looks_served c new h throttled (Some (Mark s)) Miss ok served = served_as new c ok served
  looks_served c new h throttled (Some (Indexed a)) Throttled ok served = served_as new c ok.1 served
  looks_served c new h throttled (Some (Indexed a)) Miss ok served = served_as new _ ok.2 served
  looks_served c new h throttled (Some (Indexed a)) (Read t) ok served = served_as new _ ok.3 served
  looks_served c new h throttled slot reply ok served = absurd ok

  ends_served : (c new : State C) (t : Ticket) (came : ReadResult) (reply : Reply C) → Ends rules c t came reply new → ((q : ℕ) → IsServed rules Splits (c.flushers q)) → (q : ℕ) → IsServed rules Splits (new.flushers q)
  ends_served c new t Fault reply ok served = absurd ok
  ends_served c new t (Bytes bs) reply ok served = judges (judged rules c t bs) reply ok
    where
      judges : (x : Outcome C) (reply : Reply C) → Judges rules c t x reply new → (q : ℕ) → IsServed rules Splits (new.flushers q)
      judges NoRecord Miss given = served_as new _ given served
      judges (Holds k) (Entry d age) given = served_as new c given.2 served
      judges x reply given = absurd given

  deletes_served : (c new : State C) (h : ℕ) (reply : Reply C) → Deletes rules c h reply new → ((q : ℕ) → IsServed rules Splits (c.flushers q)) → (q : ℕ) → IsServed rules Splits (new.flushers q)
  deletes_served c new h (Deleted s) ok served = queued_served c new (flusher_of rules h) (Remove h s (invalidated_by rules s (c.index h))) (ap (λ k. k.flushers) ok.3) served
  deletes_served c new h reply ok served = absurd ok

  enqueues_served : (c new : State C) (h n : ℕ) (age : Age) (k : C) (reply : Reply C) → Enqueues rules c h n age k reply new → ((q : ℕ) → IsServed rules Splits (c.flushers q)) → (q : ℕ) → IsServed rules Splits (new.flushers q)
  enqueues_served c new h n age k (Dropped d s) ok served = deletes_served c new h (Deleted s) ok.3 served
  enqueues_served c new h n age k (Ignored d) ok served = served_as new c ok.3 served
  enqueues_served c new h n age k (Queued s) ok served = queued_served c new (flusher_of rules h) (Piece h s n k) (ap (λ k. k.flushers) ok.4) served
  enqueues_served c new h n age k reply ok served = absurd ok

  waits_served : (c new : State C) (f i : ℕ) (reply : Reply C) → Waits rules c f i reply new → ((q : ℕ) → IsServed rules Splits (c.flushers q)) → (q : ℕ) → IsServed rules Splits (new.flushers q)
  waits_served c new f i Done ok served = queued_served c new f (Await i) (ap (λ k. k.flushers) ok) served
  waits_served c new f i reply ok served = absurd ok

  destroys_served : (c new : State C) (reply : Reply C) → BeginsDestroy rules c reply new → ((q : ℕ) → IsServed rules Splits (c.flushers q)) → (q : ℕ) → IsServed rules Splits (new.flushers q)
  destroys_served c new (Destroying s) ok served = queued_served c new (flusher_of rules 0) (Remove 0 s []) (ap (λ k. k.flushers) ok.3) served
  destroys_served c new reply ok served = absurd ok

  picks_served : (c new : State C) (reply : Reply C) → Picks rules c reply new → ((q : ℕ) → IsServed rules Splits (c.flushers q)) → (q : ℕ) → IsServed rules Splits (new.flushers q)
  picks_served c new (Picked b answers probation) ok served = served_as new _ ok.4 served
  picks_served c new reply ok served = absurd ok

  forgets_served : (c new : State C) (b : ℕ) (r : Option Reclaim) (reply : Reply C) → Forgets rules c b r reply new → ((q : ℕ) → IsServed rules Splits (c.flushers q)) → (q : ℕ) → IsServed rules Splits (new.flushers q)
  forgets_served c new b (Some r) (Cleans d) ok served = served_as new _ ok.1 served
  forgets_served c new b r reply ok served = absurd ok

  cleaned_served : (c new : State C) (b : ℕ) (reply : Reply C) → Cleaned rules c b reply new → ((q : ℕ) → IsServed rules Splits (c.flushers q)) → (q : ℕ) → IsServed rules Splits (new.flushers q)
  cleaned_served c new b Done ok served =
      elim ok [
        | inl (f, others, waits, room, eq) ↦ served_as new _ eq (one_served c f _ (same_served (c.flushers f) _ refl refl refl refl) served)
        | inr (nobody, eq) ↦ served_as new _ eq served
      ]
  cleaned_served c new b reply ok served = absurd ok

  clears_served : (c new : State C) (reply : Reply C) → MayClear c → Clears rules c reply new → ((q : ℕ) → IsServed rules Splits (c.flushers q)) → (q : ℕ) → IsServed rules Splits (new.flushers q)
  clears_served c new (Cleared bs) may ok served = served_as new _ ok.1 (λ f. record {
    owner = λ e. absurd (let g : false ≡ true = sym (ap goes_on_in ((may.1 f).4)) ∙ e in cc);
    some = (served f).some;
    fit = (served f).fit;
    begins = empty_block;
  })
  clears_served c new reply may ok served = absurd ok

  cleans_served : (c new : State C) (b : ℕ) (well : Option Kind) (d : Destroy) (reply : Reply C) → CleansOne rules c b well d reply new → ((q : ℕ) → IsServed rules Splits (c.flushers q)) → (q : ℕ) → IsServed rules Splits (new.flushers q)
  cleans_served c new b well (Cleaning left failed) reply ok served = served_as new _ ok.1 served
  cleans_served c new b well NoDestroy reply ok served = absurd ok
  cleans_served c new b well Begun reply ok served = absurd ok

  does_served : (c new : State C) (step : Step C) (reply : Reply C) → StateHasWidths c → InTurn rules c step → Changes rules Splits c step reply new → ((q : ℕ) → IsServed rules Splits (c.flushers q)) → (q : ℕ) → IsServed rules Splits (new.flushers q)
  does_served c new (Enqueue h n age k) reply wide turn ok served = enqueues_served c new h n age k reply ok served
  does_served c new (Delete h) reply wide turn ok served = deletes_served c new h reply ok served
  does_served c new (Wait f i) reply wide turn ok served = waits_served c new f i reply ok served
  does_served c new (MayContains h) reply wide turn ok served = served_as new c ok.1 served
  does_served c new (LoadBegin h throttled) reply wide turn ok served = looks_served c new h throttled (c.index h) reply ok served
  does_served c new (LoadEnd t came) reply wide turn ok served = ends_served c new t came reply ok served
  does_served c new (Receive f) reply wide turn ok served = takes_served c new f (c.flushers f).queue reply ok served
  does_served c new (FlushBegin f) reply wide turn ok served = begins_served c new f reply (wide.flushers f).buffer ok served
  does_served c new (FlushBlock f) reply wide turn ok served = issues_served c new f (c.flushers f).batch reply refl ok served
  does_served c new (FlushWrote f good) reply wide turn ok served = wrote_served c new f good (c.flushers f).batch reply refl ok served
  does_served c new (LogWrote f well) reply wide turn ok served = logs_served c new f well (c.flushers f).batch reply refl ok served
  does_served c new (FlushEnd f) reply wide turn ok served = finishes_served c new f (c.flushers f).batch reply ok served
  does_served c new ReclaimBegin reply wide turn ok served = picks_served c new reply ok served
  does_served c new (ReclaimRead b came) reply wide turn ok served = reads_served c new b (c.reclaims b) came reply ok served
  does_served c new (ReclaimForget b) reply wide turn ok served = forgets_served c new b (c.reclaims b) reply ok served
  does_served c new (ReclaimCleaned b well) reply wide turn ok served = cleaned_served c new b reply ok served
  does_served c new ReclaimIdle reply wide turn ok served = served_as new c ok.1 served
  does_served c new DestroyBegin reply wide turn ok served = destroys_served c new reply ok served
  does_served c new DestroyClear reply wide turn ok served = clears_served c new reply turn ok served
  does_served c new (DestroyCleaned b well) reply wide turn ok served = cleans_served c new b well c.destroy reply ok served
  does_served c new Close reply wide turn ok served = served_as new _ ok.1 served

  follows_served : (c new : State C) (step : Step C) (reply : Reply C) → StateHasWidths c → Follows rules Splits c step reply new → ((q : ℕ) → IsServed rules Splits (c.flushers q)) → (q : ℕ) → IsServed rules Splits (new.flushers q)
  follows_served c new step (NotNow back) wide ok served = served_as new c ok.2 served
  follows_served c new step (Refused kind back) wide ok served = served_as new c ok.2 served
  follows_served c new step reply wide (few, turn, (done, does, eq)) served = served_as new _ eq (does_served c done step reply wide turn does served)

  pub event_served : (is_value : C → Type 0) (w : World C) (e : WorldEvent C) → StateHasWidths w.core → MayHappen rules Splits is_value w e → ((q : ℕ) → IsServed rules Splits (w.core.flushers q)) → (q : ℕ) → IsServed rules Splits ((after rules w e).core.flushers q)
  event_served is_value w (Applies step reply new) wide ok served = follows_served w.core new step reply wide ok.1 served
  event_served is_value w (ReadBegins n) wide ok served = served
  event_served is_value w (ReadEnds n result) wide ok served = served
  event_served is_value w (ScanBegins b) wide ok served = served
  event_served is_value w (ScanEnds b result) wide ok served = served
  event_served is_value w (WriteBegins f) wide ok served = served
  event_served is_value w (WriteEnds f good g) wide ok served = served
  event_served is_value w (CleanBegins b) wide ok served = served
  event_served is_value w (CleanEnds b good g) wide ok served = served

  all_served : (is_value : C → Type 0) → KeepsRecords rules Splits → (w : World C) (events : List (WorldEvent C)) → StateHasWidths w.core → MayAllHappen rules Splits is_value w events → ((q : ℕ) → IsServed rules Splits (w.core.flushers q)) → (q : ℕ) → IsServed rules Splits ((after_all rules w events).core.flushers q)
  all_served is_value keeps w [] wide ok served = served
  all_served is_value keeps w (e ∷ es) wide ok served =
      all_served is_value keeps (after rules w e) es (event_wide rules Splits is_value keeps w e ok.0 wide) ok.1 (event_served is_value w e wide ok.0 served)

  pub opened_served : (w : World C) → IsOpened rules w → (q : ℕ) → IsServed rules Splits (w.core.flushers q)
  opened_served w opened q = subst (IsServed rules Splits) (sym (opened.flushers q)) (record {
    owner = λ e. absurd (let g : false ≡ true = e in cc);
    some = λ w is. absurd (let e : None ≡ Some w = is in cc);
    fit = tt;
    begins = empty_block;
  })

  pub reached_served : (is_value : C → Type 0) (w : World C) → KeepsRecords rules Splits → IsReached rules Splits is_value w → (q : ℕ) → IsServed rules Splits (w.core.flushers q)
  reached_served is_value w keeps reached = subst (λ v. (q : ℕ) → IsServed rules Splits (v.core.flushers q)) reached.is
      (all_served is_value keeps reached.first reached.events (opened_wide rules Splits reached.first reached.opened) reached.happened (opened_served reached.first reached.opened))

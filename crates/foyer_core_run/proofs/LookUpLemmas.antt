-- Each load was issued by a look-up.
use Rattle.std.proofs.Common.{◌≡◌, ℕ, ◌==◌, Bool, true, false, List, [], ◌∷◌, ◌++◌, ◌⊎◌, inl, inr, Option, Some, None, refl, sym, ap, subst, ◌∙◌, arith}
use Rattle.std.proofs.lemmas.Bool.Decides.{nat_tests}
use Rattle.foyer_core_model.specs.Kind.{Kind}
use Rattle.foyer_core_model.specs.Access.{Load, ReadState, at_load, begun, came, load_unless, read_torn, will_cover, clean_will_cover}
use Rattle.foyer_core_model.specs.Destroy.{CleansOne, issued_after_clean}
use Rattle.foyer_core_model.specs.Changes.{Changes}
use Rattle.foyer_core_model.specs.Flush.{Finishes, Logs, Describes, Wrote}
use Rattle.foyer_core_model.specs.Ids.{without_id}
use Rattle.foyer_core_model.specs.Kept.{unless}
use Rattle.foyer_core_model.specs.Load.{Ends, Judges, judged}
use Rattle.foyer_core_model.specs.Numbers.{put}
use Rattle.foyer_core_model.specs.Receive.{TakesFront}
use Rattle.foyer_core_model.specs.Reclaim.{Forgets, Lists, Rereads, Scanned, stage_after, stage_behind, issued_at}
use Rattle.foyer_core_model.specs.Record.{IndexEntry, Outcome, NoRecord, NotSupported, Undecodable, Holds}
use Rattle.foyer_core_model.specs.Reply.{Reply, Read, Picked, Cleared, Done, Listed}
use Rattle.foyer_core_model.specs.Rules.{Rules, Splitting}
use Rattle.foyer_core_model.specs.State.{Batch, Destroy, NoDestroy, Begun, Cleaning, Piece, Remove, Await, Reinsert, Reclaim, Stage, AtIndex, AtRecord, AllListed, ToClean, State, Submission}
use Rattle.foyer_core_model.specs.Step.{ReadResult, Bytes, Fault, Ticket, Step, Enqueue, Delete, Wait, MayContains, LoadBegin, LoadEnd, Receive, FlushBegin, FlushBlock, FlushWrote, LogWrote, FlushEnd, ReclaimBegin, ReclaimRead, ReclaimForget, ReclaimCleaned, ReclaimIdle, DestroyBegin, DestroyClear, DestroyCleaned, Close}
use Rattle.foyer_core_model.specs.World.{World, WorldEvent, Applies, ReadBegins, ReadEnds, ScanBegins, ScanEnds, WriteBegins, WriteEnds, CleanBegins, CleanEnds, MayHappen, MayAllHappen, after, after_all, covers}
use Rattle.foyer_core_model.proofs.Basics.{put_at, put_other, put_same}
use Rattle.foyer_core_steps.proofs.ListLemmas.{some_is}
use Rattle.foyer_core_run.proofs.ListLemmas.{append_none, append_twice}
use Rattle.foyer_core_run.proofs.RunLemmas.{after_more}

-- a look-up
abbrev IsLookUp : {C : Type 0} → Step C → Type 0
IsLookUp (LoadBegin h throttled) = Unit {0}
IsLookUp given = ⊥

look_up_is : {C : Type 0} (given : Step C) → IsLookUp given → (h : ℕ) × (throttled : Bool) × (given ≡ LoadBegin h throttled)
look_up_is (LoadBegin h throttled) is = (h, throttled, refl)
look_up_is given is = absurd is

module _ {C : Type 0} (rules : Rules C) (Splits : Splitting C) (is_value : C → Type 0) where
  module _ (old : State C) (t : Ticket) (new : State C) where
    abbrev issued : Reply C
    issued = Read t

    takes_none : (f : ℕ) (queue : List (Submission C)) → TakesFront rules old f queue (Read t) new → ⊥
    takes_none f [] ok = ok
    takes_none f (Piece h s n c ∷ rest) ok = ok
    takes_none f (Remove h s invalidated ∷ rest) ok = ok
    takes_none f (Await i ∷ rest) ok = ok
    takes_none f (Reinsert h bytes a ∷ rest) ok = ok

    issues_none : (f : ℕ) (batch : Option (Batch C)) → Describes rules old f batch (Read t) new → ⊥
    issues_none f None ok = ok
    issues_none f (Some batch) ok = ok

    wrote_none : (f : ℕ) (is_ok : Bool) (batch : Option (Batch C)) → Wrote rules old f is_ok batch (Read t) new → ⊥
    wrote_none f true None ok = ok
    wrote_none f false None ok = ok
    wrote_none f true (Some batch) ok = ok
    wrote_none f false (Some batch) ok = ok

    logs_none : (f : ℕ) (is_ok : Bool) (batch : Option (Batch C)) → Logs rules old f is_ok batch (Read t) new → ⊥
    logs_none f is_ok None ok = ok
    logs_none f is_ok (Some batch) ok = ok

    finishes_none : (f : ℕ) (batch : Option (Batch C)) → Finishes rules old f batch (Read t) new → ⊥
    finishes_none f None ok = ok
    finishes_none f (Some batch) ok = ok

    judges_none : (u : Ticket) (x : Outcome C) → Judges rules old u x (Read t) new → ⊥
    judges_none u NoRecord ok = ok
    judges_none u NotSupported ok = ok
    judges_none u Undecodable ok = ok
    judges_none u (Holds c) ok = ok

    ends_none : (u : Ticket) (result : ReadResult) → Ends rules old u result (Read t) new → ⊥
    ends_none u Fault ok = ok
    ends_none u (Bytes bs) ok = judges_none u (judged rules old u bs) ok

    issued_none : (b : ℕ) (stage : Stage) (verdicts : List Bool) → issued ≡ issued_at rules old b stage verdicts → ⊥
    issued_none b (AtIndex place) verdicts e = cc
    issued_none b (AtRecord h a rest place) verdicts e = cc
    issued_none b AllListed verdicts e = cc
    issued_none b ToClean verdicts e = cc

    lists_none : (b : ℕ) (r : Reclaim) (place : ℕ) (es : Option (List IndexEntry)) → Lists rules old b r place es (Read t) new → ⊥
    lists_none b r place None ok = let e : issued ≡ Listed [] = ok.0 in cc
    lists_none b r place (Some es) ok = issued_none b (stage_behind rules old b place es ok.0) ok.0 ok.2

    scanned_none : (b : ℕ) (r : Reclaim) (stage : Stage) (result : ReadResult) → Scanned rules old b r stage result (Read t) new → ⊥
    scanned_none b r (AtIndex place) Fault ok = let e : issued ≡ Listed [] = ok.0 in cc
    scanned_none b r (AtRecord h a rest place) Fault ok = let e : issued ≡ Listed [] = ok.0 in cc
    scanned_none b r (AtIndex place) (Bytes bs) ok = lists_none b r place (rules.entries_of place bs) ok
    scanned_none b r (AtRecord h a rest place) (Bytes bs) ok = issued_none b (stage_after rules old rest place) [] ok.0
    scanned_none b r AllListed Fault ok = ok
    scanned_none b r AllListed (Bytes bs) ok = ok
    scanned_none b r ToClean Fault ok = ok
    scanned_none b r ToClean (Bytes bs) ok = ok

    rereads_none : (b : ℕ) (r : Option Reclaim) (result : ReadResult) → Rereads rules old b r result (Read t) new → ⊥
    rereads_none b None result ok = ok
    rereads_none b (Some r) result ok = scanned_none b r r.stage result ok

    forgets_none : (b : ℕ) (r : Option Reclaim) → Forgets rules old b r (Read t) new → ⊥
    forgets_none b None ok = ok
    forgets_none b (Some r) ok = ok

    cleaned_none : (left : List ℕ) (failed : Option Kind) → issued ≡ issued_after_clean left failed → ⊥
    cleaned_none [] failed e = cc
    cleaned_none (b ∷ bs) failed e = cc

    cleans_none : (b : ℕ) (is_ok : Option Kind) (destroy : Destroy) → CleansOne rules old b is_ok destroy (Read t) new → ⊥
    cleans_none b is_ok NoDestroy ok = ok
    cleans_none b is_ok Begun ok = ok
    cleans_none b is_ok (Cleaning left failed) ok = cleaned_none (without_id b left) _ ok.0

    -- a read is issued by a look-up alone
    no_read : (given : Step C) → Changes rules Splits old given (Read t) new → IsLookUp given
    no_read (Enqueue h n age c) ok = ok
    no_read (Delete h) ok = ok
    no_read (Wait f i) ok = ok
    no_read (MayContains h) ok = absurd (let e = ok.0 in cc)
    no_read (LoadBegin h throttled) ok = tt
    no_read (LoadEnd u result) ok = ends_none u result ok
    no_read (Receive f) ok = takes_none f (old.flushers f).queue ok
    no_read (FlushBegin f) ok = ok
    no_read (FlushBlock f) ok = issues_none f (old.flushers f).batch ok
    no_read (FlushWrote f is_ok) ok = wrote_none f is_ok (old.flushers f).batch ok
    no_read (LogWrote f is_ok) ok = logs_none f is_ok (old.flushers f).batch ok
    no_read (FlushEnd f) ok = finishes_none f (old.flushers f).batch ok
    no_read ReclaimBegin ok = ok
    no_read (ReclaimRead b result) ok = rereads_none b (old.reclaims b) result ok
    no_read (ReclaimForget b) ok = forgets_none b (old.reclaims b) ok
    no_read (ReclaimCleaned b is_ok) ok = ok
    no_read ReclaimIdle ok = absurd (let e = ok.0 in cc)
    no_read DestroyBegin ok = ok
    no_read DestroyClear ok = ok
    no_read (DestroyCleaned b is_ok) ok = cleans_none b is_ok old.destroy ok
    no_read Close ok = absurd (let e : issued ≡ Done = ok.0 in cc)

  -- a load of this ticket is in a table
  abbrev IsAt : Option (Load C) → Ticket → Type 0
  IsAt o t = (l : Load C) × (o ≡ Some l) × (l.ticket ≡ t)

  at_from : (f : ℕ → ReadState → ReadState) (o : Option (Load C)) (l : Load C) → at_load f o ≡ Some l → IsAt o l.ticket
  at_from f None l e = absurd (let g : None ≡ Some l = e in cc)
  at_from f (Some k) l e = (k, refl, ap (λ x. x.ticket) (some_is e))

  unless_from : (f : Option ℕ → Option ℕ) (o : Option (Load C)) (l : Load C) → load_unless f o ≡ Some l → IsAt o l.ticket
  unless_from f None l e = absurd (let g : None ≡ Some l = e in cc)
  unless_from f (Some k) l e = (k, refl, ap (λ x. x.ticket) (some_is e))

  -- the event is the look-up that issued this ticket, the n-th
  abbrev IsIssued : World C → WorldEvent C → ℕ → Ticket → Type 0
  IsIssued w e n t = (h : ℕ) × (throttled : Bool) × (looked : State C) × (e ≡ Applies (LoadBegin h throttled) (Read t) looked) × (w.issued ≡ n)

  -- one load's entry changes
  one_from : (loads : ℕ → Option (Load C)) (k n : ℕ) (f : ℕ → ReadState → ReadState) (l : Load C) → put loads k (at_load f (loads k)) n ≡ Some l → IsAt (loads n) l.ticket
  one_from loads k n f l =
      put_at (λ o. o ≡ Some l → IsAt (loads n) l.ticket) loads k (at_load f (loads k)) n
      (λ same e. subst (λ j. IsAt (loads j) l.ticket) (sym same) (at_from f (loads k) l e))
      (λ ne e. (l, e, refl))

  -- a load that a step leaves was there, or was issued by it
  step_from : (w : World C) (given : Step C) (answer : Reply C) (new : State C) (n : ℕ) (l : Load C) → MayHappen rules Splits is_value w (Applies given answer new)
      → (after rules w (Applies given answer new)).loads n ≡ Some l → IsAt (w.loads n) l.ticket ⊎ IsIssued w (Applies given answer new) n l.ticket
  step_from w given (Read t) new n l may is = go (n == w.issued) refl
    where
      go : (e : Bool) → (n == w.issued) ≡ e → IsAt (w.loads n) l.ticket ⊎ IsIssued w (Applies given (Read t) new) n l.ticket
      go true e =
          let same : n ≡ w.issued = grind (arith, nat_tests) in
          let found = some_is (sym (put_same w.loads w.issued _) ∙ ap (after rules w (Applies given (Read t) new)).loads (sym same) ∙ is) in
          let ticket : t ≡ l.ticket = ap (λ x. x.ticket) found in
          let look = look_up_is given (no_read w.core t ((may.1).2).0 given ((may.1).2).1) in
          inr (look.0, look.1, new, ap (λ g. Applies g (Read t) new) look.2 ∙ ap (λ u. Applies (LoadBegin look.0 look.1) (Read u) new) ticket, sym same)
      go false e =
          let ne : n ≡ w.issued → ⊥ = λ same. grind (arith, nat_tests) in
          inl (l, sym (put_other w.loads w.issued _ n ne) ∙ is, refl)
  step_from w given (Picked b answers probation) new n l may is = inl (unless_from (unless b) (w.loads n) l is)
  step_from w given (Cleared bs) new n l may is = inl (unless_from (λ o. None) (w.loads n) l is)
  step_from w given answer new n l may is = inl (l, is, refl)

  event_from : (w : World C) (e : WorldEvent C) (n : ℕ) (l : Load C) → MayHappen rules Splits is_value w e
      → (after rules w e).loads n ≡ Some l → IsAt (w.loads n) l.ticket ⊎ IsIssued w e n l.ticket
  event_from w (Applies given answer new) n l may is = step_from w given answer new n l may is
  event_from w (ReadBegins k) n l may is = inl (one_from w.loads k n (begun (covers rules w)) l is)
  event_from w (ReadEnds k result) n l may is = inl (one_from w.loads k n (λ _. came result) l is)
  event_from w (ScanBegins b) n l may is = inl (l, is, refl)
  event_from w (ScanEnds b result) n l may is = inl (l, is, refl)
  event_from w (WriteBegins f) n l may is = inl (at_from (read_torn (will_cover (w.block_writes f))) (w.loads n) l is)
  event_from w (WriteEnds f ok torn) n l may is = inl (l, is, refl)
  event_from w (CleanBegins b) n l may is = inl (at_from (read_torn (clean_will_cover b (w.clean_states b))) (w.loads n) l is)
  event_from w (CleanEnds b ok torn) n l may is = inl (l, is, refl)

  -- a look-up among these events issued the n-th ticket
  pub record IsLookedUp (first : World C) (events : List (WorldEvent C)) (n : ℕ) (t : Ticket) : Type 0 where
    pub earlier : List (WorldEvent C)
    pub between : List (WorldEvent C)
    pub hash : ℕ
    pub throttled : Bool
    pub looked : State C
    pub is : events ≡ earlier ++ Applies (LoadBegin hash throttled) (Read t) looked ∷ between
    pub number : (after_all rules first earlier).issued ≡ n

  abbrev AreLookedUp : World C → List (WorldEvent C) → Type 0
  AreLookedUp first events = (n : ℕ) (l : Load C) → (after_all rules first events).loads n ≡ Some l → IsLookedUp first events n l.ticket

  -- one event more
  one_more : (first : World C) (done : List (WorldEvent C)) (e : WorldEvent C) → MayHappen rules Splits is_value (after_all rules first done) e
      → AreLookedUp first done → AreLookedUp first (done ++ e ∷ [])
  one_more first done e may known n l is =
      go (event_from (after_all rules first done) e n l may (subst (λ w. w.loads n ≡ Some l) (after_more rules first done (e ∷ [])) is))
    where
      go : IsAt ((after_all rules first done).loads n) l.ticket ⊎ IsIssued (after_all rules first done) e n l.ticket → IsLookedUp first (done ++ e ∷ []) n l.ticket
      go (inl (k, there, ticket)) =
          let old : IsLookedUp first done n l.ticket = subst (λ t. IsLookedUp first done n t) ticket (known n k there) in
          record {
            earlier = old.earlier;
            between = old.between ++ e ∷ [];
            hash = old.hash;
            throttled = old.throttled;
            looked = old.looked;
            is = ap (λ es. es ++ e ∷ []) old.is ∙ append_twice old.earlier (Applies (LoadBegin old.hash old.throttled) (Read l.ticket) old.looked ∷ old.between) (e ∷ []);
            number = old.number;
          }
      go (inr issued) = record {
        earlier = done;
        between = [];
        hash = issued.0;
        throttled = issued.1;
        looked = issued.2;
        is = ap (λ x. done ++ x ∷ []) issued.3;
        number = issued.4;
      }

  all_more : (first : World C) (done rest : List (WorldEvent C)) → MayAllHappen rules Splits is_value (after_all rules first done) rest
      → AreLookedUp first done → AreLookedUp first (done ++ rest)
  all_more first done [] may known = subst (λ es. AreLookedUp first es) (sym (append_none done)) known
  all_more first done (e ∷ es) may known =
      subst (λ xs. AreLookedUp first xs) (append_twice done (e ∷ []) es)
      (all_more first (done ++ e ∷ []) es
      (subst (λ w. MayAllHappen rules Splits is_value w es) (sym (after_more rules first done (e ∷ []))) may.1)
      (one_more first done e may.0 known))

  -- Each load of a world was issued by a look-up, if the first world has no load.
  pub all_looked_up : (first : World C) (events : List (WorldEvent C)) → ((n : ℕ) → first.loads n ≡ None) → MayAllHappen rules Splits is_value first events
      → (n : ℕ) (l : Load C) → (after_all rules first events).loads n ≡ Some l → IsLookedUp first events n l.ticket
  all_looked_up first events none may = all_more first [] events may (λ n l is. absurd (let e : None ≡ Some l = sym (none n) ∙ is in cc))

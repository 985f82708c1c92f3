-- The clean of a block in a run, and the step that reports it.
use Rattle.std.proofs.Common.{◌≡◌, ◌≢◌, ℕ, ◌+◌, ◌<◌, ◌==◌, Bool, true, false, not, List, [], ◌∷◌, ◌++◌, ◌⊎◌, inl, inr, length, Option, Some, None, Result, slice_get, slice_set, refl, sym, ap, subst, ◌∙◌, arith}
use Rattle.std.proofs.lemmas.Bool.Decides.{nat_tests}
use Rattle.std.proofs.lemmas.Option.{slice_get_within}
use Rattle.std.specs.Prelude.{OnErr}
use Rattle.foyer_device_page.specs.declared.error.Error.{Error}
use Rattle.foyer_core_model.specs.Access.{CleanState, CleanIdle, CleanIssued, CleanInFlight, CleanDone, clean_begun, clean_ended, clean_will_cover, bytes_cleaned, cleans_after, loads_after, issued_after, block_writes_after, IsTornClean}
use Rattle.foyer_core_model.specs.Kind.{Kind}
use Rattle.foyer_core_model.specs.Numbers.{page, put}
use Rattle.foyer_core_model.specs.Reply as model_reply
use Rattle.foyer_core_model.specs.Rules.{Rules}
use Rattle.foyer_core_model.specs.Step as model_step
use Rattle.foyer_core_model.specs.World.{is_none, World, WorldEvent, Applies, CleanBegins, CleanEnds, MayAllHappen, IsFed, after, after_all}
use Rattle.foyer_core_model.proofs.Basics.{put_same, put_other}
use Rattle.foyer_core_steps.specs.Asked.{fault_of, step_of, went_well}
use Rattle.foyer_core_laws.specs.Content.{Content, Meaning}
use Rattle.foyer_core_steps.specs.Refines.{IsRefined}
use Rattle.foyer_core_laws.specs.CoreRules.{layout, machine, IsEncoded}
use Rattle.foyer_core_laws.specs.Sizes.{AreValid}
use Rattle.foyer_core_steps.specs.declared.reply.Reply.{Reply}
use Rattle.foyer_core_laws.specs.Settings.{Settings}
use Rattle.foyer_core_steps.specs.declared.state.Core.{Core}
use Rattle.foyer_core_steps.specs.declared.step.Step.{Step}
use Rattle.foyer_core_steps.specs.declared.step.Step.TheVariants as step
use Rattle.foyer_core_steps.specs.declared.step.Ticket.{Ticket}
use Rattle.foyer_core_steps.proofs.ListLemmas.{set_here, set_there, set_count}
use Rattle.foyer_core_run.specs.Running.{IsCleanDue, IsDue, IsMoved, IsRunning, at, is_set, ticket_in, with_ticket}
use Rattle.foyer_core_run.specs.declared.moves.Asked.TheVariants as asks
use Rattle.foyer_core_run.specs.declared.moves.kept.Issued.{Issued}
use Rattle.foyer_core_access.specs.declared.reclaims.Part.{Part}
use Rattle.foyer_core_run.proofs.DestroyRuns.{cleans_other, went_fault}
use Rattle.foyer_core_run.proofs.DueBlocks.{IsNoScan, scans_beside, scans_torn}
use Rattle.foyer_core_run.proofs.DueLemmas.{IsBeside, block_writes_stay, unread_torn}
use Rattle.foyer_core_run.proofs.FaultLists.{or_none, unsure_failed}
use Rattle.foyer_core_run.proofs.ListLemmas.{append_none}
use Rattle.foyer_core_run.proofs.ReclaimRuns.{IsCleanDone, clean_same, done_torn}
use Rattle.foyer_core_run.proofs.StepLemmas.{AreUnread, due_more, unread_goes}

-- if no clean is noted, none is due, or none was issued in this run
not_noted : (before : CleanState) (x : Bool) (clean_state : CleanState) → IsCleanDue before x clean_state → x ≡ false → (clean_state ≢ CleanIssued) ⊎ (clean_state ≡ before)
not_noted before false clean_state is e = elim is [ inl same ↦ inr same | inr none ↦ inl none ]
not_noted before true clean_state is e = absurd (let f : true ≡ false = e in cc)

-- what is set is there
set_is : (o : Option Bool) → is_set o ≡ true → o ≡ Some true
set_is None e = absurd (let f : false ≡ true = e in cc)
set_is (Some x) e = ap Some e

-- the step that reports the clean of a block changes no other clean, and leaves none of this block due
pub record Reports {C : Type 0} (b : ℕ) (ok : Bool) (given : model_step.Step C) : Type 0 where
  pub beside : IsBeside given
  pub no_scan : IsNoScan given
  pub others : (it : model_reply.Reply C) (cleans : ℕ → CleanState) (q : ℕ) → (q ≡ b → ⊥) → cleans_after it given cleans q ≡ cleans q
  pub over : (it : model_reply.Reply C) (cleans : ℕ → CleanState) → cleans b ≡ CleanDone ok → cleans_after it given cleans b ≢ CleanIssued

idle_not : (clean_state : CleanState) → clean_state ≡ CleanIdle → clean_state ≢ CleanIssued
idle_not clean_state is e = let f : CleanIdle ≡ CleanIssued = sym is ∙ e in cc

done_not : (ok : Bool) (clean_state : CleanState) → clean_state ≡ CleanDone ok → clean_state ≢ CleanIssued
done_not ok clean_state is e = let f : CleanDone ok ≡ CleanIssued = sym is ∙ e in cc

reclaimed_others : {C : Type 0} (it : model_reply.Reply C) (b q : ℕ) (ok : Bool) (cleans : ℕ → CleanState) → (q ≡ b → ⊥) → cleans_after it (model_step.ReclaimCleaned b ok) cleans q ≡ cleans q
reclaimed_others model_reply.Done b q ok cleans ne = put_other cleans b CleanIdle q ne
reclaimed_others it b q ok cleans ne = refl

reclaimed_over : {C : Type 0} (it : model_reply.Reply C) (b : ℕ) (ok : Bool) (cleans : ℕ → CleanState) → cleans b ≡ CleanDone ok → cleans_after it (model_step.ReclaimCleaned b ok) cleans b ≢ CleanIssued
reclaimed_over model_reply.Done b ok cleans is = idle_not (put cleans b CleanIdle b) (put_same cleans b CleanIdle)
reclaimed_over it b ok cleans is = done_not ok (cleans b) is

reports_reclaimed : {C : Type 0} (b : ℕ) (ok : Bool) → Reports {C = C} b ok (model_step.ReclaimCleaned b ok)
reports_reclaimed b ok = record {
  beside = tt;
  no_scan = tt;
  others = λ it cleans q ne. reclaimed_others it b q ok cleans ne;
  over = λ it cleans is. reclaimed_over it b ok cleans is;
}

destroyed_over : {C : Type 0} (it : model_reply.Reply C) (b : ℕ) (ok : Bool) (fault : Option Kind) (cleans : ℕ → CleanState) → cleans b ≡ CleanDone ok → cleans_after it (model_step.DestroyCleaned b fault) cleans b ≢ CleanIssued
destroyed_over model_reply.Done b ok fault cleans is = idle_not (put cleans b CleanIdle b) (put_same cleans b CleanIdle)
destroyed_over (model_reply.Destroyed first) b ok fault cleans is = idle_not (put cleans b CleanIdle b) (put_same cleans b CleanIdle)
destroyed_over it b ok fault cleans is = done_not ok (cleans b) is

reports_destroyed : {C : Type 0} (b : ℕ) (ok : Bool) (fault : Option Kind) → Reports {C = C} b ok (model_step.DestroyCleaned b fault)
reports_destroyed b ok fault = record {
  beside = tt;
  no_scan = tt;
  others = λ it cleans q ne. cleans_other it b q fault cleans ne;
  over = λ it cleans is. destroyed_over it b ok fault cleans is;
}

module _ {K V P : Type 0} (m : Meaning K V P) (s : Settings) (sound : AreValid s) where
  abbrev rules : Rules Content
  rules = machine m s sound

  -- a move whose clean isn't due is passed over
  pub reclaimed_passes : {A : Type 0} (sure : ℕ → ℕ → ℕ → Type 0) (from : World Content) (b : ℕ) (tickets : List (Option Ticket)) (issued : List (Option Issued)) (scans : List (Option Part)) (cleans : List Bool) (said : List (Reply K V P A))
      (core : Core K V P A) (bytes : ℕ → ℕ → ℕ) (w : World Content) → IsRunning m s from tickets issued scans cleans said core bytes w → is_set (slice_get cleans b) ≡ false
      → IsMoved m s sound sure false from (asks.ReclaimCleaned b) said tickets issued scans cleans said core bytes w
  reclaimed_passes sure from b tickets issued scans cleans said core bytes w running none = record {
    events = [];
    answers = [];
    happened = tt;
    made = inl ((refl, refl), not_noted (from.clean_states b) (is_set (slice_get cleans b)) (w.clean_states b) (running.due_cleans b) none);
    replies = sym (append_none said);
    causes = tt;
    faults = refl;
    running = running;
  }

  pub destroyed_passes : {A : Type 0} (sure : ℕ → ℕ → ℕ → Type 0) (from : World Content) (b : ℕ) (tickets : List (Option Ticket)) (issued : List (Option Issued)) (scans : List (Option Part)) (cleans : List Bool) (said : List (Reply K V P A))
      (core : Core K V P A) (bytes : ℕ → ℕ → ℕ) (w : World Content) → IsRunning m s from tickets issued scans cleans said core bytes w → is_set (slice_get cleans b) ≡ false
      → IsMoved m s sound sure false from (asks.DestroyCleaned b) said tickets issued scans cleans said core bytes w
  destroyed_passes sure from b tickets issued scans cleans said core bytes w running none = record {
    events = [];
    answers = [];
    happened = tt;
    made = inl ((refl, refl), not_noted (from.clean_states b) (is_set (slice_get cleans b)) (w.clean_states b) (running.due_cleans b) none);
    replies = sym (append_none said);
    causes = tt;
    faults = refl;
    running = running;
  }

  module _ {A : Type 0} (from : World Content) (b : ℕ) (given : Step K V P A) (ok : Bool) (reports : Reports b ok (step_of m given))
      (fed : (v : World Content) → v.clean_states b ≡ CleanDone ok → IsFed rules (layout s) (IsEncoded m.is_key m.is_value) v (step_of m given))
      (answer : Reply K V P A) (tickets tickets' : List (Option Ticket)) (issued : List (Option Issued)) (scans : List (Option Part)) (cleans cleans' : List Bool) (said said' : List (Reply K V P A))
      (old new : Core K V P A) (bytes bytes' : ℕ → ℕ → ℕ) (w : World Content) (running : IsRunning m s from tickets issued scans cleans said old bytes w)
      (is_due : is_set (slice_get cleans b) ≡ true) (done : IsCleanDone bytes bytes' b ok) (met : IsRefined m s sound given answer new w.core)
      (ts : tickets' ≡ with_ticket (ticket_in answer) tickets) (cl : cleans' ≡ slice_set cleans b false) (ss : said' ≡ said ++ answer ∷ []) where
    abbrev events_of : List (WorldEvent Content)
    events_of = CleanBegins b ∷ CleanEnds b ok (bytes' b) ∷ Applies (step_of m given) met.it met.after ∷ []

    issued_at : w.clean_states b ≡ CleanIssued
    issued_at = subst (λ x. IsCleanDue (from.clean_states b) x (w.clean_states b)) is_due (running.due_cleans b)

    abbrev w1 : World Content
    w1 = after rules w (CleanBegins b)

    abbrev w2 : World Content
    w2 = after rules w1 (CleanEnds b ok (bytes' b))

    flying : w1.clean_states b ≡ CleanInFlight
    flying = put_same w.clean_states b (clean_begun (w.clean_states b)) ∙ ap clean_begun issued_at

    finished : w2.clean_states b ≡ CleanDone ok
    finished = put_same w1.clean_states b (clean_ended ok (w1.clean_states b)) ∙ ap (clean_ended ok) flying

    torn : IsTornClean w.bytes b (w1.clean_states b) (bytes' b)
    torn = subst (λ q. IsTornClean w.bytes b q (bytes' b)) (sym flying) (λ o le. done_torn bytes bytes' b ok done b o (inr (inr le)) ∙ sym (running.same b o))

    happens : MayAllHappen rules (layout s) (IsEncoded m.is_key m.is_value) w events_of
    happens = (tt, (torn, ((fed w2 finished, met.follows), tt)))

    left : AreUnread from.issued tickets w1.loads
    left n t here = unread_torn (clean_will_cover b (w.clean_states b)) (w.loads (from.issued + n)) ∙ running.loads n t here

    gone : (issued_after met.it w.issued ≡ from.issued + length (with_ticket (ticket_in answer) tickets)) × AreUnread from.issued (with_ticket (ticket_in answer) tickets) (loads_after met.it w.history w.kept w.issued w1.loads)
    gone = unread_goes m from.issued w.issued tickets w1.loads w.history w.kept answer met.it met.reply running.count left

    within : b < length cleans
    within = slice_get_within cleans b true (set_is (slice_get cleans b) is_due)

    abbrev cleans_then : ℕ → CleanState
    cleans_then = cleans_after met.it (step_of m given) w2.clean_states

    elsewhere : (q : ℕ) → (q ≡ b → ⊥) → cleans_then q ≡ w.clean_states q
    elsewhere q ne =
        reports.others met.it w2.clean_states q ne
        ∙ put_other w1.clean_states b (clean_ended ok (w1.clean_states b)) q ne ∙ put_other w.clean_states b (clean_begun (w.clean_states b)) q ne

    go : (q : ℕ) (e : Bool) → (q == b) ≡ e → IsCleanDue (from.clean_states q) (is_set (slice_get cleans' q)) (cleans_then q)
    go q true e =
        let same : q ≡ b = grind (arith, nat_tests) in
        subst (λ i. IsCleanDue (from.clean_states i) (is_set (slice_get cleans' i)) (cleans_then i)) (sym same)
        (subst (λ o. IsCleanDue (from.clean_states b) (is_set o) (cleans_then b)) (sym (ap (λ xs. slice_get xs b) cl ∙ set_here cleans b false within))
        (inr (reports.over met.it w2.clean_states finished)))
    go q false e =
        let ne : q ≡ b → ⊥ = λ same. grind (arith, nat_tests) in
        subst (λ o. IsCleanDue (from.clean_states q) (is_set o) (cleans_then q)) (sym (ap (λ xs. slice_get xs q) cl ∙ set_there cleans b q false ne))
        (subst (λ x. IsCleanDue (from.clean_states q) (is_set (slice_get cleans q)) x) (sym (elsewhere q ne)) (running.due_cleans q))

    runs_on : IsRunning m s from tickets' issued scans cleans' said' new bytes' (after_all rules w events_of)
    runs_on = record {
      stands = met.stands;
      same = λ d o. subst (λ q. bytes_cleaned ok (bytes' b) b q w.bytes d o ≡ bytes' d o) (sym flying) (clean_same w.bytes bytes bytes' b ok done running.same d o);
      count = gone.0 ∙ ap (λ xs. from.issued + length xs) (sym ts);
      loads = subst (λ xs. AreUnread from.issued xs (loads_after met.it w.history w.kept w.issued w1.loads)) (sym ts) gone.1;
      flushers = running.flushers;
      writes = λ f. subst (λ xs. IsDue (from.block_writes f) xs (at (slice_get issued f)) (block_writes_after met.it (step_of m given) w.block_writes f)) (sym ss)
          (due_more (from.block_writes f) said (answer ∷ []) (at (slice_get issued f)) _
          (subst (λ all. IsDue (from.block_writes f) said (at (slice_get issued f)) (all f)) (sym (block_writes_stay met.it (step_of m given) w.block_writes reports.beside)) (running.writes f)));
      blocks = (running.blocks.0, ap length cl ∙ set_count cleans b false ∙ running.blocks.1);
      due_scans = scans_beside from.scans scans met.it (step_of m given) reports.no_scan rules.index_size w1.scans
          (scans_torn from.scans scans (clean_will_cover b (w.clean_states b)) w.scans running.due_scans);
      due_cleans = λ q. go q (q == b) refl;
    }

  -- the clean of a reclaim
  pub reclaimed_moves : {A : Type 0} (sure : ℕ → ℕ → ℕ → Type 0) (from : World Content) (b : ℕ) (outcome : Result Unit Error) (answer : Reply K V P A) (tickets tickets' : List (Option Ticket)) (issued : List (Option Issued)) (scans : List (Option Part)) (cleans cleans' : List Bool) (said said' : List (Reply K V P A))
      (old new : Core K V P A) (bytes bytes' : ℕ → ℕ → ℕ) (w : World Content) → IsRunning m s from tickets issued scans cleans said old bytes w
      → is_set (slice_get cleans b) ≡ true → IsCleanDone bytes bytes' b (went_well outcome) → OnErr outcome (sure b 0 page → ⊥) → IsRefined m s sound (step.ReclaimCleaned b outcome) answer new w.core
      → tickets' ≡ with_ticket (ticket_in answer) tickets → cleans' ≡ slice_set cleans b false → said' ≡ said ++ answer ∷ []
      → IsMoved m s sound sure (not (went_well outcome)) from (asks.ReclaimCleaned b) said tickets' issued scans cleans' said' new bytes' w
  reclaimed_moves sure from b outcome answer tickets tickets' issued scans cleans cleans' said said' old new bytes bytes' w running is_due done unsure met ts cl ss =
      let ok = went_well outcome in
      let reports = reports_reclaimed {C = Content} b ok in record {
        events = events_of from b (step.ReclaimCleaned b outcome) ok reports (λ v is. is) answer tickets tickets' issued scans cleans cleans' said said' old new bytes bytes' w running is_due done met ts cl ss;
        answers = answer ∷ [];
        happened = happens from b (step.ReclaimCleaned b outcome) ok reports (λ v is. is) answer tickets tickets' issued scans cleans cleans' said said' old new bytes bytes' w running is_due done met ts cl ss;
        made = inr (
          ok,
          bytes' b,
          issued_at from b (step.ReclaimCleaned b outcome) ok reports (λ v is. is) answer tickets tickets' issued scans cleans cleans' said said' old new bytes bytes' w running is_due done met ts cl ss,
          record { it = met.it; after = met.after; answer = answer; is = refl; said_is = refl; reply = met.reply },
        );
        replies = ss;
        causes = (tt, (unsure_failed outcome unsure, (tt, tt)));
        faults = or_none (not ok);
        running = runs_on from b (step.ReclaimCleaned b outcome) ok reports (λ v is. is) answer tickets tickets' issued scans cleans cleans' said said' old new bytes bytes' w running is_due done met ts cl ss;
      }

  -- and that of a destroy
  pub destroyed_moves : {A : Type 0} (sure : ℕ → ℕ → ℕ → Type 0) (from : World Content) (b : ℕ) (outcome : Result Unit Error) (answer : Reply K V P A) (tickets tickets' : List (Option Ticket)) (issued : List (Option Issued)) (scans : List (Option Part)) (cleans cleans' : List Bool) (said said' : List (Reply K V P A))
      (old new : Core K V P A) (bytes bytes' : ℕ → ℕ → ℕ) (w : World Content) → IsRunning m s from tickets issued scans cleans said old bytes w
      → is_set (slice_get cleans b) ≡ true → IsCleanDone bytes bytes' b (went_well outcome) → OnErr outcome (sure b 0 page → ⊥) → IsRefined m s sound (step.DestroyCleaned b outcome) answer new w.core
      → tickets' ≡ with_ticket (ticket_in answer) tickets → cleans' ≡ slice_set cleans b false → said' ≡ said ++ answer ∷ []
      → IsMoved m s sound sure (not (went_well outcome)) from (asks.DestroyCleaned b) said tickets' issued scans cleans' said' new bytes' w
  destroyed_moves sure from b outcome answer tickets tickets' issued scans cleans cleans' said said' old new bytes bytes' w running is_due done unsure met ts cl ss =
      let fault = fault_of outcome in
      let ok = is_none fault in
      let reports = reports_destroyed {C = Content} b ok fault in
      let does = subst (IsCleanDone bytes bytes' b) (went_fault outcome) done in record {
        events = events_of from b (step.DestroyCleaned b outcome) ok reports (λ v is. is) answer tickets tickets' issued scans cleans cleans' said said' old new bytes bytes' w running is_due does met ts cl ss;
        answers = answer ∷ [];
        happened = happens from b (step.DestroyCleaned b outcome) ok reports (λ v is. is) answer tickets tickets' issued scans cleans cleans' said said' old new bytes bytes' w running is_due does met ts cl ss;
        made = inr (
          fault,
          bytes' b,
          issued_at from b (step.DestroyCleaned b outcome) ok reports (λ v is. is) answer tickets tickets' issued scans cleans cleans' said said' old new bytes bytes' w running is_due does met ts cl ss,
          record { it = met.it; after = met.after; answer = answer; is = refl; said_is = refl; reply = met.reply },
        );
        replies = ss;
        causes = (tt, ((λ failed. unsure_failed outcome unsure (went_fault outcome ∙ failed)), (tt, tt)));
        faults = or_none (not ok) ∙ ap not (sym (went_fault outcome));
        running = runs_on from b (step.DestroyCleaned b outcome) ok reports (λ v is. is) answer tickets tickets' issued scans cleans cleans' said said' old new bytes bytes' w running is_due does met ts cl ss;
      }

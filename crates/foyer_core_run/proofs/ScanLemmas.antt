-- A reclaim's read of a run, and the step that brings what came.
use Rattle.std.proofs.Common.{◌≡◌, ℕ, ◌+◌, ◌<◌, ◌==◌, Bool, true, false, List, [], ◌∷◌, ◌++◌, ◌⊎◌, inl, inr, length, Option, Some, None, Result, slice_get, slice_set, refl, sym, ap, subst, ◌∙◌, arith}
use Rattle.std.proofs.lemmas.Bool.Decides.{nat_tests}
use Rattle.std.proofs.lemmas.Option.{slice_get_within}
use Rattle.std.specs.declared.vec.Vec.{Vec}
use Rattle.foyer_device_page.specs.declared.error.Error.{Error}
use Rattle.foyer_core_model.specs.Access.{Scan, ReadIssued, ReadDone, at_scan, begun, came, loads_after, issued_after, block_writes_after, scans_after}
use Rattle.foyer_core_model.specs.Rules.{Rules}
use Rattle.foyer_core_model.specs.Step as model_step
use Rattle.foyer_core_model.specs.World.{World, Applies, ScanBegins, ScanEnds, IsScanned, covers}
use Rattle.foyer_core_model.proofs.Basics.{put_other}
use Rattle.foyer_core_steps.specs.Asked.{came_of}
use Rattle.foyer_core_laws.specs.Content.{Content, Meaning}
use Rattle.foyer_core_steps.specs.Refines.{IsRefined}
use Rattle.foyer_core_laws.specs.CoreRules.{machine}
use Rattle.foyer_core_laws.specs.Sizes.{AreValid}
use Rattle.foyer_core_steps.specs.declared.reply.Reply.{Reply}
use Rattle.foyer_core_laws.specs.Settings.{Settings}
use Rattle.foyer_core_steps.specs.declared.state.Core.{Core}
use Rattle.foyer_core_steps.specs.declared.step.Step.TheVariants as step
use Rattle.foyer_core_steps.specs.declared.step.Ticket.{Ticket}
use Rattle.foyer_core_steps.proofs.ListLemmas.{set_here, set_there, set_count}
use Rattle.foyer_core_run.specs.Causes.{is_fault}
use Rattle.foyer_core_run.specs.Due.{IsUnscanned}
use Rattle.foyer_core_access.specs.Reclaims.{part_in}
use Rattle.foyer_core_run.specs.Running.{IsDue, IsMoved, IsRunning, IsScanDue, at, ticket_in, with_ticket}
use Rattle.foyer_core_run.specs.declared.moves.Asked.TheVariants as asks
use Rattle.foyer_core_run.specs.declared.moves.kept.Issued.{Issued}
use Rattle.foyer_core_access.specs.declared.reclaims.Part.{Part}
use Rattle.foyer_core_run.proofs.DueBlocks.{cleans_beside, scan_next, scans_elsewhere}
use Rattle.foyer_core_run.proofs.DueLemmas.{block_writes_stay}
use Rattle.foyer_core_run.proofs.FaultLists.{or_none}
use Rattle.foyer_core_run.proofs.ListLemmas.{append_none, at_is}
use Rattle.foyer_core_run.proofs.ReclaimRuns.{IsPartCome, began, begins, brought, ended, ends, gives, scan_of}
use Rattle.foyer_core_run.proofs.StepLemmas.{AreUnread, due_more, unread_goes}

-- if no read is noted, none is due, or none was issued in this run
not_noted : (before : Option Scan) (x : Option Part) (scan : Option Scan) → IsScanDue before x scan → x ≡ None → (IsUnscanned scan → ⊥) ⊎ (scan ≡ before)
not_noted before None scan is e = elim is [ inl same ↦ inr same | inr none ↦ inl none ]
not_noted before (Some part) scan is e = absurd (let f : Some part ≡ None = e in cc)

-- and one that is noted is
noted : (before : Option Scan) (x : Option Part) (part : Part) (scan : Option Scan) → IsScanDue before x scan → x ≡ Some part → scan ≡ Some (scan_of part ReadIssued)
noted before x part scan is e = subst (λ y. IsScanDue before y scan) e is

module _ {K V P : Type 0} (m : Meaning K V P) (s : Settings) (sound : AreValid s) where
  abbrev rules : Rules Content
  rules = machine m s sound

  -- a move whose read isn't due is passed over
  pub scan_passes : {A : Type 0} (sure : ℕ → ℕ → ℕ → Type 0) (from : World Content) (b : ℕ) (tickets : List (Option Ticket)) (issued : List (Option Issued)) (scans : List (Option Part)) (cleans : List Bool) (said : List (Reply K V P A))
      (core : Core K V P A) (bytes : ℕ → ℕ → ℕ) (w : World Content) → IsRunning m s from tickets issued scans cleans said core bytes w → at (slice_get scans b) ≡ None
      → IsMoved m s sound sure false from (asks.ReclaimRead b) said tickets issued scans cleans said core bytes w
  scan_passes sure from b tickets issued scans cleans said core bytes w running none = record {
    events = [];
    answers = [];
    happened = tt;
    made = inl ((refl, refl), not_noted (from.scans b) (at (slice_get scans b)) (w.scans b) (running.due_scans b) none);
    replies = sym (append_none said);
    causes = tt;
    faults = refl;
    running = running;
  }

  pub scan_moves : {A : Type 0} (sure : ℕ → ℕ → ℕ → Type 0) (from : World Content) (b : ℕ) (part : Part) (outcome : Result (Vec ℕ A) Error) (answer : Reply K V P A) (tickets tickets' : List (Option Ticket)) (issued : List (Option Issued)) (scans scans' : List (Option Part)) (cleans : List Bool) (said said' : List (Reply K V P A))
      (old new : Core K V P A) (bytes : ℕ → ℕ → ℕ) (w : World Content) → IsRunning m s from tickets issued scans cleans said old bytes w
      → at (slice_get scans b) ≡ Some part → IsPartCome bytes b part outcome
      → IsRefined m s sound (step.ReclaimRead b outcome) answer new w.core
      → tickets' ≡ with_ticket (ticket_in answer) tickets → scans' ≡ slice_set scans b (part_in answer) → said' ≡ said ++ answer ∷ []
      → IsMoved m s sound sure (is_fault (came_of outcome)) from (asks.ReclaimRead b) said tickets' issued scans' cleans said' new bytes w
  scan_moves sure from b part outcome answer tickets tickets' issued scans scans' cleans said said' old new bytes w running is_due come met ts sc ss = record {
    events = ScanBegins b ∷ ScanEnds b result ∷ Applies (model_step.ReclaimRead b result) met.it met.after ∷ [];
    answers = answer ∷ [];
    happened = (
      tt,
      (
        subst (λ o. IsScanned (w.bytes b) o result) (sym (began m s sound w b part is)) (gives m s sound w bytes b part outcome (covers rules w b) running.same come),
        (((scan_of part (ReadDone result), ended m s sound w b part result is, brought result), met.follows), tt),
      ),
    );
    made = inr (result, subst IsUnscanned (sym is) refl, record { it = met.it; after = met.after; answer = answer; is = refl; said_is = refl; reply = met.reply });
    replies = ss;
    causes = (tt, (tt, (tt, tt)));
    faults = or_none (is_fault result);
    running = record {
      stands = met.stands;
      same = running.same;
      count = gone.0 ∙ ap (λ xs. from.issued + length xs) (sym ts);
      loads = subst (λ xs. AreUnread from.issued xs (loads_after met.it w.history w.kept w.issued w.loads)) (sym ts) gone.1;
      flushers = running.flushers;
      writes = λ f. subst (λ xs. IsDue (from.block_writes f) xs (at (slice_get issued f)) (block_writes_after met.it (model_step.ReclaimRead b result) w.block_writes f)) (sym ss)
          (due_more (from.block_writes f) said (answer ∷ []) (at (slice_get issued f)) _
          (subst (λ all. IsDue (from.block_writes f) said (at (slice_get issued f)) (all f)) (sym (block_writes_stay met.it (model_step.ReclaimRead b result) w.block_writes tt)) (running.writes f)));
      blocks = (ap length sc ∙ set_count scans b (part_in answer) ∙ running.blocks.0, running.blocks.1);
      due_scans = λ q. go q (q == b) refl;
      due_cleans = cleans_beside from.clean_states cleans met.it (model_step.ReclaimRead b result) tt w.clean_states running.due_cleans;
    };
  }
    where
      result : model_step.ReadResult
      result = came_of outcome

      is : w.scans b ≡ Some (scan_of part ReadIssued)
      is = noted (from.scans b) (at (slice_get scans b)) part (w.scans b) (running.due_scans b) is_due

      w2 : World Content
      w2 = ends m s sound w b result

      within : b < length scans
      within = slice_get_within scans b (Some part) (at_is (slice_get scans b) part is_due)

      gone : (issued_after met.it w.issued ≡ from.issued + length (with_ticket (ticket_in answer) tickets)) × AreUnread from.issued (with_ticket (ticket_in answer) tickets) (loads_after met.it w.history w.kept w.issued w.loads)
      gone = unread_goes m from.issued w.issued tickets w.loads w.history w.kept answer met.it met.reply running.count running.loads

      scans_then : ℕ → Option Scan
      scans_then = scans_after rules.index_size met.it (model_step.ReclaimRead b result) w2.scans

      elsewhere : (q : ℕ) → (q ≡ b → ⊥) → scans_then q ≡ w.scans q
      elsewhere q ne =
          scans_elsewhere rules.index_size met.it b q result w2.scans ne
          ∙ put_other (begins m s sound w b).scans b (at_scan (λ _. came result) b ((begins m s sound w b).scans b)) q ne
          ∙ put_other w.scans b (at_scan (begun (covers rules w)) b (w.scans b)) q ne

      go : (q : ℕ) (e : Bool) → (q == b) ≡ e → IsScanDue (from.scans q) (at (slice_get scans' q)) (scans_then q)
      go q true e =
          let same : q ≡ b = grind (arith, nat_tests) in
          subst (λ i. IsScanDue (from.scans i) (at (slice_get scans' i)) (scans_then i)) (sym same)
          (subst (λ o. IsScanDue (from.scans b) (at o) (scans_then b)) (sym (ap (λ xs. slice_get xs b) sc ∙ set_here scans b (part_in answer) within))
          (scan_next m rules.index_size answer met.it b result result (from.scans b) w2.scans (scan_of part (ReadDone result)) met.reply (ended m s sound w b part result is) refl))
      go q false e =
          let ne : q ≡ b → ⊥ = λ same. grind (arith, nat_tests) in
          subst (λ o. IsScanDue (from.scans q) (at o) (scans_then q)) (sym (ap (λ xs. slice_get xs q) sc ∙ set_there scans b q (part_in answer) ne))
          (subst (λ scan. IsScanDue (from.scans q) (at (slice_get scans q)) scan) (sym (elsewhere q ne)) (running.due_scans q))

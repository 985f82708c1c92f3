-- The restart law.
use Rattle.std.proofs.Common.{◌≡◌, ℕ, true, false, Some, None, [], inl, inr, sym, ap, subst, ◌∙◌, arith}
use Rattle.foyer_format_layout.specs.Position.{Sizes, fresh}
use Rattle.foyer_format_buffer.specs.Holding.{Holds}
use Rattle.foyer_format_buffer.proofs.HoldsLemmas.{holds_fresh}
use Rattle.foyer_core_model.specs.Record.{Indexed}
use Rattle.foyer_core_model.specs.State.{Flusher}
use Rattle.foyer_core_model.specs.Rules.{Rules, Splitting, sizes_of}
use Rattle.foyer_core_model.specs.InTurn.{AwaitsClean}
use Rattle.foyer_core_model.specs.Flush.{is_cleaning}
use Rattle.foyer_core_model.specs.World.{World}
use Rattle.foyer_core_model.specs.Opened.{IsOpened, idle}
use Rattle.foyer_core_model.specs.Laws.{Demands}
use Rattle.foyer_core_model.proofs.Basics.{Ascends}
use Rattle.foyer_core_model.proofs.Invariant.{AllWell, blocks_in, goes_on_in, start_of}
use Rattle.foyer_core_model.proofs.OpenedSound.{new_sound, new_sets}
use Rattle.foyer_core_model.proofs.RereadsKept.{new_again}
use Rattle.foyer_core_model.proofs.Widths.{opened_wide}
use Rattle.foyer_core_model.proofs.Served.{opened_served}
use Rattle.foyer_core_model.proofs.SoundKept.{IsKnown, all_known, reclaims_at}
use Rattle.foyer_core_restart.specs.Entries.{In, filled_to, puts_at}
use Rattle.foyer_core_restart.specs.Real.{IsReal}
use Rattle.foyer_core_restart.specs.Restart.{IsRun, RestartLaw, IdleLaw}
use Rattle.foyer_core_restart.proofs.Safe.{sight_of, Job, job_in, results_in, AllWait, IsOf, RestOk, sequences_of, puts_in, ReadsOk, IsSafe}
use Rattle.foyer_core_restart.proofs.Stop.{found}
use Rattle.foyer_core_restart.proofs.Events.{all_safe}

module _ (A : Type 0) {C : Type 0} (rules : Rules C) (Splits : Splitting C) (is_value : C → Type 0) (demands : Demands rules Splits is_value) (real : IsReal A rules Splits) where
  -- an opened world in which nothing was found
  new_safe : (w : World C) → IsOpened rules w → ((h : ℕ) → w.core.index h ≡ None) → IsSafe A rules (sight_of w)
  new_safe w opened empty = record {
    low = λ f. 0;
    lines = record {
      lows = λ f. omega arith;
      waits = λ f. subst (AllWait (IsOf rules (λ f. 0) f)) (sym (opened.flushers f)) (record { batch = tt; buffer = tt; queue = tt });
    };
    done = record {
      below = λ x i. absurd (subst (In x) opened.committed i);
      unique = λ x y i. absurd (subst (In x) opened.committed i);
    };
    slots = λ h a e. absurd (let x : None ≡ Some (Indexed a) = sym (empty h) ∙ e in cc);
    ups = record {
      ascends = λ b. (0, subst (λ l. Ascends 0 (sequences_of l) 0) (sym (none b)) (omega arith));
      owned = λ f b e. absurd (let x : None ≡ Some b = sym (ap (λ (φ : Flusher C). φ.own) (opened.flushers f)) ∙ e in cc);
    };
    still = λ b living no_job. (fresh sz, subst (Holds sz (w.bytes b) (fresh sz)) (sym (none b)) (holds_fresh sz (w.bytes b) real.format.sizes));
    held = λ f. record {
      mine = λ b e. absurd (let x : None ≡ Some b = sym (ap (λ (φ : Flusher C). φ.own) (opened.flushers f)) ∙ e in cc);
      writing = λ b ps e. let j : Job C = (b, ps) in absurd (let x : None ≡ Some j = sym (ap job_in (opened.flushers f)) ∙ e in cc);
    };
    rests = λ f. subst (λ φ. RestOk A sz (filled_to (start_of rules w.filled φ.own (goes_on_in φ.batch))) (blocks_in φ.batch)) (sym (opened.flushers f)) tt;
    well = λ f. subst (λ p. AllWell (results_in p)) (sym (opened.block_writes f)) tt;
    log = λ b v i. absurd (subst (In (b, v)) opened.begun_writes i);
    apart = record {
      dirty = λ b e. absurd (e (opened.clean_states b));
      idle = λ e. absurd (let x : false ≡ true = sym (ap is_cleaning opened.destroy) ∙ e in cc);
      none = λ e. absurd (let x : false ≡ true = sym (ap is_cleaning opened.destroy) ∙ e in cc);
      cleaned = λ b a. absurd (subst (AwaitsClean b) opened.destroy a);
      handed = λ f b e. absurd (let x : None ≡ Some b = sym (ap (λ (φ : Flusher C). φ.ready) (opened.flushers f)) ∙ e in cc);
    };
    reads = λ b. subst (λ r. ReadsOk sz (w.bytes b) b (w.core.filling b) r (w.scans b)) (sym (opened.reclaims b)) tt;
  }
    where
      sz : Sizes
      sz = sizes_of rules

      none : (b : ℕ) → puts_in w.core.filling w.committed b ≡ []
      none b = ap (puts_at b (w.core.filling b)) opened.committed

  pub run_known : (w : World C) → IsRun rules Splits is_value w → IsKnown rules Splits is_value demands w
  run_known w run = subst (IsKnown rules Splits is_value demands) run.is
      (all_known rules Splits is_value demands run.first run.events run.happened
      (record { sound = new_sound rules run.first run.opened; again = new_again rules run.first run.opened; sets = new_sets rules run.first run.opened }))

  pub run_safe : (w : World C) → IsRun rules Splits is_value w → IsSafe A rules (sight_of w)
  run_safe w run = subst (λ k. IsSafe A rules (sight_of k)) run.is
      (all_safe A rules Splits is_value demands real run.first run.events run.happened run.well
      (record { sound = new_sound rules run.first run.opened; again = new_again rules run.first run.opened; sets = new_sets rules run.first run.opened })
      (opened_wide rules Splits run.first run.opened) (opened_served rules Splits run.first run.opened)
      (new_safe run.first run.opened run.empty))

pub restart_law_lem : (A : Type 0) {C : Type 0} (rules : Rules C) (Splits : Splitting C) (is_value : C → Type 0) → RestartLaw A rules Splits is_value
restart_law_lem A rules Splits is_value demands real w bytes mode o h a run stopped strays some opens indexed not_written =
    let known : IsKnown rules Splits is_value demands w = run_known A rules Splits is_value demands real w run in
    found A rules w known.sound (run_safe A rules Splits is_value demands real w run) (λ b. reclaims_at rules Splits is_value demands w b known.again)
    bytes mode o h a stopped strays some opens indexed not_written

pub idle_law_lem : (A : Type 0) {C : Type 0} (rules : Rules C) (Splits : Splitting C) (is_value : C → Type 0) → IdleLaw A rules Splits is_value
idle_law_lem A rules Splits is_value demands real w bytes mode o h a run stopped strays some opens indexed idle =
    elim (restart_law_lem A rules Splits is_value demands real w bytes mode o h a run stopped strays some opens indexed (λ (f, r, is_writing, at). idle f r is_writing)) [
      | inl same ↦ same
      | inr (x, is, greater, whole) ↦ absurd (idle whole.flusher whole.writing whole.is_writing)
    ]

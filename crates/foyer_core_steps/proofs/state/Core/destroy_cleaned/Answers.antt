use Rattle.std.proofs.Common.{refl, sym, subst, ◌∙◌}
use Rattle.foyer_core_model.specs.Destroy.{CleansOne}
use Rattle.foyer_core_model.specs.Reply as model_reply
use Rattle.foyer_block_manager.specs.BlockSets.{Stands, without_stats}
use Rattle.foyer_core_flusher.specs.Standing.{sets_of}
use Rattle.foyer_core_flusher.specs.CoreRules.{machine}
use Rattle.foyer_core_steps.specs.Asked.{fault_of}
use Rattle.foyer_core_steps.specs.Destroying.{HasCleaned, HasEnded}
use Rattle.foyer_core_steps.proofs.CleanedSteps.{in_turn, does, its_fault, after_cleaned, cleaned_stands, goes_on, ends}
use Rattle.foyer_core_steps.proofs.state.Core.destroy_cleaned.Goals as goal

pub returns-in-None-clause-meets : goal.returns-in-None-clause-meets
returns-in-None-clause-meets g c = λ m s sound it stands few.
    let core = c.args.self.now in
    let b = c.args.block in
    let waits = sym c.awaits.ensures ∙ c.if-not-awaits.false in
    let on = goes_on m s sound core it stands b c.args.outcome waits c.note_clean.new.self
    (subst (λ k. HasCleaned b k core.destroy c.note_clean.new.self) c.fault_kind.ensures c.in-None.ensures) in
    let after = after_cleaned m s sound core it stands b c.args.outcome waits in
    record {
      after = after;
      it = model_reply.Done;
      stands = cleaned_stands m s sound core it stands b c.args.outcome waits _ refl refl refl refl refl refl refl c.on_clean_finish.ensures.same
          (subst (λ t. Stands c.on_clean_finish.new.self (record (without_stats (sets_of it) b) { is_cleaning = t })) on.cleaning
          (c.on_clean_finish.ensures.stats (sets_of it) (stands.manager).sets))
          (λ q. refl) on.as_model;
      reply = refl;
      turns = (
        in_turn m s sound core it stands b c.args.outcome waits,
        subst (λ r. CleansOne (machine m s sound) it b (fault_of c.args.outcome) it.destroy r after) on.says (does m s sound core it stands b c.args.outcome waits),
      );
    }

pub returns-in-Some-clause-meets : goal.returns-in-Some-clause-meets
returns-in-Some-clause-meets g c = λ m s sound it stands few.
    let core = c.args.self.now in
    let b = c.args.block in
    let waits = sym c.awaits.ensures ∙ c.if-not-awaits.false in
    let over = ends m s sound core it stands b c.args.outcome waits c.in-Some.first_fault c.note_clean.new.self
    (subst (λ k. HasEnded b k c.in-Some.first_fault core.destroy c.note_clean.new.self) c.fault_kind.ensures c.in-Some.ensures) in
    let after = after_cleaned m s sound core it stands b c.args.outcome waits in
    let before = c.on_clean_finish.ensures.same in
    let last = c.end_cleaning.ensures.same in
    record {
      after = after;
      it = model_reply.Destroyed (its_fault m s sound core it stands b c.args.outcome waits);
      stands = cleaned_stands m s sound core it stands b c.args.outcome waits _ refl refl refl refl refl refl refl
          (record {
            blocks = last.blocks ∙ before.blocks;
            flushers = last.flushers ∙ before.flushers;
            reclaimers = last.reclaimers ∙ before.reclaimers;
            clean_threshold = last.clean_threshold ∙ before.clean_threshold;
            block_size = last.block_size ∙ before.block_size;
          })
          (subst (λ t. Stands c.end_cleaning.new.self (record (without_stats (sets_of it) b) { is_cleaning = t })) (sym over.quiet)
          (c.end_cleaning.ensures.quiet (without_stats (sets_of it) b) (c.on_clean_finish.ensures.stats (sets_of it) (stands.manager).sets)))
          (λ q. refl) over.as_model;
      reply = (_, over.faults, refl);
      turns = (
        in_turn m s sound core it stands b c.args.outcome waits,
        subst (λ r. CleansOne (machine m s sound) it b (fault_of c.args.outcome) it.destroy r after) over.says (does m s sound core it stands b c.args.outcome waits),
      );
    }

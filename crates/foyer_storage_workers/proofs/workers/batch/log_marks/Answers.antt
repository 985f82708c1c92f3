use Rattle.std.proofs.Common.{◌≡◌, Some, refl, subst}
use Rattle.foyer_core_shared.specs.Briefs.{outcome_of, reply_brief}
use Rattle.foyer_core_shared.specs.declared.brief.StepBrief.TheVariants as asked
use Rattle.foyer_storage_workers.proofs.workers.batch.log_marks.Goals as goal

pub returns-clause-logged : goal.returns-clause-logged
returns-clause-logged g c = λ has. (
  c.append-appended.result,
  refl,
  c.append-appended.ensures,
  record {
    answer = reply_brief c.step_again.result;
    newest = subst (λ came. c.step_again.new.session.newest ≡ Some (record { step = asked.LogWrote c.args.flusher (outcome_of came); reply = reply_brief c.step_again.result })) c.outcome-result.ensures c.step_again.ensures.newest;
  },
)

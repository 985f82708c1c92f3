use Rattle.std.proofs.Common.{◌∙◌, ap, subst}
use Rattle.foyer_core_shared.specs.Briefs.{reply_brief}
use Rattle.foyer_storage_workers.specs.Releasing.{IsBegunAs}
use Rattle.foyer_storage_workers.proofs.TurnLemmas.{not_begun}
use Rattle.foyer_storage_workers.proofs.workers.turn.flush.Goals as goal

pub returns-in-No-clause-idle : goal.returns-in-No-clause-idle
returns-in-No-clause-idle g c = λ idle. record {
  answer = reply_brief c.step_again-reply.result;
  newest = ap (λ (s : _). s.newest) (c.do_begin.ensures.same c.in-No.is) ∙ c.step_again-reply.ensures.newest;
  none = not_begun c.step_again-reply.result c.args.parts.now.flusher c.args.engine.now.settings.tombstone_log c.do_begin.new.session
      (subst (λ b. IsBegunAs c.step_again-reply.result c.args.parts.now.flusher c.args.engine.now.settings.tombstone_log c.do_begin.new.session b) c.in-No.is c.do_begin.ensures.begun);
}

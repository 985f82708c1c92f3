use Rattle.std.proofs.Common.{sym, subst, ◌∙◌}
use Rattle.foyer_core_laws.specs.Content.{meaning}
use Rattle.foyer_core_steps.specs.Refines.{Refines}
use Rattle.foyer_core_steps.specs.declared.step.Step.TheVariants as step
use Rattle.foyer_core_run.proofs.BatchRuns.{begins_logged, begins_none, logged_keeps, no_batch}
use Rattle.foyer_core_run.proofs.RestLemmas.{begin_keeps}
use Rattle.foyer_core_run.proofs.batches.begin_batch.Goals as goal

pub returns-in_default : goal.returns-in_default
returns-in_default g c =
    let m = meaning g.K.Code.encoding g.V.Code.encoding g.K.Code.is_encodable g.V.Code.is_encodable g.K.Code.is_decodable g.V.Code.is_decodable g.P.Properties.age in
    record {
      begins = λ bytes. begins_none m c.args.flusher g.L.MarkLog.appends c.args.log.now c.apply.result (no_batch c.apply.result c.in_default.not-Began) c.args.core.now c.apply.new.self bytes c.apply.ensures.meets;
      keeps = begin_keeps m c.args.flusher c.apply.result c.args.core.now c.apply.new.self c.apply.ensures.meets;
      alone = λ none. c.apply.ensures.meets;
      lent = c.apply.ensures.lent;
    }

pub returns-clause-begins : goal.returns-clause-begins
returns-clause-begins g c =
    let m = meaning g.K.Code.encoding g.V.Code.encoding g.K.Code.is_encodable g.V.Code.is_encodable g.K.Code.is_decodable g.V.Code.is_decodable g.P.Properties.age in
    let from = c.args.log.now in
    let to = c.append_marks-result.new.self in
    let outcome = c.append_marks-result.result in
    λ bytes.
    begins_logged m c.args.flusher g.L.MarkLog.appends from to c.in-Began.blocks c.in-Began.marks outcome c.apply-2.result c.args.core.now c.apply.new.self c.apply-2.new.self bytes
    (subst (λ r. Refines m (step.FlushBegin c.args.flusher) r c.args.core.now c.apply.new.self) c.in-Began.is c.apply.ensures.meets)
    (subst (λ l. g.L.MarkLog.appends from l to outcome) c.deref.ensures.value c.append_marks-result.ensures)
    c.apply-2.ensures.meets

pub returns-clause-keeps : goal.returns-clause-keeps
returns-clause-keeps g c =
    let m = meaning g.K.Code.encoding g.V.Code.encoding g.K.Code.is_encodable g.V.Code.is_encodable g.K.Code.is_decodable g.V.Code.is_decodable g.P.Properties.age in
    logged_keeps m c.args.flusher c.apply.result c.apply-2.result c.append_marks-result.result c.args.core.now c.apply.new.self c.apply-2.new.self c.apply.ensures.meets c.apply-2.ensures.meets

pub returns-clause-lent : goal.returns-clause-lent
returns-clause-lent g c = (c.apply-2.ensures.lent.0 ∙ c.apply.ensures.lent.0, c.apply-2.ensures.lent.1 ∙ c.apply.ensures.lent.1)

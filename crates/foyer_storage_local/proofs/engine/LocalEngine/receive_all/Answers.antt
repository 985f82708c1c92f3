use Rattle.std.proofs.Common.{refl, sym, ◌∙◌}
use Rattle.foyer_core_run.specs.AtRest.{BeginsNone}
use Rattle.foyer_core_steps.specs.declared.step.Step.TheVariants as step
use Rattle.foyer_core_run.proofs.FlusherSteps.{begins_none_same}
use Rattle.foyer_core_run.proofs.RestLemmas.{leads_none, receive_more, receive_over, takes_all, takes_some}
use Rattle.foyer_core_laws.specs.Content.{meaning}
use Rattle.foyer_storage_local.proofs.LocalAnswers.{done_nothing}
use Rattle.foyer_storage_local.proofs.LocalRuns.{lies_none, waits_here, waits_on, waits_stepped}
use Rattle.foyer_storage_local.proofs.engine.LocalEngine.receive_all.Goals as goal

pub loop-init : goal.loop-init
loop-init g c =
    let m = meaning g.K.Code.encoding g.V.Code.encoding g.K.Code.is_encodable g.V.Code.is_encodable g.K.Code.is_decodable g.V.Code.is_decodable g.P.Properties.age in (
      waits_here m g.D.Disk.is_known g.D.Disk.byte_at g.D.Disk.surely_lies g.D.Disk.faults c.args.self.now.core c.args.self.now.disk,
      leads_none m (BeginsNone c.args.flusher) c.args.self.now.core (λ it. begins_none_same c.args.flusher it it refl),
      refl,
      refl,
      refl,
      lies_none g.D.Disk.surely_lies g.D.Disk.faults c.args.self.now.disk,
    )

pub returns-in_err-answer_step-clause-waited : goal.returns-in_err-answer_step-clause-waited
returns-in_err-answer_step-clause-waited g c =
    let m = meaning g.K.Code.encoding g.V.Code.encoding g.K.Code.is_encodable g.V.Code.is_encodable g.K.Code.is_decodable g.V.Code.is_decodable g.P.Properties.age in
    waits_on m g.D.Disk.is_known g.D.Disk.byte_at g.D.Disk.surely_lies g.D.Disk.faults c.args.self.now.core c.loop.self.core c.step-received.new.core c.args.self.now.disk c.loop.self.disk c.loop.self.disk c.loop.invariant.0 (waits_stepped m g.D.Disk.is_known g.D.Disk.byte_at g.D.Disk.surely_lies g.D.Disk.faults (step.Receive c.args.flusher) c.step-received.result c.loop.self.core c.step-received.new.core c.loop.self.disk (λ s sound w. tt) tt c.step-received.ensures.meets)

pub returns-then-not-branch-clause-leads : goal.returns-then-not-branch-clause-leads
returns-then-not-branch-clause-leads g c =
    let m = meaning g.K.Code.encoding g.V.Code.encoding g.K.Code.is_encodable g.V.Code.is_encodable g.K.Code.is_decodable g.V.Code.is_decodable g.P.Properties.age in
    takes_all m c.args.flusher c.args.self.now.core c.step-received.new.core
    (receive_over m c.args.flusher c.args.self.now.core c.loop.self.core c.step-received.new.core c.step-received.result
    (done_nothing c.step-received.result c.in_ok-answer_step.field-0 (sym c.answer_step.ensures.says ∙ c.in_ok-answer_step.was) c.if-not-branch.true)
    c.loop.invariant.1 c.step-received.ensures.meets)

pub returns-then-wants_flush-clause-leads : goal.returns-then-wants_flush-clause-leads
returns-then-wants_flush-clause-leads g c =
    let m = meaning g.K.Code.encoding g.V.Code.encoding g.K.Code.is_encodable g.V.Code.is_encodable g.K.Code.is_decodable g.V.Code.is_decodable g.P.Properties.age in
    takes_some m c.args.flusher c.args.self.now.core c.step-received.new.core
    (receive_more m c.args.flusher c.args.self.now.core c.loop.self.core c.step-received.new.core c.step-received.result c.loop.invariant.1 c.step-received.ensures.meets)

pub returns-then-wants_flush-clause-waited : goal.returns-then-wants_flush-clause-waited
returns-then-wants_flush-clause-waited g c =
    let m = meaning g.K.Code.encoding g.V.Code.encoding g.K.Code.is_encodable g.V.Code.is_encodable g.K.Code.is_decodable g.V.Code.is_decodable g.P.Properties.age in
    waits_on m g.D.Disk.is_known g.D.Disk.byte_at g.D.Disk.surely_lies g.D.Disk.faults c.args.self.now.core c.loop.self.core c.step-received.new.core c.args.self.now.disk c.loop.self.disk c.loop.self.disk c.loop.invariant.0 (waits_stepped m g.D.Disk.is_known g.D.Disk.byte_at g.D.Disk.surely_lies g.D.Disk.faults (step.Receive c.args.flusher) c.step-received.result c.loop.self.core c.step-received.new.core c.loop.self.disk (λ s sound w. tt) tt c.step-received.ensures.meets)

pub returns-then-not-branch-clause-waited : goal.returns-then-not-branch-clause-waited
returns-then-not-branch-clause-waited g c =
    let m = meaning g.K.Code.encoding g.V.Code.encoding g.K.Code.is_encodable g.V.Code.is_encodable g.K.Code.is_decodable g.V.Code.is_decodable g.P.Properties.age in
    waits_on m g.D.Disk.is_known g.D.Disk.byte_at g.D.Disk.surely_lies g.D.Disk.faults c.args.self.now.core c.loop.self.core c.step-received.new.core c.args.self.now.disk c.loop.self.disk c.loop.self.disk c.loop.invariant.0 (waits_stepped m g.D.Disk.is_known g.D.Disk.byte_at g.D.Disk.surely_lies g.D.Disk.faults (step.Receive c.args.flusher) c.step-received.result c.loop.self.core c.step-received.new.core c.loop.self.disk (λ s sound w. tt) tt c.step-received.ensures.meets)

pub loop-preserved : goal.loop-preserved
loop-preserved g c =
    let m = meaning g.K.Code.encoding g.V.Code.encoding g.K.Code.is_encodable g.V.Code.is_encodable g.K.Code.is_decodable g.V.Code.is_decodable g.P.Properties.age in (
      waits_on m g.D.Disk.is_known g.D.Disk.byte_at g.D.Disk.surely_lies g.D.Disk.faults c.args.self.now.core c.loop.self.core c.step-received.new.core c.args.self.now.disk c.loop.self.disk c.loop.self.disk c.loop.invariant.0 (waits_stepped m g.D.Disk.is_known g.D.Disk.byte_at g.D.Disk.surely_lies g.D.Disk.faults (step.Receive c.args.flusher) c.step-received.result c.loop.self.core c.step-received.new.core c.loop.self.disk (λ s sound w. tt) tt c.step-received.ensures.meets),
      receive_more m c.args.flusher c.args.self.now.core c.loop.self.core c.step-received.new.core c.step-received.result c.loop.invariant.1 c.step-received.ensures.meets,
      c.step-received.ensures.lent.0 ∙ c.loop.invariant.2,
      c.step-received.ensures.lent.1 ∙ c.loop.invariant.3,
      c.loop.invariant.4,
      c.loop.invariant.5,
    )

pub returns-clause-waited : goal.returns-clause-waited
returns-clause-waited g c = c.loop.invariant.0

pub returns-clause-lent : goal.returns-clause-lent
returns-clause-lent g c = c.loop.invariant.2

pub returns-clause-io : goal.returns-clause-io
returns-clause-io g c = c.loop.invariant.3

pub returns-clause-hasher : goal.returns-clause-hasher
returns-clause-hasher g c = c.loop.invariant.4

pub returns-in_err-answer_step-clause-counts : goal.returns-in_err-answer_step-clause-counts
returns-in_err-answer_step-clause-counts g c = c.loop.invariant.5

pub returns-then-not-branch-clause-counts : goal.returns-then-not-branch-clause-counts
returns-then-not-branch-clause-counts g c = c.loop.invariant.5

pub returns-then-wants_flush-clause-counts : goal.returns-then-wants_flush-clause-counts
returns-then-wants_flush-clause-counts g c = c.loop.invariant.5

pub returns-clause-counts : goal.returns-clause-counts
returns-clause-counts g c = c.loop.invariant.5

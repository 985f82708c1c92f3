use Rattle.std.proofs.Common.{◌≡◌, true, false, refl, sym, subst, ◌∙◌}
use Rattle.foyer_core_run.specs.AtRest.{EndsBatchOnce, KeepsOthersIdle, Leads}
use Rattle.foyer_core_steps.specs.declared.step.Step.TheVariants as step
use Rattle.foyer_core_run.proofs.BatchRuns.{nothing_begins}
use Rattle.foyer_core_run.proofs.RestLemmas.{flush_more, flush_over, leads_none}
use Rattle.foyer_core_laws.specs.Content.{meaning}
use Rattle.foyer_storage_local.proofs.LocalAnswers.{done_nothing, done_something}
use Rattle.foyer_storage_local.proofs.LocalRuns.{lies_more, lies_none, waits_begun, waits_here, waits_on, waits_stepped}
use Rattle.foyer_storage_local.proofs.engine.LocalEngine.flush_waiting.Goals as goal

pub loop-init : goal.loop-init
loop-init g c =
    let m = meaning g.K.Code.encoding g.V.Code.encoding g.K.Code.is_encodable g.V.Code.is_encodable g.K.Code.is_decodable g.V.Code.is_decodable g.P.Properties.age in (
      waits_here m g.D.Disk.is_known g.D.Disk.byte_at g.D.Disk.surely_lies g.D.Disk.faults c.args.self.now.core c.args.self.now.disk,
      leads_none m (EndsBatchOnce c.args.self.now.env.reinsertion false c.args.flusher) c.args.self.now.core (λ it. ((λ none g ne idle. idle), λ ended. absurd (let e : false ≡ true = ended in cc))),
      refl,
      refl,
      refl,
      lies_none g.D.Disk.surely_lies g.D.Disk.faults c.args.self.now.disk,
    )

pub returns-in_err-is_empty-clause-waited : goal.returns-in_err-is_empty-clause-waited
returns-in_err-is_empty-clause-waited g c =
    let m = meaning g.K.Code.encoding g.V.Code.encoding g.K.Code.is_encodable g.V.Code.is_encodable g.K.Code.is_decodable g.V.Code.is_decodable g.P.Properties.age in
    waits_on m g.D.Disk.is_known g.D.Disk.byte_at g.D.Disk.surely_lies g.D.Disk.faults c.args.self.now.core c.loop.self.core c.receive_all.new.self.core c.args.self.now.disk c.loop.self.disk c.receive_all.new.self.disk c.loop.invariant.0 (c.in_err-is_empty.ensures.waited)

pub returns-in_err-has_begun-clause-waited : goal.returns-in_err-has_begun-clause-waited
returns-in_err-has_begun-clause-waited g c =
    let m = meaning g.K.Code.encoding g.V.Code.encoding g.K.Code.is_encodable g.V.Code.is_encodable g.K.Code.is_decodable g.V.Code.is_decodable g.P.Properties.age in
    let received = waits_on m g.D.Disk.is_known g.D.Disk.byte_at g.D.Disk.surely_lies g.D.Disk.faults c.args.self.now.core c.loop.self.core c.receive_all.new.self.core c.args.self.now.disk c.loop.self.disk c.receive_all.new.self.disk c.loop.invariant.0 (c.receive_all.ensures.waited) in
    waits_on m g.D.Disk.is_known g.D.Disk.byte_at g.D.Disk.surely_lies g.D.Disk.faults c.args.self.now.core c.receive_all.new.self.core c.begin_batch-begin.new.core c.args.self.now.disk c.receive_all.new.self.disk c.receive_all.new.self.disk received (waits_begun m g.D.Disk.is_known g.D.Disk.byte_at g.D.Disk.surely_lies g.D.Disk.faults c.args.flusher g.L.MarkLog.appends c.receive_all.new.self.log c.begin_batch-begin.new.log c.begin_batch-begin.result c.receive_all.new.self.core c.begin_batch-begin.new.core c.receive_all.new.self.disk c.begin_batch-begin.ensures.begins)

pub returns-then-not-has_begun-clause-waited : goal.returns-then-not-has_begun-clause-waited
returns-then-not-has_begun-clause-waited g c =
    let m = meaning g.K.Code.encoding g.V.Code.encoding g.K.Code.is_encodable g.V.Code.is_encodable g.K.Code.is_decodable g.V.Code.is_decodable g.P.Properties.age in
    let received = waits_on m g.D.Disk.is_known g.D.Disk.byte_at g.D.Disk.surely_lies g.D.Disk.faults c.args.self.now.core c.loop.self.core c.receive_all.new.self.core c.args.self.now.disk c.loop.self.disk c.receive_all.new.self.disk c.loop.invariant.0 (c.receive_all.ensures.waited) in
    waits_on m g.D.Disk.is_known g.D.Disk.byte_at g.D.Disk.surely_lies g.D.Disk.faults c.args.self.now.core c.receive_all.new.self.core c.begin_batch-begin.new.core c.args.self.now.disk c.receive_all.new.self.disk c.receive_all.new.self.disk received (waits_begun m g.D.Disk.is_known g.D.Disk.byte_at g.D.Disk.surely_lies g.D.Disk.faults c.args.flusher g.L.MarkLog.appends c.receive_all.new.self.log c.begin_batch-begin.new.log c.begin_batch-begin.result c.receive_all.new.self.core c.begin_batch-begin.new.core c.receive_all.new.self.disk c.begin_batch-begin.ensures.begins)

pub returns-then-not-has_begun-clause-leads : goal.returns-then-not-has_begun-clause-leads
returns-then-not-has_begun-clause-leads g c =
    let m = meaning g.K.Code.encoding g.V.Code.encoding g.K.Code.is_encodable g.V.Code.is_encodable g.K.Code.is_decodable g.V.Code.is_decodable g.P.Properties.age in
    let nothing = done_nothing c.begin_batch-begin.result c.in_ok-has_begun.has_begun (sym c.answer_step.ensures.says ∙ c.in_ok-has_begun.was) c.if-not-has_begun.true in
    flush_over m c.args.self.now.env.reinsertion c.args.flusher c.loop.has_ended c.in_ok-is_empty.is_empty c.args.self.now.core c.loop.self.core c.receive_all.new.self.core c.begin_batch-begin.new.core
    c.loop.invariant.1 c.in_ok-is_empty.ensures.leads c.begin_batch-begin.result c.if-has_ended.true c.if-is_empty.true nothing
    (c.begin_batch-begin.ensures.alone (nothing_begins c.begin_batch-begin.result nothing))

pub returns-in_err-write_all-clause-waited : goal.returns-in_err-write_all-clause-waited
returns-in_err-write_all-clause-waited g c =
    let m = meaning g.K.Code.encoding g.V.Code.encoding g.K.Code.is_encodable g.V.Code.is_encodable g.K.Code.is_decodable g.V.Code.is_decodable g.P.Properties.age in
    let received = waits_on m g.D.Disk.is_known g.D.Disk.byte_at g.D.Disk.surely_lies g.D.Disk.faults c.args.self.now.core c.loop.self.core c.receive_all.new.self.core c.args.self.now.disk c.loop.self.disk c.receive_all.new.self.disk c.loop.invariant.0 (c.receive_all.ensures.waited) in
    let begun = waits_on m g.D.Disk.is_known g.D.Disk.byte_at g.D.Disk.surely_lies g.D.Disk.faults c.args.self.now.core c.receive_all.new.self.core c.begin_batch-begin.new.core c.args.self.now.disk c.receive_all.new.self.disk c.receive_all.new.self.disk received (waits_begun m g.D.Disk.is_known g.D.Disk.byte_at g.D.Disk.surely_lies g.D.Disk.faults c.args.flusher g.L.MarkLog.appends c.receive_all.new.self.log c.begin_batch-begin.new.log c.begin_batch-begin.result c.receive_all.new.self.core c.begin_batch-begin.new.core c.receive_all.new.self.disk c.begin_batch-begin.ensures.begins) in
    waits_on m g.D.Disk.is_known g.D.Disk.byte_at g.D.Disk.surely_lies g.D.Disk.faults c.args.self.now.core c.begin_batch-begin.new.core c.write_all.new.self.core c.args.self.now.disk c.receive_all.new.self.disk c.write_all.new.self.disk begun (c.write_all.ensures.waited)

pub returns-in_err-answer_step-clause-waited : goal.returns-in_err-answer_step-clause-waited
returns-in_err-answer_step-clause-waited g c =
    let m = meaning g.K.Code.encoding g.V.Code.encoding g.K.Code.is_encodable g.V.Code.is_encodable g.K.Code.is_decodable g.V.Code.is_decodable g.P.Properties.age in
    let received = waits_on m g.D.Disk.is_known g.D.Disk.byte_at g.D.Disk.surely_lies g.D.Disk.faults c.args.self.now.core c.loop.self.core c.receive_all.new.self.core c.args.self.now.disk c.loop.self.disk c.receive_all.new.self.disk c.loop.invariant.0 (c.receive_all.ensures.waited) in
    let begun = waits_on m g.D.Disk.is_known g.D.Disk.byte_at g.D.Disk.surely_lies g.D.Disk.faults c.args.self.now.core c.receive_all.new.self.core c.begin_batch-begin.new.core c.args.self.now.disk c.receive_all.new.self.disk c.receive_all.new.self.disk received (waits_begun m g.D.Disk.is_known g.D.Disk.byte_at g.D.Disk.surely_lies g.D.Disk.faults c.args.flusher g.L.MarkLog.appends c.receive_all.new.self.log c.begin_batch-begin.new.log c.begin_batch-begin.result c.receive_all.new.self.core c.begin_batch-begin.new.core c.receive_all.new.self.disk c.begin_batch-begin.ensures.begins) in
    let written = waits_on m g.D.Disk.is_known g.D.Disk.byte_at g.D.Disk.surely_lies g.D.Disk.faults c.args.self.now.core c.begin_batch-begin.new.core c.write_all.new.self.core c.args.self.now.disk c.receive_all.new.self.disk c.write_all.new.self.disk begun (c.write_all.ensures.waited) in
    waits_on m g.D.Disk.is_known g.D.Disk.byte_at g.D.Disk.surely_lies g.D.Disk.faults c.args.self.now.core c.write_all.new.self.core c.step-end.new.core c.args.self.now.disk c.write_all.new.self.disk c.write_all.new.self.disk written (waits_stepped m g.D.Disk.is_known g.D.Disk.byte_at g.D.Disk.surely_lies g.D.Disk.faults (step.FlushEnd c.args.flusher) c.step-end.result c.write_all.new.self.core c.step-end.new.core c.write_all.new.self.disk (λ s sound w. tt) tt c.step-end.ensures.meets)

pub returns-then-not-branch-clause-waited : goal.returns-then-not-branch-clause-waited
returns-then-not-branch-clause-waited g c =
    let m = meaning g.K.Code.encoding g.V.Code.encoding g.K.Code.is_encodable g.V.Code.is_encodable g.K.Code.is_decodable g.V.Code.is_decodable g.P.Properties.age in
    let received = waits_on m g.D.Disk.is_known g.D.Disk.byte_at g.D.Disk.surely_lies g.D.Disk.faults c.args.self.now.core c.loop.self.core c.receive_all.new.self.core c.args.self.now.disk c.loop.self.disk c.receive_all.new.self.disk c.loop.invariant.0 (c.receive_all.ensures.waited) in
    let begun = waits_on m g.D.Disk.is_known g.D.Disk.byte_at g.D.Disk.surely_lies g.D.Disk.faults c.args.self.now.core c.receive_all.new.self.core c.begin_batch-begin.new.core c.args.self.now.disk c.receive_all.new.self.disk c.receive_all.new.self.disk received (waits_begun m g.D.Disk.is_known g.D.Disk.byte_at g.D.Disk.surely_lies g.D.Disk.faults c.args.flusher g.L.MarkLog.appends c.receive_all.new.self.log c.begin_batch-begin.new.log c.begin_batch-begin.result c.receive_all.new.self.core c.begin_batch-begin.new.core c.receive_all.new.self.disk c.begin_batch-begin.ensures.begins) in
    let written = waits_on m g.D.Disk.is_known g.D.Disk.byte_at g.D.Disk.surely_lies g.D.Disk.faults c.args.self.now.core c.begin_batch-begin.new.core c.write_all.new.self.core c.args.self.now.disk c.receive_all.new.self.disk c.write_all.new.self.disk begun (c.write_all.ensures.waited) in
    waits_on m g.D.Disk.is_known g.D.Disk.byte_at g.D.Disk.surely_lies g.D.Disk.faults c.args.self.now.core c.write_all.new.self.core c.step-end.new.core c.args.self.now.disk c.write_all.new.self.disk c.write_all.new.self.disk written (waits_stepped m g.D.Disk.is_known g.D.Disk.byte_at g.D.Disk.surely_lies g.D.Disk.faults (step.FlushEnd c.args.flusher) c.step-end.result c.write_all.new.self.core c.step-end.new.core c.write_all.new.self.disk (λ s sound w. tt) tt c.step-end.ensures.meets)

pub loop-preserved : goal.loop-preserved
loop-preserved g c =
    let m = meaning g.K.Code.encoding g.V.Code.encoding g.K.Code.is_encodable g.V.Code.is_encodable g.K.Code.is_decodable g.V.Code.is_decodable g.P.Properties.age in
    let still : c.begin_batch-begin.new.env.reinsertion ≡ c.args.self.now.env.reinsertion = c.begin_batch-begin.ensures.lent.0 ∙ c.receive_all.ensures.lent ∙ c.loop.invariant.2 in
    let received = waits_on m g.D.Disk.is_known g.D.Disk.byte_at g.D.Disk.surely_lies g.D.Disk.faults c.args.self.now.core c.loop.self.core c.receive_all.new.self.core c.args.self.now.disk c.loop.self.disk c.receive_all.new.self.disk c.loop.invariant.0 (c.receive_all.ensures.waited) in
    let begun = waits_on m g.D.Disk.is_known g.D.Disk.byte_at g.D.Disk.surely_lies g.D.Disk.faults c.args.self.now.core c.receive_all.new.self.core c.begin_batch-begin.new.core c.args.self.now.disk c.receive_all.new.self.disk c.receive_all.new.self.disk received (waits_begun m g.D.Disk.is_known g.D.Disk.byte_at g.D.Disk.surely_lies g.D.Disk.faults c.args.flusher g.L.MarkLog.appends c.receive_all.new.self.log c.begin_batch-begin.new.log c.begin_batch-begin.result c.receive_all.new.self.core c.begin_batch-begin.new.core c.receive_all.new.self.disk c.begin_batch-begin.ensures.begins) in
    let written = waits_on m g.D.Disk.is_known g.D.Disk.byte_at g.D.Disk.surely_lies g.D.Disk.faults c.args.self.now.core c.begin_batch-begin.new.core c.write_all.new.self.core c.args.self.now.disk c.receive_all.new.self.disk c.write_all.new.self.disk begun (c.write_all.ensures.waited) in (
      waits_on m g.D.Disk.is_known g.D.Disk.byte_at g.D.Disk.surely_lies g.D.Disk.faults c.args.self.now.core c.write_all.new.self.core c.step-end.new.core c.args.self.now.disk c.write_all.new.self.disk c.write_all.new.self.disk written (waits_stepped m g.D.Disk.is_known g.D.Disk.byte_at g.D.Disk.surely_lies g.D.Disk.faults (step.FlushEnd c.args.flusher) c.step-end.result c.write_all.new.self.core c.step-end.new.core c.write_all.new.self.disk (λ s sound w. tt) tt c.step-end.ensures.meets),
      flush_more m c.args.self.now.env.reinsertion c.args.flusher c.loop.has_ended c.in_ok-is_empty.is_empty c.args.self.now.core c.loop.self.core c.receive_all.new.self.core c.begin_batch-begin.new.core
          c.loop.invariant.1 c.in_ok-is_empty.ensures.leads c.begin_batch-begin.ensures.keeps c.step-end.result c.write_all.new.self.core c.step-end.new.core
          (done_something c.step-end.result c.in_ok-answer_step.field-0 (sym c.answer_step-in-loop.ensures.says ∙ c.in_ok-answer_step.was) c.if-not-branch.false)
          (subst (λ k. Leads m (KeepsOthersIdle k c.args.flusher) c.begin_batch-begin.new.core c.write_all.new.self.core) still c.in_ok-write_all.ensures.leads) c.step-end.ensures.meets,
      c.step-end.ensures.lent.0 ∙ c.write_all.ensures.lent ∙ still,
      c.step-end.ensures.lent.1 ∙ c.write_all.ensures.io ∙ c.begin_batch-begin.ensures.lent.1 ∙ c.receive_all.ensures.io ∙ c.loop.invariant.3,
      c.write_all.ensures.hasher ∙ c.receive_all.ensures.hasher ∙ c.loop.invariant.4,
      lies_more g.D.Disk.surely_lies g.D.Disk.faults c.args.self.now.disk c.receive_all.new.self.disk c.write_all.new.self.disk (lies_more g.D.Disk.surely_lies g.D.Disk.faults c.args.self.now.disk c.loop.self.disk c.receive_all.new.self.disk c.loop.invariant.5 c.receive_all.ensures.counts) c.write_all.ensures.counts,
    )

pub returns-clause-waited : goal.returns-clause-waited
returns-clause-waited g c = c.loop.invariant.0

pub returns-clause-lent : goal.returns-clause-lent
returns-clause-lent g c = c.loop.invariant.2

pub returns-clause-io : goal.returns-clause-io
returns-clause-io g c = c.loop.invariant.3

pub returns-clause-hasher : goal.returns-clause-hasher
returns-clause-hasher g c = c.loop.invariant.4

pub returns-in_err-is_empty-clause-counts : goal.returns-in_err-is_empty-clause-counts
returns-in_err-is_empty-clause-counts g c = lies_more g.D.Disk.surely_lies g.D.Disk.faults c.args.self.now.disk c.loop.self.disk c.receive_all.new.self.disk c.loop.invariant.5 c.receive_all.ensures.counts

pub returns-in_err-has_begun-clause-counts : goal.returns-in_err-has_begun-clause-counts
returns-in_err-has_begun-clause-counts g c = lies_more g.D.Disk.surely_lies g.D.Disk.faults c.args.self.now.disk c.loop.self.disk c.receive_all.new.self.disk c.loop.invariant.5 c.receive_all.ensures.counts

pub returns-then-not-has_begun-clause-counts : goal.returns-then-not-has_begun-clause-counts
returns-then-not-has_begun-clause-counts g c = lies_more g.D.Disk.surely_lies g.D.Disk.faults c.args.self.now.disk c.loop.self.disk c.receive_all.new.self.disk c.loop.invariant.5 c.receive_all.ensures.counts

pub returns-in_err-write_all-clause-counts : goal.returns-in_err-write_all-clause-counts
returns-in_err-write_all-clause-counts g c = lies_more g.D.Disk.surely_lies g.D.Disk.faults c.args.self.now.disk c.receive_all.new.self.disk c.write_all.new.self.disk (lies_more g.D.Disk.surely_lies g.D.Disk.faults c.args.self.now.disk c.loop.self.disk c.receive_all.new.self.disk c.loop.invariant.5 c.receive_all.ensures.counts) c.write_all.ensures.counts

pub returns-in_err-answer_step-clause-counts : goal.returns-in_err-answer_step-clause-counts
returns-in_err-answer_step-clause-counts g c = lies_more g.D.Disk.surely_lies g.D.Disk.faults c.args.self.now.disk c.receive_all.new.self.disk c.write_all.new.self.disk (lies_more g.D.Disk.surely_lies g.D.Disk.faults c.args.self.now.disk c.loop.self.disk c.receive_all.new.self.disk c.loop.invariant.5 c.receive_all.ensures.counts) c.write_all.ensures.counts

pub returns-then-not-branch-clause-counts : goal.returns-then-not-branch-clause-counts
returns-then-not-branch-clause-counts g c = lies_more g.D.Disk.surely_lies g.D.Disk.faults c.args.self.now.disk c.receive_all.new.self.disk c.write_all.new.self.disk (lies_more g.D.Disk.surely_lies g.D.Disk.faults c.args.self.now.disk c.loop.self.disk c.receive_all.new.self.disk c.loop.invariant.5 c.receive_all.ensures.counts) c.write_all.ensures.counts

pub returns-clause-counts : goal.returns-clause-counts
returns-clause-counts g c = c.loop.invariant.5

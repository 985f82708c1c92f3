use Rattle.std.proofs.Common.{refl}
use Rattle.foyer_core_steps.specs.declared.step.Step.TheVariants as step
use Rattle.foyer_core_run.proofs.RestLemmas.{wait_keeps}
use Rattle.foyer_core_laws.specs.Content.{meaning}
use Rattle.foyer_storage_local.proofs.LocalRuns.{lies_none, waits_stepped}
use Rattle.foyer_storage_local.proofs.engine.LocalEngine.queue_wait.Goals as goal

pub returns-in_err-answer_step-clause-leads : goal.returns-in_err-answer_step-clause-leads
returns-in_err-answer_step-clause-leads g c =
    let m = meaning g.K.Code.encoding g.V.Code.encoding g.K.Code.is_encodable g.V.Code.is_encodable g.K.Code.is_decodable g.V.Code.is_decodable g.P.Properties.age in
    wait_keeps m c.args.flusher c.step-queued.result c.args.self.now.core c.step-queued.new.core c.args.self.now.next_wait c.step-queued.ensures.meets

pub returns-in_err-answer_step-clause-waited : goal.returns-in_err-answer_step-clause-waited
returns-in_err-answer_step-clause-waited g c =
    let m = meaning g.K.Code.encoding g.V.Code.encoding g.K.Code.is_encodable g.V.Code.is_encodable g.K.Code.is_decodable g.V.Code.is_decodable g.P.Properties.age in
    waits_stepped m g.D.Disk.is_known g.D.Disk.byte_at g.D.Disk.surely_lies g.D.Disk.faults (step.Wait c.args.flusher c.args.self.now.next_wait) c.step-queued.result c.args.self.now.core c.step-queued.new.core c.args.self.now.disk (λ s sound w. tt) tt c.step-queued.ensures.meets

pub returns-clause-leads : goal.returns-clause-leads
returns-clause-leads g c =
    let m = meaning g.K.Code.encoding g.V.Code.encoding g.K.Code.is_encodable g.V.Code.is_encodable g.K.Code.is_decodable g.V.Code.is_decodable g.P.Properties.age in
    wait_keeps m c.args.flusher c.step-queued.result c.args.self.now.core c.step-queued.new.core c.args.self.now.next_wait c.step-queued.ensures.meets

pub returns-clause-waited : goal.returns-clause-waited
returns-clause-waited g c =
    let m = meaning g.K.Code.encoding g.V.Code.encoding g.K.Code.is_encodable g.V.Code.is_encodable g.K.Code.is_decodable g.V.Code.is_decodable g.P.Properties.age in
    waits_stepped m g.D.Disk.is_known g.D.Disk.byte_at g.D.Disk.surely_lies g.D.Disk.faults (step.Wait c.args.flusher c.args.self.now.next_wait) c.step-queued.result c.args.self.now.core c.step-queued.new.core c.args.self.now.disk (λ s sound w. tt) tt c.step-queued.ensures.meets

pub returns-in_err-answer_step-clause-counts : goal.returns-in_err-answer_step-clause-counts
returns-in_err-answer_step-clause-counts g c = lies_none g.D.Disk.surely_lies g.D.Disk.faults c.args.self.now.disk

pub returns-clause-counts : goal.returns-clause-counts
returns-clause-counts g c = lies_none g.D.Disk.surely_lies g.D.Disk.faults c.args.self.now.disk

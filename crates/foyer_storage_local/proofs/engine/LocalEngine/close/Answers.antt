use Rattle.std.proofs.Common.{sym, ◌∙◌}
use Rattle.std.proofs.lemmas.Result.{IfOk-weaker}
use Rattle.foyer_core_run.specs.AtRest.{LeavesAllIdle}
use Rattle.foyer_core_steps.specs.declared.step.Step.TheVariants as step
use Rattle.foyer_core_run.proofs.RestLemmas.{IsAny, comes_to_rest, leads_more, step_leads}
use Rattle.foyer_core_run.specs.Causes.{HasCome}
use Rattle.foyer_core_run.specs.Waiting.{IsClosing}
use Rattle.foyer_core_run.proofs.CauseLemmas.{cause_drives}
use Rattle.foyer_core_laws.specs.Content.{meaning}
use Rattle.foyer_storage_local.specs.Closing.{HasClosed}
use Rattle.foyer_storage_local.proofs.CloseLemmas.{close_done, closed_before}
use Rattle.foyer_storage_local.proofs.LocalRuns.{close_alone, close_before}
use Rattle.foyer_storage_local.proofs.engine.LocalEngine.close.Goals as goal

pub returns-in_err-answer_step-clause-honest : goal.returns-in_err-answer_step-clause-honest
returns-in_err-answer_step-clause-honest g c =
    let m = meaning g.K.Code.encoding g.V.Code.encoding g.K.Code.is_encodable g.V.Code.is_encodable g.K.Code.is_decodable g.V.Code.is_decodable g.P.Properties.age in
    let came = HasCome g.D.Disk.surely_lies g.D.Disk.faults c.args.self.now.disk c.args.self.now.disk in
    λ known. close_alone m came c.step-closed.result c.args.self.now.core c.step-closed.new.core (g.D.Disk.byte_at c.args.self.now.disk) c.step-closed.ensures.meets

pub returns-in_err-answer_step-clause-closed : goal.returns-in_err-answer_step-clause-closed
returns-in_err-answer_step-clause-closed g c =
    let m = meaning g.K.Code.encoding g.V.Code.encoding g.K.Code.is_encodable g.V.Code.is_encodable g.K.Code.is_decodable g.V.Code.is_decodable g.P.Properties.age in
    let came = HasCome g.D.Disk.surely_lies g.D.Disk.faults c.args.self.now.disk c.args.self.now.disk in
    let bytes = g.D.Disk.byte_at c.args.self.now.disk in
    λ known. (
      known,
      cause_drives m came IsClosing c.args.self.now.core c.step-closed.new.core bytes bytes (close_alone m came c.step-closed.result c.args.self.now.core c.step-closed.new.core bytes c.step-closed.ensures.meets),
    )

pub returns-clause-honest : goal.returns-clause-honest
returns-clause-honest g c =
    let m = meaning g.K.Code.encoding g.V.Code.encoding g.K.Code.is_encodable g.V.Code.is_encodable g.K.Code.is_decodable g.V.Code.is_decodable g.P.Properties.age in
    let came = HasCome g.D.Disk.surely_lies g.D.Disk.faults c.args.self.now.disk c.flush_queued.new.self.disk in
    let bytes = g.D.Disk.byte_at c.args.self.now.disk in
    λ known. close_before m came c.args.self.now.core c.step-closed.new.core c.flush_queued.new.self.core bytes bytes (g.D.Disk.byte_at c.flush_queued.new.self.disk)
    (close_alone m came c.step-closed.result c.args.self.now.core c.step-closed.new.core bytes c.step-closed.ensures.meets) ((c.flush_queued.ensures.waited).1 known).1

pub returns-clause-closed : goal.returns-clause-closed
returns-clause-closed g c =
    let m = meaning g.K.Code.encoding g.V.Code.encoding g.K.Code.is_encodable g.V.Code.is_encodable g.K.Code.is_decodable g.V.Code.is_decodable g.P.Properties.age in
    let came = HasCome g.D.Disk.surely_lies g.D.Disk.faults c.args.self.now.disk c.flush_queued.new.self.disk in
    let bytes = g.D.Disk.byte_at c.args.self.now.disk in
    let after = g.D.Disk.byte_at c.flush_queued.new.self.disk in
    λ known.
    let waited = (c.flush_queued.ensures.waited).1 known in (
      waited.0,
      cause_drives m came IsClosing c.args.self.now.core c.flush_queued.new.self.core bytes after
          (close_before m came c.args.self.now.core c.step-closed.new.core c.flush_queued.new.self.core bytes bytes after
          (close_alone m came c.step-closed.result c.args.self.now.core c.step-closed.new.core bytes c.step-closed.ensures.meets) waited.1),
    )

pub returns-clause-accepted : goal.returns-clause-accepted
returns-clause-accepted g c =
    let m = meaning g.K.Code.encoding g.V.Code.encoding g.K.Code.is_encodable g.V.Code.is_encodable g.K.Code.is_decodable g.V.Code.is_decodable g.P.Properties.age in
    let came = HasCome g.D.Disk.surely_lies g.D.Disk.faults c.args.self.now.disk c.flush_queued.new.self.disk in
    let bytes = g.D.Disk.byte_at c.args.self.now.disk in
    let after = g.D.Disk.byte_at c.flush_queued.new.self.disk in
    IfOk-weaker c.flush_queued.result _ _ (λ flushed led. λ known.
    cause_drives m came HasClosed c.args.self.now.core c.flush_queued.new.self.core bytes after
    (closed_before m came c.args.self.now.core c.step-closed.new.core c.flush_queued.new.self.core bytes bytes after
    (close_done m came c.step-closed.result c.in_ok-answer_step.field-0 c.args.self.now.core c.step-closed.new.core bytes (sym c.answer_step.ensures.says ∙ c.in_ok-answer_step.was) c.step-closed.ensures.meets)
    ((c.flush_queued.ensures.waited).1 known).1)) c.flush_queued.ensures.leads

pub returns-clause-rest : goal.returns-clause-rest
returns-clause-rest g c =
    let m = meaning g.K.Code.encoding g.V.Code.encoding g.K.Code.is_encodable g.V.Code.is_encodable g.K.Code.is_decodable g.V.Code.is_decodable g.P.Properties.age in
    IfOk-weaker c.flush_queued.result _ _ (λ done led. comes_to_rest m c.args.self.now.core c.flush_queued.new.self.core
    (leads_more m IsAny LeavesAllIdle LeavesAllIdle c.args.self.now.core c.step-closed.new.core c.flush_queued.new.self.core (λ x y z one two. two)
    (step_leads m step.Close c.step-closed.result c.args.self.now.core c.step-closed.new.core c.step-closed.ensures.meets) led)) c.flush_queued.ensures.leads

pub returns-clause-lies : goal.returns-clause-lies
returns-clause-lies g c = (c.flush_queued.ensures.counts).0

pub returns-clause-counted : goal.returns-clause-counted
returns-clause-counted g c = (c.flush_queued.ensures.counts).1

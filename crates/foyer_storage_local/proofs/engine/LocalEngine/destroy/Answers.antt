use Rattle.std.proofs.Common.{◌≡◌, true, Ok, inl, inr, refl, sym, subst, rules, ◌∙◌}
use Rattle.std.specs.Prelude.{IfErr, IsErr}
use Rattle.foyer_core_run.specs.Destroys.{HasDestroyed, IsDestroying}
use Rattle.foyer_core_run.specs.Waiting.{AllSteps}
use Rattle.foyer_core_run.proofs.OpenedRuns.{err_weakens}
use Rattle.foyer_core_laws.specs.Content.{meaning}
use Rattle.foyer_storage_local.specs.EntryCalls.{IsRefusedIfClosed}
use Rattle.foyer_storage_local.specs.StepAnswers.{is_destroy_error, is_wait_error}
use Rattle.foyer_storage_local.proofs.LocalAnswers.{refused_not_ok, wait_destroys}
use Rattle.foyer_storage_local.proofs.RefusedSteps.{begun_open, destroy_refused_closed}
use Rattle.foyer_storage_local.proofs.LocalRuns.{destroy_begun, destroy_waited, destroyed_if, fault_since, known_destroys, leads_by, lies_more}
use Rattle.foyer_storage_local.proofs.engine.LocalEngine.destroy.Goals as goal

pub returns-in_err-answer_begun-clause-honest : goal.returns-in_err-answer_begun-clause-honest
returns-in_err-answer_begun-clause-honest g c =
    let m = meaning g.K.Code.encoding g.V.Code.encoding g.K.Code.is_encodable g.V.Code.is_encodable g.K.Code.is_decodable g.V.Code.is_decodable g.P.Properties.age in
    let refused : IsErr c.from_residual.result = search rules in
    let leads = destroyed_if m g.D.Disk.is_known g.D.Disk.byte_at g.D.Disk.surely_lies g.D.Disk.faults ⊥ (c.from_residual.result ≡ Ok tt) c.args.self.now.core c.step-begun.new.core c.args.self.now.disk c.args.self.now.disk (refused_not_ok c.from_residual.result tt refused)
    (destroy_begun m g.D.Disk.is_known g.D.Disk.byte_at g.D.Disk.surely_lies g.D.Disk.faults c.step-begun.result c.args.self.now.core c.step-begun.new.core c.args.self.now.disk c.step-begun.ensures.meets) in
    λ known. (leads.1 known).1

pub returns-in_err-answer_begun-clause-destroyed : goal.returns-in_err-answer_begun-clause-destroyed
returns-in_err-answer_begun-clause-destroyed g c =
    let m = meaning g.K.Code.encoding g.V.Code.encoding g.K.Code.is_encodable g.V.Code.is_encodable g.K.Code.is_decodable g.V.Code.is_decodable g.P.Properties.age in
    let refused : IsErr c.from_residual.result = search rules in
    let leads = destroyed_if m g.D.Disk.is_known g.D.Disk.byte_at g.D.Disk.surely_lies g.D.Disk.faults ⊥ (c.from_residual.result ≡ Ok tt) c.args.self.now.core c.step-begun.new.core c.args.self.now.disk c.args.self.now.disk (refused_not_ok c.from_residual.result tt refused)
    (destroy_begun m g.D.Disk.is_known g.D.Disk.byte_at g.D.Disk.surely_lies g.D.Disk.faults c.step-begun.result c.args.self.now.core c.step-begun.new.core c.args.self.now.disk c.step-begun.ensures.meets) in
    leads_by m g.D.Disk.is_known g.D.Disk.byte_at g.D.Disk.surely_lies g.D.Disk.faults (λ events. AllSteps IsDestroying events × (c.from_residual.result ≡ Ok tt → HasDestroyed events)) c.args.self.now.core c.args.self.now.disk c.step-begun.new.core c.args.self.now.disk leads

pub returns-in_err-flush_until_done-clause-honest : goal.returns-in_err-flush_until_done-clause-honest
returns-in_err-flush_until_done-clause-honest g c =
    let m = meaning g.K.Code.encoding g.V.Code.encoding g.K.Code.is_encodable g.V.Code.is_encodable g.K.Code.is_decodable g.V.Code.is_decodable g.P.Properties.age in
    let refused : IsErr c.from_residual-in_err-flush_until_done.result = search rules in
    let flushed = known_destroys m g.D.Disk.is_known g.D.Disk.byte_at g.D.Disk.surely_lies g.D.Disk.faults ⊥ ⊥ c.args.self.now.core c.step-begun.new.core c.flush_until_done.new.self.core c.args.self.now.disk c.args.self.now.disk c.flush_until_done.new.self.disk
    (destroy_begun m g.D.Disk.is_known g.D.Disk.byte_at g.D.Disk.surely_lies g.D.Disk.faults c.step-begun.result c.args.self.now.core c.step-begun.new.core c.args.self.now.disk c.step-begun.ensures.meets)
    (destroy_waited m g.D.Disk.is_known g.D.Disk.byte_at g.D.Disk.surely_lies g.D.Disk.faults c.step-begun.new.core c.flush_until_done.new.self.core c.args.self.now.disk c.flush_until_done.new.self.disk c.flush_until_done.ensures.waited) in
    let leads = destroyed_if m g.D.Disk.is_known g.D.Disk.byte_at g.D.Disk.surely_lies g.D.Disk.faults ⊥ (c.from_residual-in_err-flush_until_done.result ≡ Ok tt) c.args.self.now.core c.flush_until_done.new.self.core c.args.self.now.disk c.flush_until_done.new.self.disk (refused_not_ok c.from_residual-in_err-flush_until_done.result tt refused) flushed in
    λ known. (leads.1 known).1

pub returns-in_err-flush_until_done-clause-destroyed : goal.returns-in_err-flush_until_done-clause-destroyed
returns-in_err-flush_until_done-clause-destroyed g c =
    let m = meaning g.K.Code.encoding g.V.Code.encoding g.K.Code.is_encodable g.V.Code.is_encodable g.K.Code.is_decodable g.V.Code.is_decodable g.P.Properties.age in
    let refused : IsErr c.from_residual-in_err-flush_until_done.result = search rules in
    let flushed = known_destroys m g.D.Disk.is_known g.D.Disk.byte_at g.D.Disk.surely_lies g.D.Disk.faults ⊥ ⊥ c.args.self.now.core c.step-begun.new.core c.flush_until_done.new.self.core c.args.self.now.disk c.args.self.now.disk c.flush_until_done.new.self.disk
    (destroy_begun m g.D.Disk.is_known g.D.Disk.byte_at g.D.Disk.surely_lies g.D.Disk.faults c.step-begun.result c.args.self.now.core c.step-begun.new.core c.args.self.now.disk c.step-begun.ensures.meets)
    (destroy_waited m g.D.Disk.is_known g.D.Disk.byte_at g.D.Disk.surely_lies g.D.Disk.faults c.step-begun.new.core c.flush_until_done.new.self.core c.args.self.now.disk c.flush_until_done.new.self.disk c.flush_until_done.ensures.waited) in
    let leads = destroyed_if m g.D.Disk.is_known g.D.Disk.byte_at g.D.Disk.surely_lies g.D.Disk.faults ⊥ (c.from_residual-in_err-flush_until_done.result ≡ Ok tt) c.args.self.now.core c.flush_until_done.new.self.core c.args.self.now.disk c.flush_until_done.new.self.disk (refused_not_ok c.from_residual-in_err-flush_until_done.result tt refused) flushed in
    leads_by m g.D.Disk.is_known g.D.Disk.byte_at g.D.Disk.surely_lies g.D.Disk.faults (λ events. AllSteps IsDestroying events × (c.from_residual-in_err-flush_until_done.result ≡ Ok tt → HasDestroyed events)) c.args.self.now.core c.args.self.now.disk c.flush_until_done.new.self.core c.flush_until_done.new.self.disk leads

pub returns-clause-honest : goal.returns-clause-honest
returns-clause-honest g c =
    let m = meaning g.K.Code.encoding g.V.Code.encoding g.K.Code.is_encodable g.V.Code.is_encodable g.K.Code.is_decodable g.V.Code.is_decodable g.P.Properties.age in
    let flushed = known_destroys m g.D.Disk.is_known g.D.Disk.byte_at g.D.Disk.surely_lies g.D.Disk.faults ⊥ ⊥ c.args.self.now.core c.step-begun.new.core c.flush_until_done.new.self.core c.args.self.now.disk c.args.self.now.disk c.flush_until_done.new.self.disk
    (destroy_begun m g.D.Disk.is_known g.D.Disk.byte_at g.D.Disk.surely_lies g.D.Disk.faults c.step-begun.result c.args.self.now.core c.step-begun.new.core c.args.self.now.disk c.step-begun.ensures.meets)
    (destroy_waited m g.D.Disk.is_known g.D.Disk.byte_at g.D.Disk.surely_lies g.D.Disk.faults c.step-begun.new.core c.flush_until_done.new.self.core c.args.self.now.disk c.flush_until_done.new.self.disk c.flush_until_done.ensures.waited) in
    let leads = known_destroys m g.D.Disk.is_known g.D.Disk.byte_at g.D.Disk.surely_lies g.D.Disk.faults ⊥ (c.clear.result ≡ Ok tt) c.args.self.now.core c.flush_until_done.new.self.core c.clear.new.self.core c.args.self.now.disk c.flush_until_done.new.self.disk c.clear.new.self.disk
    flushed c.clear.ensures.destroyed in
    λ known. (leads.1 known).1

pub returns-clause-destroyed : goal.returns-clause-destroyed
returns-clause-destroyed g c =
    let m = meaning g.K.Code.encoding g.V.Code.encoding g.K.Code.is_encodable g.V.Code.is_encodable g.K.Code.is_decodable g.V.Code.is_decodable g.P.Properties.age in
    let flushed = known_destroys m g.D.Disk.is_known g.D.Disk.byte_at g.D.Disk.surely_lies g.D.Disk.faults ⊥ ⊥ c.args.self.now.core c.step-begun.new.core c.flush_until_done.new.self.core c.args.self.now.disk c.args.self.now.disk c.flush_until_done.new.self.disk
    (destroy_begun m g.D.Disk.is_known g.D.Disk.byte_at g.D.Disk.surely_lies g.D.Disk.faults c.step-begun.result c.args.self.now.core c.step-begun.new.core c.args.self.now.disk c.step-begun.ensures.meets)
    (destroy_waited m g.D.Disk.is_known g.D.Disk.byte_at g.D.Disk.surely_lies g.D.Disk.faults c.step-begun.new.core c.flush_until_done.new.self.core c.args.self.now.disk c.flush_until_done.new.self.disk c.flush_until_done.ensures.waited) in
    let leads = known_destroys m g.D.Disk.is_known g.D.Disk.byte_at g.D.Disk.surely_lies g.D.Disk.faults ⊥ (c.clear.result ≡ Ok tt) c.args.self.now.core c.flush_until_done.new.self.core c.clear.new.self.core c.args.self.now.disk c.flush_until_done.new.self.disk c.clear.new.self.disk
    flushed c.clear.ensures.destroyed in
    leads_by m g.D.Disk.is_known g.D.Disk.byte_at g.D.Disk.surely_lies g.D.Disk.faults (λ events. AllSteps IsDestroying events × (c.clear.result ≡ Ok tt → HasDestroyed events)) c.args.self.now.core c.args.self.now.disk c.clear.new.self.core c.clear.new.self.disk leads

pub returns-in_err-flush_until_done-clause-lies : goal.returns-in_err-flush_until_done-clause-lies
returns-in_err-flush_until_done-clause-lies g c = (c.flush_until_done.ensures.counts).0

pub returns-clause-lies : goal.returns-clause-lies
returns-clause-lies g c = (lies_more g.D.Disk.surely_lies g.D.Disk.faults c.args.self.now.disk c.flush_until_done.new.self.disk c.clear.new.self.disk c.flush_until_done.ensures.counts c.clear.ensures.counts).0

pub returns-in_err-flush_until_done-clause-counted : goal.returns-in_err-flush_until_done-clause-counted
returns-in_err-flush_until_done-clause-counted g c = (c.flush_until_done.ensures.counts).1

pub returns-clause-counted : goal.returns-clause-counted
returns-clause-counted g c = (lies_more g.D.Disk.surely_lies g.D.Disk.faults c.args.self.now.disk c.flush_until_done.new.self.disk c.clear.new.self.disk c.flush_until_done.ensures.counts c.clear.ensures.counts).1

pub returns-in_err-answer_begun-clause-refused : goal.returns-in_err-answer_begun-clause-refused
returns-in_err-answer_begun-clause-refused g c =
    let begun : IfErr c.from_residual.result (λ e. is_destroy_error e ≡ true) = search rules in
    err_weakens c.from_residual.result _ _ (λ e is. inl is) begun

pub returns-in_err-flush_until_done-clause-refused : goal.returns-in_err-flush_until_done-clause-refused
returns-in_err-flush_until_done-clause-refused g c =
    let waits : IfErr c.from_residual-in_err-flush_until_done.result (λ e. is_wait_error e ≡ true) = search rules in
    err_weakens c.from_residual-in_err-flush_until_done.result _ _ (λ e is. inl (wait_destroys e is)) waits

pub returns-clause-refused : goal.returns-clause-refused
returns-clause-refused g c =
    let lies = g.D.Disk.surely_lies in
    let faults = g.D.Disk.faults in
    let old = c.args.self.now.disk in
    let flushed = c.flush_until_done.new.self.disk in
    err_weakens c.clear.result _ _ (λ e said. elim said [
      | inl is ↦ inl (wait_destroys e is)
      | inr fault ↦ inr (fault_since lies faults g.D.Disk.may_answer old flushed e c.flush_until_done.ensures.counts fault)
    ]) c.clear.ensures.refused

pub returns-in_err-answer_begun-clause-closed : goal.returns-in_err-answer_begun-clause-closed
returns-in_err-answer_begun-clause-closed g c =
    let m = meaning g.K.Code.encoding g.V.Code.encoding g.K.Code.is_encodable g.V.Code.is_encodable g.K.Code.is_decodable g.V.Code.is_decodable g.P.Properties.age in
    let core = c.args.self.now.core in
    let same : c.from_residual.result ≡ c.answer_begun.result = search rules in
    subst (λ r. IsRefusedIfClosed m core r) (sym (same ∙ c.answer_begun.ensures.says)) (destroy_refused_closed m c.step-begun.result core c.step-begun.new.core c.step-begun.ensures.meets)

pub returns-in_err-flush_until_done-clause-closed : goal.returns-in_err-flush_until_done-clause-closed
returns-in_err-flush_until_done-clause-closed g c =
    let m = meaning g.K.Code.encoding g.V.Code.encoding g.K.Code.is_encodable g.V.Code.is_encodable g.K.Code.is_decodable g.V.Code.is_decodable g.P.Properties.age in
    let core = c.args.self.now.core in
    let ok : c.answer_begun.result ≡ Ok tt = search rules in
    begun_open m core c.answer_begun.result c.from_residual-in_err-flush_until_done.result ok
    (subst (λ r. IsRefusedIfClosed m core r) (sym c.answer_begun.ensures.says) (destroy_refused_closed m c.step-begun.result core c.step-begun.new.core c.step-begun.ensures.meets))

pub returns-clause-closed : goal.returns-clause-closed
returns-clause-closed g c =
    let m = meaning g.K.Code.encoding g.V.Code.encoding g.K.Code.is_encodable g.V.Code.is_encodable g.K.Code.is_decodable g.V.Code.is_decodable g.P.Properties.age in
    let core = c.args.self.now.core in
    let ok : c.answer_begun.result ≡ Ok tt = search rules in
    begun_open m core c.answer_begun.result c.clear.result ok
    (subst (λ r. IsRefusedIfClosed m core r) (sym c.answer_begun.ensures.says) (destroy_refused_closed m c.step-begun.result core c.step-begun.new.core c.step-begun.ensures.meets))

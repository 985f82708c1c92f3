use Rattle.std.proofs.Common.{◌≡◌, sym, subst}
use Rattle.std.specs.Prelude.{◌⊎◌, Some, IfSome}
use Rattle.foyer_core_model.specs.Numbers.{page}
use Rattle.foyer_core_laws.specs.Content.{meaning}
use Rattle.foyer_core_run.specs.Causes.{HasCome}
use Rattle.foyer_core_run.proofs.DestroyRuns.{cleans_once}
use Rattle.foyer_core_run.proofs.ReclaimRuns.{clean_done}
use Rattle.foyer_storage_local.proofs.LocalAnswers.{first_fault}
use Rattle.foyer_storage_local.proofs.engine.LocalEngine.clean.Goals as goal

pub returns-clause-cleans : goal.returns-clause-cleans
returns-clause-cleans g c = λ known.
    let m = meaning g.K.Code.encoding g.V.Code.encoding g.K.Code.is_encodable g.V.Code.is_encodable g.K.Code.is_decodable g.V.Code.is_decodable g.P.Properties.age in
    let bytes = g.D.Disk.byte_at c.args.self.now.disk in
    let after = g.D.Disk.byte_at c.clean_page-outcome.new.disk in
    let outcome = c.clean_page-outcome.result in
    cleans_once m (HasCome g.D.Disk.surely_lies g.D.Disk.faults c.args.self.now.disk c.clean_page-outcome.new.disk) c.args.block outcome c.apply.result c.args.self.now.core c.apply.new.self bytes after
    (clean_done bytes after c.args.block outcome (c.clean_page-outcome.ensures.cleaned known) (c.clean_page-outcome.ensures.torn known)) c.clean_page-outcome.ensures.fails c.apply.ensures.meets

pub returns-clause-fault : goal.returns-clause-fault
returns-clause-fault g c =
    let may = g.D.Disk.may_answer c.args.self.now.disk c.args.block 0 page in
    subst (λ o. IfSome o (λ e. (c.args.first ≡ Some e) ⊎ may e)) (sym c.first_of-first.ensures)
    (first_fault c.args.first c.clean_page-outcome.result may c.clean_page-outcome.ensures.fault)

use Rattle.foyer_core_laws.specs.Content.{meaning}
use Rattle.foyer_core_model.specs.Numbers.{page}
use Rattle.foyer_core_run.specs.Causes.{HasCome}
use Rattle.foyer_core_run.proofs.FaultLists.{unsure_lying}
use Rattle.foyer_core_run.proofs.DestroyRuns.{cleans_once}
use Rattle.foyer_core_run.proofs.ReclaimRuns.{clean_done}
use Rattle.foyer_core_run.proofs.destroys.clean.Goals as goal

pub returns-clause-cleans : goal.returns-clause-cleans
returns-clause-cleans g c = λ known.
    let m = meaning g.K.Code.encoding g.V.Code.encoding g.K.Code.is_encodable g.V.Code.is_encodable g.K.Code.is_decodable g.V.Code.is_decodable g.P.Properties.age in
    let bytes = g.D.Disk.byte_at c.args.disk.now in
    let after = g.D.Disk.byte_at c.clean-cleaned.new.disk in
    let outcome = c.clean-cleaned.result in
    cleans_once m (HasCome g.D.Disk.surely_lies g.D.Disk.faults c.args.disk.now c.clean-cleaned.new.disk) c.args.block outcome c.apply.result c.args.core.now c.apply.new.self bytes after
    (clean_done bytes after c.args.block outcome (c.clean-cleaned.ensures.cleaned known) (c.clean-cleaned.ensures.torn known))
    (unsure_lying outcome (g.D.Disk.surely_has c.args.disk.now) g.D.Disk.surely_lies g.D.Disk.faults c.args.disk.now c.clean-cleaned.new.disk c.args.block 0 page c.clean-cleaned.ensures.fails) c.apply.ensures.meets

use Rattle.foyer_storage_engine.proofs.EndingLemmas.{well_or}
use Rattle.foyer_storage_engine.proofs.HoldingLemmas.{closes_by_close}
use Rattle.foyer_storage_engine.proofs.engine.BlockEngine.close.Goals as goal

pub returns-clause-closed : goal.returns-clause-closed
returns-clause-closed g c =
    well_or c.wait.result (closes_by_close g.N.Noting.keeps c.args.session.now c.step.new.session c.wait.new.session c.step.result c.step.ensures.noted (λ why back is. c.in_default.not-Refused why back is) c.wait.ensures.named)

use Rattle.std.proofs.Common.{Some, refl, sym, subst}
use Rattle.foyer_storage_workers.specs.Releasing.{IsEndedAs}
use Rattle.foyer_storage_workers.specs.declared.workers.batch.BatchEnd.{BatchEnd}
use Rattle.foyer_storage_workers.proofs.workers.batch.do_end.Goals as goal

pub returns-in-Ended : goal.returns-in-Ended
returns-in-Ended g c =
    let end : BatchEnd g.row.K.Denot g.row.V.Denot g.row.P.Denot g.row.A.Denot = record { released = c.release_all-released.result; answered = c.answer_all-answered.result } in
    subst (λ r. IsEndedAs r (Some end)) (sym c.in-Ended.is) (end, refl, c.release_all-released.ensures, c.answer_all-answered.ensures)

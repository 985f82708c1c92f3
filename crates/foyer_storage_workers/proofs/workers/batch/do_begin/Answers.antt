use Rattle.std.proofs.Common.{sym, subst}
use Rattle.foyer_storage_workers.specs.Releasing.{IsBegunAs}
use Rattle.foyer_storage_workers.proofs.workers.batch.do_begin.Goals as goal

pub returns-in-Began-clause-begun : goal.returns-in-Began-clause-begun
returns-in-Began-clause-begun g c =
    subst (λ r. IsBegunAs r c.args.flusher c.args.engine.now.settings.tombstone_log c.log_marks.new.session c.log_marks.result) (sym c.in-Began.is) (c.log_marks.ensures.unlogged, c.log_marks.ensures.logged)

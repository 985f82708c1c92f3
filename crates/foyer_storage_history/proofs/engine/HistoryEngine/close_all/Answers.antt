use Rattle.std.proofs.Common.{sym, subst}
use Rattle.foyer_core_shared.specs.Sessions.{SessionState}
use Rattle.foyer_storage_engine.specs.Ending.{HoldsButCloses}
use Rattle.foyer_storage_history.proofs.HistoryLemmas.{ok_map}
use Rattle.foyer_storage_history.proofs.engine.HistoryEngine.close_all.Goals as goal

pub returns-clause-closed : goal.returns-clause-closed
returns-clause-closed g c =
    ok_map c.wait_all.result (λ waited. record {
      closed = c.close_core.new.session.told.witness.me.0;
      close = c.in-Ok.ensures.made;
      waited = waited;
    }) c.wait_all.ensures.waited

pub returns-clause-named : goal.returns-clause-named
returns-clause-named g c = subst (λ (s : SessionState). HoldsButCloses c.args.session.now.told.session s) (sym c.wait_all.ensures.same) c.close_core.ensures.named

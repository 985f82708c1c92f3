use Rattle.std.proofs.Common.{◌≡◌}
use Rattle.foyer_storage_history.proofs.engine.HistoryEngine.load_written.Given as goal

abbrev pub invariant-loop : goal.invariant-loop
invariant-loop g l = l.session.told ≡ l.fn.session.told

use Rattle.std.proofs.Common.{sym, subst}
use Rattle.foyer_storage_workers.specs.Turning.{IsTurnOf}
use Rattle.foyer_storage_workers.proofs.TurnLemmas.{turn_was}
use Rattle.foyer_storage_workers.proofs.workers.turn.take_turn.Goals as goal

pub returns-clause-was : goal.returns-clause-was
returns-clause-was g c =
    subst (λ t. IsTurnOf c.args.parts.now.flusher c.args.closed c.flush-is_busy.new.session t) (sym c.turn_of.ensures)
    (turn_was c.flush-is_busy.result c.args.closed c.args.parts.now.flusher c.flush-is_busy.new.session c.flush-is_busy.ensures.idle)

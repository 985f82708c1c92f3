use Rattle.std.proofs.Common.{subst}
use Rattle.foyer_storage_workers.specs.Turning.{IsIdle, IsTurnOf}
use Rattle.foyer_storage_workers.proofs.workers.flusher.work.Goals as goal

pub returns-in-Drained-clause-drained : goal.returns-in-Drained-clause-drained
returns-in-Drained-clause-drained g c =
    subst (λ n. IsIdle n c.take_turn.new.session) c.loop.invariant.2
    (subst (IsTurnOf c.loop.parts.flusher c.loop.closed c.take_turn.new.session) c.in-Drained.is c.take_turn.ensures.was).0

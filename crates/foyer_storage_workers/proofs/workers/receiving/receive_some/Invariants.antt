use Rattle.std.specs.Prelude.{◌≡◌, ◌<◌}
use Rattle.foyer_core_shared.specs.declared.brief.ReplyBrief.TheVariants as replied
use Rattle.foyer_storage_engine.specs.Ending.{HoldsNamed}
use Rattle.foyer_storage_workers.specs.Receiving.{GotOfQueue}
use Rattle.foyer_storage_workers.proofs.workers.receiving.receive_some.Given as goal

abbrev pub invariant-loop-taken : goal.invariant-loop-taken
invariant-loop-taken g l = (l.session.shares.parts ≡ l.fn.session.shares.parts) × HoldsNamed l.fn.session l.session
    × (0 < l.taken → GotOfQueue l.flusher l.session replied.Received)

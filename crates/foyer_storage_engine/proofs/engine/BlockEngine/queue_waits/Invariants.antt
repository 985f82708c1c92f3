use Rattle.std.specs.Prelude.{◌≡◌, ◌-◌, ◌<◌}
use Rattle.foyer_storage_engine.specs.Ending.{AsksToWait, HasMade, HoldsNamed}
use Rattle.foyer_storage_engine.proofs.engine.BlockEngine.queue_waits.Given as goal

abbrev pub invariant-loop-flusher : goal.invariant-loop-flusher
invariant-loop-flusher g l = (l.session.shares.parts ≡ l.fn.session.shares.parts) × (0 < l.flusher → AsksToWait (l.flusher - 1) l.id l.session) × HoldsNamed l.fn.session l.session × HasMade l.flusher l.fn.session l.session

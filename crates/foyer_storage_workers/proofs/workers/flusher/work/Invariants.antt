use Rattle.std.specs.Prelude.{◌≡◌}
use Rattle.foyer_storage_engine.specs.Ending.{HoldsNamed}
use Rattle.foyer_storage_workers.proofs.workers.flusher.work.Given as goal

abbrev pub invariant-loop : goal.invariant-loop
invariant-loop g l = (l.session.shares.parts ≡ l.fn.session.shares.parts) × HoldsNamed l.fn.session l.session × (l.parts.flusher ≡ l.fn.parts.flusher)

use Rattle.std.specs.Prelude.{◌≡◌}
use Rattle.foyer_storage_engine.specs.Ending.{HoldsButDestroys}
use Rattle.foyer_storage_engine.proofs.engine.BlockEngine.clear.Given as goal

abbrev pub invariant-loop : goal.invariant-loop
invariant-loop g l = (l.session.shares.parts ≡ l.fn.session.shares.parts) × HoldsButDestroys l.fn.session l.session

use Rattle.std.specs.Prelude.{◌≡◌}
use Rattle.foyer_storage_engine.specs.Ending.{HasMade, HoldsNamed}
use Rattle.foyer_storage_engine.proofs.engine.BlockEngine.wait_for_reclaims.Given as goal

abbrev pub invariant-loop : goal.invariant-loop
invariant-loop g l = (l.session.shares.parts ≡ l.fn.session.shares.parts) × HoldsNamed l.fn.session l.session × HasMade 0 l.fn.session l.session

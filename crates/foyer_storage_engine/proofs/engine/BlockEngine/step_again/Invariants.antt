-- step_again
use Rattle.std.specs.Prelude.{◌≡◌}
use Rattle.foyer_core_shared.specs.Briefs.{step_brief}
use Rattle.foyer_storage_engine.specs.Ending.{HoldsBut}
use Rattle.foyer_storage_engine.proofs.engine.BlockEngine.step_again.Given as goal

abbrev pub invariant-loop : goal.invariant-loop
invariant-loop g l = (l.session.shares.parts ≡ l.fn.session.shares.parts) × (l.given ≡ l.fn.step) × HoldsBut (step_brief l.fn.step) l.fn.session l.session

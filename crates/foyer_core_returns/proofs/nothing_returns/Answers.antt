use Rattle.foyer_core_returns.proofs.CoreReturns.{nothing_returns_lem}
use Rattle.foyer_core_returns.proofs.nothing_returns.Goals as goal

pub returns : goal.returns
returns c = nothing_returns_lem

use Rattle.foyer_core_returns.proofs.CoreReturns.{ended_is_gone_lem}
use Rattle.foyer_core_returns.proofs.ended_is_gone.Goals as goal

pub returns : goal.returns
returns c = ended_is_gone_lem

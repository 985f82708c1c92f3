use Rattle.foyer_core_restart.proofs.Total.{opens_unless_last_lem}
use Rattle.foyer_core_restart.proofs.opens_unless_last.Goals as goal

pub returns : goal.returns
returns g c = λ rules format. opens_unless_last_lem rules format

use Rattle.foyer_core_restart.proofs.Total.{lists_exist_lem}
use Rattle.foyer_core_restart.proofs.lists_exist.Goals as goal

pub returns : goal.returns
returns g c = λ rules format. lists_exist_lem rules format

use Rattle.foyer_core_restart.proofs.Placings.{split_is_real_lem}
use Rattle.foyer_core_restart.proofs.split_is_real.Goals as goal

pub returns : goal.returns
returns g c = λ rules format. split_is_real_lem g.row.A.Denot rules format

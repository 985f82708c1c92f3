use Rattle.foyer_core_restart.proofs.TornWitness.{finds_after_torn_lem}
use Rattle.foyer_core_restart.proofs.finds_after_torn.Goals as goal

pub returns : goal.returns
returns g c = finds_after_torn_lem g.row.A.Denot

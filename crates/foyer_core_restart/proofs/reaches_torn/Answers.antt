use Rattle.foyer_core_restart.proofs.TornWitness.{reaches_torn_lem}
use Rattle.foyer_core_restart.proofs.reaches_torn.Goals as goal

pub returns : goal.returns
returns g c = reaches_torn_lem g.row.A.Denot

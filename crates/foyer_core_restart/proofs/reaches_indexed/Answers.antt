use Rattle.foyer_core_restart.proofs.Witness.{reaches_indexed_lem}
use Rattle.foyer_core_restart.proofs.reaches_indexed.Goals as goal

pub returns : goal.returns
returns g c = reaches_indexed_lem g.row.A.Denot

use Rattle.foyer_core_told.proofs.ToldCounts.{runs_counted}
use Rattle.foyer_core_told.proofs.laws.runs_are_counted.Goals as goal

pub returns : goal.returns
returns g c m s sound byte_at = runs_counted m s sound byte_at

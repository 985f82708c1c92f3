use Rattle.foyer_core_told.proofs.ToldStepLemmas.{goes_on, leaves}
use Rattle.foyer_core_told.proofs.laws.step_goes_on.Goals as goal

pub returns-clause-goes_on : goal.returns-clause-goes_on
returns-clause-goes_on g c m s sound byte_at = goes_on m s sound byte_at

pub returns-clause-leaves : goal.returns-clause-leaves
returns-clause-leaves g c m s sound byte_at = leaves m s sound byte_at

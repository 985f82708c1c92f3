use Rattle.foyer_core_told.proofs.ToldStepLemmas.{opening_told}
use Rattle.foyer_core_told.proofs.laws.opening_is_told.Goals as goal

pub returns : goal.returns
returns g c m s sound byte_at = opening_told m s sound byte_at

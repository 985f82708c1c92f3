use Rattle.foyer_core_told.proofs.ToldStepLemmas.{leaves_disk}
use Rattle.foyer_core_told.proofs.laws.disk_is_left.Goals as goal

pub returns : goal.returns
returns g c m s sound byte_at = leaves_disk m s sound byte_at

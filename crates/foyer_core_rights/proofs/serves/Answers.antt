use Rattle.foyer_core_rights.proofs.ServingLemmas.{served}
use Rattle.foyer_core_rights.proofs.serves.Goals as goal

pub returns : goal.returns
returns g c rules splits is_value = served rules _ _

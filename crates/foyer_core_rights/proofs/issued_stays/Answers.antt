use Rattle.foyer_core_rights.proofs.IssuedLemmas.{stays}
use Rattle.foyer_core_rights.proofs.issued_stays.Goals as goal

pub returns : goal.returns
returns g c rules splits is_value w d demands = stays rules _ _ demands w d

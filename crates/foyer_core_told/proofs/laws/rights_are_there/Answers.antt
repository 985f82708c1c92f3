use Rattle.foyer_core_told.proofs.ToldRightLemmas.{rights_there}
use Rattle.foyer_core_told.proofs.laws.rights_are_there.Goals as goal

pub returns : goal.returns
returns c = rights_there

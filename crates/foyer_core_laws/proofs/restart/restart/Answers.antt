use Rattle.foyer_core_laws.proofs.FormatLemmas.{restart_lem}
use Rattle.foyer_core_laws.proofs.restart.restart.Goals as goal

pub returns : goal.returns
returns c = restart_lem

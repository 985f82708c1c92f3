use Rattle.foyer_core_laws.proofs.FormatLemmas.{restart_idle_lem}
use Rattle.foyer_core_laws.proofs.restart.restart_idle.Goals as goal

pub returns : goal.returns
returns c = restart_idle_lem

use Rattle.foyer_core_laws.proofs.FormatLemmas.{restart_newest_lem}
use Rattle.foyer_core_laws.proofs.restart.restart_keeps_newest.Goals as goal

pub returns : goal.returns
returns c = restart_newest_lem

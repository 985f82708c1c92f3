use Rattle.foyer_core_rights.proofs.LossLemmas.{loses}
use Rattle.foyer_core_rights.proofs.loses_by_reclaim.Goals as goal

pub returns : goal.returns
returns g c = loses

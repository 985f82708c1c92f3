use Rattle.foyer_core_run.proofs.DriveLemmas.{history_more}
use Rattle.foyer_core_run.proofs.accesses.histories_go_on.Goals as goal

pub returns : goal.returns
returns g c = λ m s sound first events old new bytes bytes'. history_more m s sound first events old new bytes bytes'

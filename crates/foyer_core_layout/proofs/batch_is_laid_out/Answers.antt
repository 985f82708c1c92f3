use Rattle.foyer_core_layout.proofs.BridgeLemmas.{batch_lays}
use Rattle.foyer_core_layout.proofs.batch_is_laid_out.Goals as goal

pub returns : goal.returns
returns g c = λ s b bytes infos whole f h batch rs. batch_lays s b bytes infos whole f h batch rs

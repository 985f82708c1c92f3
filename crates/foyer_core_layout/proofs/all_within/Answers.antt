use Rattle.foyer_core_layout.proofs.WithinLemmas.{all_within}
use Rattle.foyer_core_layout.proofs.all_within.Goals as goal

pub returns : goal.returns
returns g c = λ s f rs spreads. all_within s f rs spreads

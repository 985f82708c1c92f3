use Rattle.foyer_core_layout.proofs.KeepsLemmas.{goes_on}
use Rattle.foyer_core_layout.proofs.goes_on.Goals as goal

pub returns : goal.returns
returns g c = λ s f rs spreads. goes_on s f rs spreads

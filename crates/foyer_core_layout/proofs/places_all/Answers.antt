use Rattle.foyer_core_layout.proofs.GreedyLemmas.{places_all}
use Rattle.foyer_core_layout.proofs.places_all.Goals as goal

pub returns : goal.returns
returns g c = λ rules are small. places_all rules are small

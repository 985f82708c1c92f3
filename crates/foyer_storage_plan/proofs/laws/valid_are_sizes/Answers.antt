use Rattle.foyer_storage_plan.proofs.PlanLemmas.{valid_sizes}
use Rattle.foyer_storage_plan.proofs.laws.valid_are_sizes.Goals as goal

pub returns : goal.returns
returns c = valid_sizes

use Rattle.foyer_storage_plan.proofs.PlanLemmas.{plan_one}
use Rattle.foyer_storage_plan.proofs.laws.plan_is_one.Goals as goal

pub returns : goal.returns
returns c = plan_one

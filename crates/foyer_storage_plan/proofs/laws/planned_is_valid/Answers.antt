use Rattle.foyer_storage_plan.proofs.PlanLemmas.{planned_valid}
use Rattle.foyer_storage_plan.proofs.laws.planned_is_valid.Goals as goal

pub returns : goal.returns
returns c = λ s free log planned sizes room is. planned_valid s _ planned room.enough is sizes

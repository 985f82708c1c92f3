use Rattle.std.proofs.Common.{arith}
use Rattle.std.proofs.Math.Nat.{le_refl}
use Rattle.foyer_storage_plan.proofs.PlanLemmas.{planned_valid, small_index, valid_sizes}
use Rattle.foyer_storage_plan.proofs.sizes.EngineSizes.check.Goals as goal

pub returns-then-self-eq0-clause-sound : goal.returns-then-self-eq0-clause-sound
returns-then-self-eq0-clause-sound c = grind (arith, small_index)

pub returns-clause-sound : goal.returns-clause-sound
returns-clause-sound c = (
  λ ok. valid_sizes _ _ _ (omega arith) (omega arith) c.settings.ensures (c.check.ensures.sound.0 ok),
  λ sizes. c.check.ensures.sound.1 (planned_valid _ _ _ (le_refl _) c.settings.ensures sizes),
)

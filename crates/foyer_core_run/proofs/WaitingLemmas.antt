-- Events of one kind of steps, a wait's or a close's, one list after the other.
use Rattle.std.proofs.Common.{List, [], ◌∷◌, ◌++◌}
use Rattle.foyer_core_model.specs.Step as model_step
use Rattle.foyer_core_model.specs.World.{WorldEvent, Applies}
use Rattle.foyer_core_run.specs.Waiting.{AllSteps, IsWaiting, IsClosing}

pub all_join : {C : Type 0} (Is : model_step.Step C → Type 0) (one two : List (WorldEvent C)) → AllSteps Is one → AllSteps Is two → AllSteps Is (one ++ two)
all_join Is [] two all others = others
all_join Is (Applies given answer after ∷ one) two all others = (all.0, all_join Is one two all.1 others)
all_join Is (event ∷ one) two all others = all_join Is one two all others

pub closing_join : {C : Type 0} (one two : List (WorldEvent C)) → IsClosing one → AllSteps IsWaiting two → IsClosing (one ++ two)
closing_join [] two is others = absurd is
closing_join (Applies model_step.Close answer after ∷ one) two is others = all_join IsWaiting one two is others
closing_join (event ∷ one) two is others = absurd is

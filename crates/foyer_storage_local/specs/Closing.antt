-- A close that goes well.
use Rattle.foyer_core_model.specs.Reply as model_reply
use Rattle.foyer_core_model.specs.Step as model_step
use Rattle.foyer_core_model.specs.World.{WorldEvent, Applies}
use Rattle.foyer_core_run.specs.Waiting.{AllSteps, IsWaiting}
use Rattle.std.specs.Prelude.{List, ◌∷◌}

-- a Close that is answered Done comes first, then the steps of a wait
abbrev pub HasClosed : {C : Type 0} → List (WorldEvent C) → Type 0
HasClosed (Applies model_step.Close model_reply.Done after ∷ events) = AllSteps IsWaiting events
HasClosed events = ⊥

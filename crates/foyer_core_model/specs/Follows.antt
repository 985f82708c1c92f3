-- The one relation of the core: what a step with its reply makes of the state.
use Rattle.std.specs.Prelude.{◌≡◌, ◌+◌, ◌<◌, false}
use Rattle.foyer_core_model.specs.Numbers.{last_number}
use Rattle.foyer_core_model.specs.State.{State}
use Rattle.foyer_core_model.specs.Rules.{Rules, Splitting}
use Rattle.foyer_core_model.specs.Step.{Step}
use Rattle.foyer_core_model.specs.Reply.{Reply, NotNow, Refused}
use Rattle.foyer_core_model.specs.Changes.{Changes}
use Rattle.foyer_core_model.specs.InTurn.{InTurn}
use Rattle.foyer_core_model.specs.Refusal.{Draws, MayRefuse}

module _ {C : Type 0} (rules : Rules C) (Splits : Splitting C) (old : State C) where
  -- out of turn, and no cause comes before that: the limit of steps, and a closed core
  abbrev pub IsOutOfTurn : Step C → Type 0
  IsOutOfTurn step = (old.steps < last_number) × (Draws step → old.closed ≡ false) × (InTurn rules old step → ⊥)

  -- A step that is out of turn or refused changes nothing and is returned. All others are counted.
  abbrev pub Follows : Step C → Reply C → State C → Type 0
  Follows step (NotNow back) new = (back ≡ step) × IsOutOfTurn step × (new ≡ old)
  Follows step (Refused kind back) new = (back ≡ step) × MayRefuse rules Splits old kind step × (new ≡ old)
  Follows step reply new =
      (old.steps < last_number) × InTurn rules old step
      × ((done : State C) × Changes rules Splits old step reply done × (new ≡ record done { steps = old.steps + 1 }))

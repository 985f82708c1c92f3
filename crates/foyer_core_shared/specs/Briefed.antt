-- What a step leaves in the session that made it.
use Rattle.std.specs.Prelude.{◌≡◌, Some}
use Rattle.foyer_core_steps.specs.declared.reply.Reply.{Reply}
use Rattle.foyer_core_steps.specs.declared.step.Step.{Step}
use Rattle.foyer_core_shared.specs.Briefs.{brief_of, step_brief}
use Rattle.foyer_core_shared.specs.Kinds.{kind_of}
use Rattle.foyer_core_shared.specs.Sessions.{SessionState, CountsEnds}
use Rattle.foyer_core_tally.specs.Tally.{grown}

-- the newest brief is that of the step and this reply, and it is counted as one of its kind, and no other
pub record IsNotedIn {K V P A : Type 0} (old new : SessionState) (given : Step K V P A) (answer : Reply K V P A) : Type 0 where
  pub newest : new.newest ≡ Some (brief_of given answer)
  pub before : new.before ≡ old.newest
  pub counted : new.shares.amounts ≡ grown (kind_of (brief_of given answer)) old.shares.amounts
  pub ends : CountsEnds old new (step_brief given)

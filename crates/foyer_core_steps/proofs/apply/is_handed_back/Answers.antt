use Rattle.std.proofs.Common.{rules}
use Rattle.foyer_core_steps.proofs.apply.is_handed_back.Goals as goal

pub returns-in-Refused : goal.returns-in-Refused
returns-in-Refused g c = search rules depth 1

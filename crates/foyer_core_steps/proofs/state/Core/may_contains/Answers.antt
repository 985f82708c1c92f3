use Rattle.std.proofs.Common.{rules}
use Rattle.foyer_core_steps.proofs.state.Core.may_contains.Goals as goal

pub returns-clause-issued : goal.returns-clause-issued
returns-clause-issued g c = search rules depth 1

pub returns-clause-meets : goal.returns-clause-meets
returns-clause-meets g c = search rules depth 1

use Rattle.std.proofs.Common.{rules}
use Rattle.foyer_core_access.proofs.disk.do_write.Goals as goal

pub returns-clause-wrote : goal.returns-clause-wrote
returns-clause-wrote g c = search rules depth 1

pub returns-clause-succeeds : goal.returns-clause-succeeds
returns-clause-succeeds g c = search rules depth 1

use Rattle.std.proofs.Common.{rules}
use Rattle.foyer_core_access.proofs.disk.do_read.Goals as goal

pub returns-in-Ok-clause-read : goal.returns-in-Ok-clause-read
returns-in-Ok-clause-read g c = search rules depth 1

pub returns-in-Err-clause-succeeds : goal.returns-in-Err-clause-succeeds
returns-in-Err-clause-succeeds g c = search rules depth 1

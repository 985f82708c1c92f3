use Rattle.std.proofs.Common.{rules}
use Rattle.foyer_format_code.proofs.codes.exactly.Goals as goal

pub returns-in-Ok : goal.returns-in-Ok
returns-in-Ok g c = search rules depth 1

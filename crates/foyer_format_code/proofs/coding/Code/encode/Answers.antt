use Rattle.std.proofs.Common.{rules}
use Rattle.foyer_format_code.proofs.coding.Code.encode.Goals as goal

pub returns-clause-bytes : goal.returns-clause-bytes
returns-clause-bytes g c = search rules depth 1

use Rattle.std.proofs.Common.{rules}
use Rattle.foyer_format_code.proofs.codes.counted.StringCode.estimated_size.Goals as goal

pub returns : goal.returns
returns g c = search rules depth 1

use Rattle.std.proofs.Common.{arith}
use Rattle.std.proofs.lemmas.Grind.{common_steps}
use Rattle.foyer_format_checksum.specs.Xxh64.{xxh64}
use Rattle.foyer_format_checksum.proofs.xxh64.checksum64.Goals as goal

pub returns : goal.returns
unfolding xxh64
returns c = grind (arith, common_steps)

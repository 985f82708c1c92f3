use Rattle.std.proofs.Common.{arith}
use Rattle.std.proofs.lemmas.Grind.{common_steps}
use Rattle.foyer_format_checksum.specs.Xxh32.{xxh32}
use Rattle.foyer_format_checksum.proofs.xxh32.checksum32.Goals as goal

pub returns : goal.returns
unfolding xxh32
returns c = grind (arith, common_steps)

use Rattle.std.proofs.Common.{arith}
use Rattle.std.proofs.lemmas.Grind.{common_steps}
use Rattle.foyer_format_checksum.specs.Xxh32.{lane}
use Rattle.foyer_format_checksum.proofs.xxh32.lane.Goals as goal

pub returns : goal.returns
unfolding lane
returns c = grind (arith, common_steps)

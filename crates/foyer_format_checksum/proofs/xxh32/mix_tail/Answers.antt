use Rattle.std.proofs.Common.{arith}
use Rattle.std.proofs.lemmas.Grind.{common_steps}
use Rattle.foyer_format_checksum.specs.Xxh32.{mix_tail}
use Rattle.foyer_format_checksum.proofs.xxh32.mix_tail.Goals as goal

pub returns : goal.returns
unfolding mix_tail
returns c = grind (arith, common_steps)

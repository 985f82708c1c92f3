use Rattle.std.proofs.Common.{arith}
use Rattle.std.proofs.lemmas.Grind.{common_steps}
use Rattle.foyer_format_checksum.specs.Xxh64.{mix_last}
use Rattle.foyer_format_checksum.proofs.xxh64.mix_last.Goals as goal

pub returns-else-bytes-lt4 : goal.returns-else-bytes-lt4
unfolding mix_last
returns-else-bytes-lt4 c = grind (arith, common_steps)

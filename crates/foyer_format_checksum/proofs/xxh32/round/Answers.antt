use Rattle.std.proofs.Common.{rules}
use Rattle.foyer_format_checksum.specs.Xxh32.{round}
use Rattle.foyer_format_checksum.proofs.xxh32.round.Goals as goal

pub returns : goal.returns
unfolding round
returns c = search rules depth 1

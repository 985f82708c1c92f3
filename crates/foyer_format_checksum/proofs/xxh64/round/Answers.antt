use Rattle.std.proofs.Common.{rules}
use Rattle.foyer_format_checksum.specs.Xxh64.{round}
use Rattle.foyer_format_checksum.proofs.xxh64.round.Goals as goal

pub returns : goal.returns
unfolding round
returns c = search rules depth 1

use Rattle.std.proofs.Common.{rules}
use Rattle.foyer_format_checksum.specs.Xxh64.{stripes, column}
use Rattle.foyer_format_checksum.proofs.xxh64.stripes.Goals as goal

pub stripes-init : goal.stripes-init
unfolding stripes column
stripes-init c = search rules depth 1

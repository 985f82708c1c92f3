use Rattle.std.proofs.Common.{rules}
use Rattle.foyer_format_checksum.specs.Xxh32.{stripes, column, merge_columns}
use Rattle.foyer_format_checksum.proofs.xxh32.stripes.Goals as goal

pub stripes-init : goal.stripes-init
unfolding stripes column merge_columns
stripes-init c = search rules depth 1

use Rattle.std.proofs.Common.{◌≡◌}
use Rattle.foyer_format_checksum.specs.Xxh32.{mix_lanes}
use Rattle.foyer_format_checksum.proofs.xxh32.mix_lanes.Given as goal

abbrev pub invariant-lanes : goal.invariant-lanes
invariant-lanes l = l.h ≡ mix_lanes l.fn.h l.bytes l.i

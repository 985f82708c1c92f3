use Rattle.std.proofs.Common.{rules}
use Rattle.foyer_device_page.proofs.io.bytes.raw.RawPartialEq.eq.Goals as goal

pub returns : goal.returns
returns g c = search rules depth 1

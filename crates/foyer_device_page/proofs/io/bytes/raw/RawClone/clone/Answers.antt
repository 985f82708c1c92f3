use Rattle.std.proofs.Common.{rules}
use Rattle.foyer_device_page.proofs.io.bytes.raw.RawClone.clone.Goals as goal

pub returns : goal.returns
returns g c = search rules depth 1

use Rattle.std.proofs.Common.{rules}
use Rattle.foyer_device_page.proofs.io.bytes.slices.IoSlice.from_raw.Goals as goal

pub returns-clause-all : goal.returns-clause-all
returns-clause-all g c = search rules depth 1

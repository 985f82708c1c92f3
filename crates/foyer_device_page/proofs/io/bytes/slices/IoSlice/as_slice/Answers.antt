use Rattle.std.proofs.Common.{rules}
use Rattle.foyer_device_page.proofs.io.bytes.slices.IoSlice.as_slice.Goals as goal

pub returns-clause-value : goal.returns-clause-value
returns-clause-value g c = search rules depth 1

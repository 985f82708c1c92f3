use Rattle.std.proofs.Common.{rules}
use Rattle.foyer_device_page.proofs.error.Error.kind.Goals as goal

pub returns-in-Io : goal.returns-in-Io
returns-in-Io c = search rules depth 1

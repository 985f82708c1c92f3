use Rattle.std.proofs.Common.{rules}
use Rattle.foyer_device_page.proofs.error.ErrorFromIoError.from.Goals as goal

pub returns-in-WriteZero : goal.returns-in-WriteZero
returns-in-WriteZero c = search rules depth 1

use Rattle.std.proofs.Common.{rules}
use Rattle.foyer_core_settings.proofs.settings.Settings.check.Goals as goal

pub returns-clause-sound : goal.returns-clause-sound
returns-clause-sound c = search rules depth 1

use Rattle.std.proofs.Common.{rules}
use Rattle.foyer_storage_plan.proofs.sizes.EngineSizes.settings.Goals as goal

pub returns : goal.returns
returns c = search rules depth 1

use Rattle.std.proofs.Common.{rules}
use Rattle.foyer_storage_engine.proofs.load.decide_load.Goals as goal

pub returns-in-None-2 : goal.returns-in-None-2
returns-in-None-2 g c = search rules depth 1

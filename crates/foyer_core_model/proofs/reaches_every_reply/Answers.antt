use Rattle.foyer_core_model.proofs.Witness.{reaches_lem}
use Rattle.foyer_core_model.proofs.reaches_every_reply.Goals as goal

pub returns : goal.returns
returns c = reaches_lem

use Rattle.foyer_core_flusher.proofs.BeginLemmas.{has_begun}
use Rattle.foyer_core_flusher.proofs.laws.begins_as_model.Goals as goal

pub returns : goal.returns
returns g c = λ m rules s st f old new issued are sizes stands is. has_begun m rules s st f old new issued are sizes stands is

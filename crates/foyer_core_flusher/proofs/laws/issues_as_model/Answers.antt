use Rattle.foyer_core_flusher.proofs.IssueLemmas.{issues_as_model}
use Rattle.foyer_core_flusher.proofs.laws.issues_as_model.Goals as goal

pub returns : goal.returns
returns g c = λ m rules s own block old new issued it are small there stands is. issues_as_model m rules s own block old new issued it are small there stands is

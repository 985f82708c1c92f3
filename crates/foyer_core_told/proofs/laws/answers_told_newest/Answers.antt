use Rattle.foyer_core_told.proofs.ToldLoadLemmas.{answers}
use Rattle.foyer_core_told.proofs.laws.answers_told_newest.Goals as goal

pub returns : goal.returns
returns g c m s sound byte_at = answers m s sound byte_at

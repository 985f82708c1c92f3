use Rattle.foyer_core_told.proofs.ToldMissLemmas.{look_caused, end_caused}
use Rattle.foyer_core_told.proofs.laws.misses_are_caused.Goals as goal

pub returns-clause-looks_up : goal.returns-clause-looks_up
returns-clause-looks_up g c m s sound byte_at = look_caused m s sound byte_at

pub returns-clause-ends : goal.returns-clause-ends
returns-clause-ends g c m s sound byte_at = end_caused m s sound byte_at

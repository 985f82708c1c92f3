use Rattle.foyer_core_told.proofs.ToldMissLemmas.{looks_up, ends_as}
use Rattle.foyer_core_told.proofs.laws.misses_told_only.Goals as goal

pub returns-clause-looks_up : goal.returns-clause-looks_up
returns-clause-looks_up g c m s sound byte_at = looks_up m s sound byte_at

pub returns-clause-ends : goal.returns-clause-ends
returns-clause-ends g c m s sound byte_at = ends_as m s sound byte_at

use Rattle.foyer_core_laws.proofs.LawLemmas.{demands, places}
use Rattle.foyer_core_laws.proofs.laws.demands_are_met.Goals as goal

pub returns-clause-demands : goal.returns-clause-demands
returns-clause-demands c = demands

pub returns-clause-places : goal.returns-clause-places
returns-clause-places c = places

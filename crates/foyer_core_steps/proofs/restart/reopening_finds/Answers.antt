use Rattle.foyer_core_steps.proofs.ReopenedLemmas.{again, all, same_newest}
use Rattle.foyer_core_steps.proofs.restart.reopening_finds.Goals as goal

pub returns-clause-again : goal.returns-clause-again
returns-clause-again g c = λ is_key is_value s sound w disk after mode core h a is indexed not_written. again is_key is_value s sound w _ _ _ mode core is h a indexed not_written

pub returns-clause-all : goal.returns-clause-all
returns-clause-all g c = λ is_key is_value s sound w disk after mode core h a is indexed idle. all is_key is_value s sound w _ _ _ mode core is h a indexed idle

pub returns-clause-newest : goal.returns-clause-newest
returns-clause-newest g c = λ is_key is_value s sound w disk after mode core h a is indexed again. same_newest is_key is_value s sound w _ _ _ mode core is h a indexed again

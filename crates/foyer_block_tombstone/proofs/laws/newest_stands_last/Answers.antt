use Rattle.foyer_block_tombstone.proofs.OrderLemmas.{goes_on_there, last_stands_last, newest_stands_last}
use Rattle.foyer_block_tombstone.proofs.laws.newest_stands_last.Goals as goal

pub returns-clause-behind : goal.returns-clause-behind
returns-clause-behind c = last_stands_last

pub returns-clause-before : goal.returns-clause-before
returns-clause-before c = newest_stands_last

pub returns-clause-goes_on : goal.returns-clause-goes_on
returns-clause-goes_on c = goes_on_there

use Rattle.std.proofs.Common.{rules}
use Rattle.foyer_block_index.proofs.indexer.Indexer.remove.Goals as goal

pub returns-clause-answer : goal.returns-clause-answer
returns-clause-answer g c = search rules depth 1

pub returns-clause-unchanged : goal.returns-clause-unchanged
returns-clause-unchanged g c = search rules depth 1

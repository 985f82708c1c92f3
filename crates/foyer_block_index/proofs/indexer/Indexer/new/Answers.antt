use Rattle.std.proofs.Common.{rules}
use Rattle.foyer_block_index.proofs.indexer.Indexer.new.Goals as goal

pub invariant_of-result : goal.invariant_of-result
invariant_of-result g c = search rules depth 1

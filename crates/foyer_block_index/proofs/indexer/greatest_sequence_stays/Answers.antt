use Rattle.foyer_block_index.proofs.Greatest.{greatest_stays}
use Rattle.foyer_block_index.proofs.indexer.greatest_sequence_stays.Goals as goal

pub returns : goal.returns
returns c = greatest_stays

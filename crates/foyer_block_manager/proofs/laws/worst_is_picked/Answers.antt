use Rattle.foyer_block_manager.proofs.WorstLemmas.{worst_picked}
use Rattle.foyer_block_manager.proofs.laws.worst_is_picked.Goals as goal

pub returns : goal.returns
returns c = worst_picked

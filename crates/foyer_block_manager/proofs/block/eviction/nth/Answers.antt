use Rattle.foyer_block_manager.proofs.IdLemmas.{in_at}
use Rattle.foyer_block_manager.proofs.block.eviction.nth.Goals as goal

pub returns-clause-there : goal.returns-clause-there
returns-clause-there c = in_at c.args.ids.now c.args.at c.requires

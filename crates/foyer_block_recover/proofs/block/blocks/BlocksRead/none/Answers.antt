use Rattle.std.proofs.Common.{refl}
use Rattle.foyer_block_recover.proofs.BlocksLemmas.{none_holds}
use Rattle.foyer_block_recover.proofs.block.blocks.BlocksRead.none.Goals as goal

pub returns-clause-none : goal.returns-clause-none
returns-clause-none g c = λ keeps. none_holds _ keeps c.in_ok-new.ensures.empty refl c.new-2.ensures.items

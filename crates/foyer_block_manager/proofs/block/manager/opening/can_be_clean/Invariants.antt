use Rattle.std.proofs.Common.{take}
use Rattle.foyer_block_manager.proofs.InitialLemmas.{AreNoted}
use Rattle.foyer_block_manager.proofs.block.manager.opening.can_be_clean.Given as goal

abbrev pub invariant-each_id : goal.invariant-each_id
invariant-each_id g l = AreNoted l.blocks (take l.id-index l.clean) l.is_listed.items

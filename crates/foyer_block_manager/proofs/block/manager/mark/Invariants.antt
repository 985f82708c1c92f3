use Rattle.std.proofs.Common.{◌≡◌, drop}
use Rattle.foyer_block_manager.specs.Picks.{with_marks}
use Rattle.foyer_block_manager.proofs.block.manager.mark.Given as goal

abbrev pub invariant-each_id : goal.invariant-each_id
invariant-each_id g l = with_marks l.ids l.fn.blocks.items ≡ with_marks (drop l.id-index l.ids) l.blocks.items

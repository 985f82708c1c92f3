use Rattle.std.proofs.Common.{◌≡◌, None, drop}
use Rattle.foyer_block_manager.specs.Pickers.{invalid_in, worst_of}
use Rattle.foyer_block_manager.proofs.block.ratio.worst_of.Given as goal

abbrev pub invariant-each_block : goal.invariant-each_block
invariant-each_block l = worst_of (invalid_in l.blocks) None l.evictable ≡ worst_of (invalid_in l.blocks) l.best (drop l.block-index l.evictable)

use Rattle.std.proofs.Common.{◌≡◌, ◌+◌, drop}
use Rattle.foyer_core_model.specs.Flush.{usable_count}
use Rattle.foyer_block_manager.specs.Managed.{filling_in}
use Rattle.foyer_block_manager.proofs.block.manager.clearing.usable_of.Given as goal

abbrev pub invariant-each_index : goal.invariant-each_index
invariant-each_index g l =
    l.usable + usable_count (filling_in l.blocks.items) (drop l.index l.clean.items) ≡ usable_count (filling_in l.blocks.items) l.clean.items

use Rattle.std.proofs.Common.{◌≡◌, drop}
use Rattle.foyer_core_model.specs.Flush.{first_usable}
use Rattle.foyer_block_manager.specs.Managed.{filling_in}
use Rattle.foyer_block_manager.proofs.block.manager.first_usable.Given as goal

abbrev pub invariant-loop-index : goal.invariant-loop-index
invariant-loop-index g l =
    first_usable (filling_in l.blocks.items) l.clean.items ≡ first_usable (filling_in l.blocks.items) (drop l.index l.clean.items)

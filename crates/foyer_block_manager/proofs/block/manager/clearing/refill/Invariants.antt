use Rattle.std.proofs.Common.{◌≡◌, ◌++◌, map, take, drop}
use Rattle.foyer_block_manager.specs.Clearing.{with_next_filling}
use Rattle.foyer_block_manager.proofs.block.manager.clearing.refill.Given as goal

abbrev pub invariant-each_block : goal.invariant-each_block
invariant-each_block g l =
    l.state-items ≡ map with_next_filling (take l.state-index l.initial.state-items) ++ drop l.state-index l.initial.state-items

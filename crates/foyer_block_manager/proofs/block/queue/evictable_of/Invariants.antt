use Rattle.std.proofs.Common.{◌≡◌, take, vec_capacity}
use Rattle.std.specs.List.{filter}
use Rattle.foyer_block_manager.specs.Pickers.{is_evictable_in}
use Rattle.foyer_block_manager.proofs.block.queue.evictable_of.Given as goal

abbrev pub invariant-loop-index : goal.invariant-loop-index
invariant-loop-index l =
    (l.found.items ≡ filter (is_evictable_in l.blocks) (take l.index l.ids.items)) × (vec_capacity l.found ≡ vec_capacity l.initial.found)

use Rattle.foyer_block_manager.specs.Shown.{AreShownAll, evictable_below}
use Rattle.foyer_block_manager.proofs.block.manager.opening.show_all_evictable.Given as goal

abbrev pub invariant-each_block : goal.invariant-each_block
invariant-each_block g l =
    AreShownAll g.P.EvictionPicker.learns (evictable_below l.blocks.items l.index) l.initial.pickers l.pickers

use Rattle.foyer_block_manager.specs.Pickers.{picker_info}
use Rattle.foyer_block_manager.proofs.ShownLemmas.{ChangedBefore}
use Rattle.foyer_block_manager.proofs.block.eviction.show_evict.Given as goal

abbrev pub invariant-each_picker : goal.invariant-each_picker
invariant-each_picker g l =
    ChangedBefore (λ p q. g.P.EvictionPicker.forgets p (picker_info l.info.blocks.now l.info.evictable.now l.info.clean) l.id q) l.picker-index l.fn.pickers l.pickers

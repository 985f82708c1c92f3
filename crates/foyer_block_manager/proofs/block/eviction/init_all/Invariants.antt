use Rattle.foyer_block_manager.proofs.ShownLemmas.{ChangedBefore}
use Rattle.foyer_block_manager.proofs.block.eviction.init_all.Given as goal

abbrev pub invariant-each_picker : goal.invariant-each_picker
invariant-each_picker g l =
    ChangedBefore (λ p q. g.P.EvictionPicker.begins p l.blocks l.block_size q) l.picker-index l.fn.pickers l.pickers

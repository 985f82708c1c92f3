use Rattle.std.proofs.Common.{◌≡◌, ◌++◌, drop}
use Rattle.foyer_block_manager.specs.Pickers.{picker_info, answers_of, answers_given, marks_given, pick_of}
use Rattle.foyer_block_manager.proofs.block.eviction.consult.Given as goal

-- what the pickers up to here said, and then what the others would
abbrev pub invariant-each_picker : goal.invariant-each_picker
invariant-each_picker g l =
    (answers_given l.info.blocks.now (answers_of g.P.EvictionPicker.answer g.P.EvictionPicker.marks l.pickers (picker_info l.info.blocks.now l.info.evictable.now l.info.clean))
    ≡ l.answers.items ++ answers_given l.info.blocks.now (answers_of g.P.EvictionPicker.answer g.P.EvictionPicker.marks (drop l.picker-index l.pickers) (picker_info l.info.blocks.now l.info.evictable.now l.info.clean)))
    × (marks_given l.info.blocks.now (answers_of g.P.EvictionPicker.answer g.P.EvictionPicker.marks l.pickers (picker_info l.info.blocks.now l.info.evictable.now l.info.clean))
    ≡ l.probation.items ++ marks_given l.info.blocks.now (answers_of g.P.EvictionPicker.answer g.P.EvictionPicker.marks (drop l.picker-index l.pickers) (picker_info l.info.blocks.now l.info.evictable.now l.info.clean)))
    × (pick_of l.info.blocks.now (answers_of g.P.EvictionPicker.answer g.P.EvictionPicker.marks l.pickers (picker_info l.info.blocks.now l.info.evictable.now l.info.clean))
    ≡ pick_of l.info.blocks.now (answers_of g.P.EvictionPicker.answer g.P.EvictionPicker.marks (drop l.picker-index l.pickers) (picker_info l.info.blocks.now l.info.evictable.now l.info.clean)))

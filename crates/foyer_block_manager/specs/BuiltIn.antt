-- What the pickers of this crate answer, held by value, and what becomes of them.
use Rattle.std.specs.Prelude.{ℕ, List, [], Option}
use Rattle.foyer_block_manager.specs.Pickers.{Info, fifo_answer, fifo_marks, fifo_with, fifo_without, probations_of, ratio_answer}
use Rattle.foyer_block_manager.specs.declared.block.picker.BuiltInPicker.{BuiltInPicker}
use Rattle.foyer_block_manager.specs.declared.block.picker.BuiltInPicker.TheVariants.{InvalidRatio, Fifo}

abbrev pub built_in_answer : BuiltInPicker → Info → Option ℕ
built_in_answer (InvalidRatio q) info = ratio_answer q.num q.den q.block_size info
built_in_answer (Fifo q) info = fifo_answer q info

-- and what they put on probation
abbrev pub built_in_marks : BuiltInPicker → Info → List ℕ
built_in_marks (InvalidRatio q) info = []
built_in_marks (Fifo q) info = fifo_marks q info

-- given so many blocks of that size, none of which is evictable yet
abbrev pub begun_built_in : BuiltInPicker → ℕ → ℕ → BuiltInPicker
begun_built_in (InvalidRatio q) blocks size = InvalidRatio (record q { block_size = size })
begun_built_in (Fifo q) blocks size = Fifo (record q { queue = []; room = blocks; probations = probations_of q.num q.den blocks })

-- a block more is evictable
abbrev pub built_in_with : BuiltInPicker → ℕ → BuiltInPicker
built_in_with (InvalidRatio q) block = InvalidRatio q
built_in_with (Fifo q) block = Fifo (fifo_with q block)

-- and one is reclaimed
abbrev pub built_in_without : BuiltInPicker → ℕ → BuiltInPicker
built_in_without (InvalidRatio q) block = InvalidRatio q
built_in_without (Fifo q) block = Fifo (fifo_without q block)

-- The statistics of a block.
use Rattle.std.specs.Prelude.{ℕ, false, List, Option, Some, None, slice_set}
use Rattle.foyer_core_model.specs.Numbers.{put, plus}
use Rattle.foyer_core_model.specs.State as model_state
use Rattle.foyer_block_manager.specs.BlockSets.{BlockSets}
use Rattle.foyer_block_manager.specs.declared.block.states.BlockState.{BlockState}
use Rattle.foyer_block_manager.specs.declared.block.states.BlockStatistics.{BlockStatistics}

-- a block, if it is there, with other statistics
abbrev pub with_statistics_at : (BlockStatistics → BlockStatistics) → Option BlockState → ℕ → List BlockState → List BlockState
with_statistics_at f None b blocks = blocks
with_statistics_at f (Some it) b blocks = slice_set blocks b (record it { statistics = f it.statistics })

-- more invalid bytes, up to the greatest number
abbrev pub add_invalid : ℕ → BlockStatistics → BlockStatistics
add_invalid bytes it = record { invalid = plus it.invalid bytes; access = it.access; probation = it.probation }

-- one more access, up to the greatest number
abbrev pub add_access : BlockStatistics → BlockStatistics
add_access it = record { invalid = it.invalid; access = plus it.access 1; probation = it.probation }

abbrev pub no_statistics : BlockStatistics → BlockStatistics
no_statistics it = record { invalid = 0; access = 0; probation = false }

-- the same of the sets
abbrev pub with_stats : BlockSets → (block : ℕ) → model_state.Stats → BlockSets
with_stats s b stats = record s { stats = put s.stats b stats }

abbrev pub with_invalid : BlockSets → (block bytes : ℕ) → BlockSets
with_invalid s b bytes = with_stats s b (record (s.stats b) { invalid = plus (s.stats b).invalid bytes })

abbrev pub with_access : BlockSets → (block : ℕ) → BlockSets
with_access s b = with_stats s b (record (s.stats b) { access = plus (s.stats b).access 1 })

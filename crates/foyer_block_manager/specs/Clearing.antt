-- What a destroy does to the sets.
use Rattle.std.specs.Prelude.{ℕ, true, nat_lt, if◌then◌else◌, None}
use Rattle.foyer_core_model.specs.Destroy.{vacated, refilled}
use Rattle.foyer_core_model.specs.Numbers.{plus}
use Rattle.foyer_core_model.specs.State as model_state
use Rattle.foyer_block_manager.specs.BlockSets.{BlockSets}
use Rattle.foyer_block_manager.specs.declared.block.states.BlockState.{BlockState}

-- a block in its next filling, up to the greatest count
abbrev pub with_next_filling : BlockState → BlockState
with_next_filling it = record { block_set = it.block_set; filling = plus it.filling 1; statistics = it.statistics }

-- the first n blocks have no flusher
abbrev pub vacated_below : ℕ → (ℕ → model_state.BlockSet) → ℕ → model_state.BlockSet
vacated_below n sets b = if nat_lt b n then vacated (sets b) else sets b

-- n blocks are taken from their flushers and begin a new filling, no flusher has a block, and the destroy cleans
abbrev pub cleared : ℕ → BlockSets → BlockSets
cleared n s = record s {
  block_set = λ b. vacated (s.block_set b);
  ready = λ f. None;
  filling = refilled n s.filling;
  is_cleaning = true;
}

-- How a manager begins.
use Rattle.std.specs.Prelude.{◌≡◌, ℕ, true, false, if◌then◌else◌, List, [], ◌++◌, replicate, None, slice_get}
use Rattle.foyer_core_model.specs.Ids.{ids, is_id_in, AreDistinct}
use Rattle.foyer_core_model.specs.State as model_state
use Rattle.foyer_block_manager.specs.BlockSets.{BlockSets}
use Rattle.foyer_block_manager.specs.Managed.{Managed, is_evictable}
use Rattle.foyer_block_manager.specs.declared.block.states.BlockState.{BlockState}
use Rattle.foyer_block_manager.specs.declared.block.states.BlockSet.TheVariants as set

-- a block that was never handed out
abbrev pub new_block : BlockState
new_block = record { block_set = set.Evictable; filling = 0; statistics = record { invalid = 0; access = 0; probation = false } }

-- so many blocks of this size, all of them evictable, and so many flushers
abbrev pub new_manager : (blocks block_size flushers reclaimers clean_threshold : ℕ) → Managed
new_manager blocks block_size flushers reclaimers clean_threshold = record {
  blocks = replicate blocks new_block;
  clean = [];
  evictable = ids blocks;
  waiting = [];
  ready = replicate flushers None;
  reclaimers = reclaimers;
  clean_threshold = clean_threshold;
  block_size = block_size;
  is_cleaning = false;
}

-- the ids are those of evictable blocks, each once
pub record CanBeClean (blocks : List BlockState) (clean : List ℕ) : Type 0 where
  pub once : AreDistinct clean
  pub evictable : (b : ℕ) → is_id_in b clean ≡ true → is_evictable (slice_get blocks b) ≡ true

-- these blocks are clean, in this order
abbrev pub with_clean : BlockSets → List ℕ → BlockSets
with_clean s clean = record s {
  block_set = λ b. if is_id_in b clean then model_state.Clean else s.block_set b;
  clean = s.clean ++ clean;
}

-- The sets of blocks as the model has them, and which of these a manager stands for.
use Rattle.std.specs.Prelude.{◌≡◌, ◌≢◌, ℕ, zero, suc, ◌+◌, ◌<◌, ◌≤◌, ◌⊎◌, Bool, true, false, if◌then◌else◌, List, [], ◌∷◌, ◌++◌, length, Option, Some, None, slice_get}
use Rattle.foyer_core_model.specs.Flush.{first_usable, usable_count}
use Rattle.foyer_core_model.specs.Ids.{is_id_in, with_id, without_id}
use Rattle.foyer_core_model.specs.Numbers.{put, last_number}
use Rattle.foyer_core_model.specs.State as model_state
use Rattle.foyer_block_manager.specs.Managed.{Managed, one_if}
use Rattle.foyer_block_manager.specs.declared.block.states.BlockState.{BlockState}
use Rattle.foyer_block_manager.specs.declared.block.states.BlockSet.{BlockSet}
use Rattle.foyer_block_manager.specs.declared.block.states.BlockSet.TheVariants as set

-- what the model has of its blocks, under the same names
pub record BlockSets : Type 0 where
  pub block_set : ℕ → model_state.BlockSet
  pub clean : List ℕ
  pub waiting : List ℕ
  pub ready : ℕ → Option ℕ  -- of a flusher
  pub filling : ℕ → ℕ
  pub stats : ℕ → model_state.Stats
  pub is_cleaning : Bool

abbrev pub model_set : BlockSet → model_state.BlockSet
model_set set.Clean = model_state.Clean
model_set (set.Writing flusher) = model_state.Writes flusher
model_set set.Evictable = model_state.Evictable
model_set set.Reclaiming = model_state.Reclaims

-- what is known of one block
pub record IsBlockAs (it : BlockState) (its_set : model_state.BlockSet) (its_filling : ℕ) (its_stats : model_state.Stats) : Type 0 where
  pub block_set : its_set ≡ model_set it.block_set
  pub filling : its_filling ≡ it.filling
  pub stats : its_stats ≡ record { invalid = it.statistics.invalid; access = it.statistics.access; probation = it.statistics.probation }

-- the manager stands for these sets; of blocks and flushers that aren't there nothing is said
pub record Stands (m : Managed) (s : BlockSets) : Type 0 where
  pub blocks : (b : ℕ) (it : BlockState) → slice_get m.blocks b ≡ Some it → IsBlockAs it (s.block_set b) (s.filling b) (s.stats b)
  pub clean : s.clean ≡ m.clean
  pub waiting : s.waiting ≡ m.waiting
  pub ready : (f : ℕ) (r : Option ℕ) → slice_get m.ready f ≡ Some r → s.ready f ≡ r
  pub is_cleaning : s.is_cleaning ≡ m.is_cleaning

-- what a call never changes
pub record HasSameRules (old new : Managed) : Type 0 where
  pub blocks : length new.blocks ≡ length old.blocks
  pub flushers : length new.ready ≡ length old.ready
  pub reclaimers : new.reclaimers ≡ old.reclaimers
  pub clean_threshold : new.clean_threshold ≡ old.clean_threshold
  pub block_size : new.block_size ≡ old.block_size

-- the block that may be handed out
abbrev pub clean_block : BlockSets → Option ℕ
clean_block s = if s.is_cleaning then None else first_usable s.filling s.clean

-- a flusher gets the block that it was given while it waited
abbrev pub with_ready : BlockSets → ℕ → BlockSets
with_ready s f = record s { waiting = without_id f s.waiting; ready = put s.ready f None }

-- a clean block is handed out to a flusher, in a new filling
abbrev pub after_hand_out : BlockSets → (flusher block : ℕ) → BlockSets
after_hand_out s f b = record s {
  block_set = put s.block_set b (model_state.Writes f);
  clean = without_id b s.clean;
  waiting = without_id f s.waiting;
  filling = put s.filling b (s.filling b + 1);
}

-- what a flusher that asks for a clean block gets, and what stays: the block that it was given while it waited, else
-- the one that has been clean longest, else none, and then it waits
abbrev pub HandsOut : BlockSets → (flusher : ℕ) → Option ℕ → Managed → Type 0
HandsOut s f None new = (s.ready f ≡ None) × (clean_block s ≡ None) × Stands new (record s { waiting = with_id f s.waiting })
HandsOut s f (Some b) new =
    ((s.ready f ≡ Some b) × Stands new (with_ready s f))
    ⊎ ((s.ready f ≡ None) × (clean_block s ≡ Some b) × (s.block_set b ≡ model_state.Clean) × (b < length new.blocks)
    × Stands new (after_hand_out s f b))

-- a block that its flusher leaves may be reclaimed
abbrev pub after_writing : BlockSets → (block : ℕ) → BlockSets
after_writing s b = record s { block_set = put s.block_set b model_state.Evictable }

-- the reclaim of a block ends
abbrev pub without_stats : BlockSets → (block : ℕ) → BlockSets
without_stats s b = record s { stats = put s.stats b model_state.no_stats }

-- The block goes to the flusher that began to wait last, else it is clean.
abbrev pub HasFinished : BlockSets → (block : ℕ) → Option ℕ → Managed → Type 0
HasFinished s b (Some f) new =
    (others : List ℕ) × (s.waiting ≡ others ++ f ∷ []) × (is_id_in f others ≡ false) × (s.filling b < last_number)
    × Stands new (record (without_stats s b) {
      waiting = others;
      block_set = put s.block_set b (model_state.Writes f);
      filling = put s.filling b (s.filling b + 1);
      ready = put s.ready f (Some b);
    })
HasFinished s b None new =
    ((s.waiting ≡ []) ⊎ (last_number ≤ s.filling b))
    × Stands new (record (without_stats s b) { block_set = put s.block_set b model_state.Clean; clean = s.clean ++ b ∷ [] })

abbrev pub is_reclaimed : model_state.BlockSet → Bool
is_reclaimed model_state.Clean = false
is_reclaimed (model_state.Writes f) = false
is_reclaimed model_state.Evictable = false
is_reclaimed model_state.Reclaims = true

-- how many of the first n blocks are reclaimed
abbrev pub reclaim_count : ℕ → (ℕ → model_state.BlockSet) → ℕ
reclaim_count zero sets = 0
reclaim_count (suc n) sets = one_if (is_reclaimed (sets n)) + reclaim_count n sets

-- A reclaim may begin if blocks are wanted, a reclaimer is free, a block is evictable, and no destroy cleans.
pub record MayReclaim (blocks reclaimers clean_threshold : ℕ) (s : BlockSets) : Type 0 where
  pub wanted : (usable_count s.filling s.clean < clean_threshold) ⊎ (s.waiting ≢ [])
  pub free : reclaim_count blocks s.block_set < reclaimers
  pub some_block : (b : ℕ) × (b < blocks) × (s.block_set b ≡ model_state.Evictable)
  pub quiet : s.is_cleaning ≡ false

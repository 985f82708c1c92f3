-- What a manager of blocks has, and what it keeps of it.
use Rattle.std.specs.Prelude.{◌≡◌, ℕ, suc, zero, ◌+◌, ◌<◌, ◌≤◌, ◌^◌, Bool, true, false, List, length, Option, Some, None, slice_get, slice_set, slice_index}
use Rattle.std.specs.List.{remove}
use Rattle.foyer_core_model.specs.Flush.{first_usable, usable_count}
use Rattle.foyer_core_model.specs.Ids.{is_id_in, AreDistinct}
use Rattle.foyer_core_model.specs.Numbers.{last_number}
use Rattle.foyer_block_manager.specs.IdList.{IdList}
use Rattle.foyer_block_manager.specs.declared.block.states.Block.{Block}
use Rattle.foyer_block_manager.specs.declared.block.states.BlockState.{BlockState}
use Rattle.foyer_block_manager.specs.declared.block.states.BlockStatistics.{BlockStatistics}
use Rattle.foyer_block_manager.specs.declared.block.states.BlockSet.{BlockSet}
use Rattle.foyer_block_manager.specs.declared.block.states.BlockSet.TheVariants.{Clean, Writing, Evictable, Reclaiming}

-- the blocks by their ids, the clean ones with the one that has been clean longest first, the evictable ones in any
-- order, who waits for a block, the one that began last at the end, and by flusher the block that it got meanwhile
pub record Managed : Type 0 where
  pub blocks : List BlockState
  pub clean : List ℕ
  pub evictable : List ℕ
  pub waiting : List ℕ
  pub ready : List (Option ℕ)
  pub reclaimers : ℕ
  pub clean_threshold : ℕ
  pub block_size : ℕ  -- in bytes
  pub is_cleaning : Bool  -- whether a destroy cleans

abbrev pub is_clean_set : BlockSet → Bool
is_clean_set Clean = true
is_clean_set (Writing f) = false
is_clean_set Evictable = false
is_clean_set Reclaiming = false

abbrev pub is_writing_set : BlockSet → Bool
is_writing_set Clean = false
is_writing_set (Writing f) = true
is_writing_set Evictable = false
is_writing_set Reclaiming = false

abbrev pub is_evictable_set : BlockSet → Bool
is_evictable_set Clean = false
is_evictable_set (Writing f) = false
is_evictable_set Evictable = true
is_evictable_set Reclaiming = false

abbrev pub is_reclaiming_set : BlockSet → Bool
is_reclaiming_set Clean = false
is_reclaiming_set (Writing f) = false
is_reclaiming_set Evictable = false
is_reclaiming_set Reclaiming = true

-- of the block of an id, if it is there
abbrev pub is_clean : Option BlockState → Bool
is_clean None = false
is_clean (Some it) = is_clean_set it.block_set

abbrev pub is_writing : Option BlockState → Bool
is_writing None = false
is_writing (Some it) = is_writing_set it.block_set

abbrev pub is_evictable : Option BlockState → Bool
is_evictable None = false
is_evictable (Some it) = is_evictable_set it.block_set

abbrev pub is_reclaiming : Option BlockState → Bool
is_reclaiming None = false
is_reclaiming (Some it) = is_reclaiming_set it.block_set

-- a block that isn't there is never handed out
abbrev pub filling_of : Option BlockState → ℕ
filling_of None = last_number
filling_of (Some it) = it.filling

abbrev pub filling_in : List BlockState → ℕ → ℕ
filling_in blocks b = filling_of (slice_get blocks b)

-- 1 if it holds, else 0
abbrev pub one_if : Bool → ℕ
one_if true = 1
one_if false = 0

-- how many of the first n blocks are reclaimed
abbrev pub reclaim_count_in : ℕ → List BlockState → ℕ
reclaim_count_in zero blocks = 0
reclaim_count_in (suc n) blocks = one_if (is_reclaiming (slice_get blocks n)) + reclaim_count_in n blocks

-- each is below n
abbrev pub AllBelow : ℕ → List ℕ → Type 0
AllBelow n xs = (x : ℕ) → is_id_in x xs ≡ true → x < n

-- the lists are those of the sets, and the counts those of the lists
pub record IsKept (blocks : List BlockState) (clean waiting : List ℕ) (ready : List (Option ℕ)) (evictable : IdList)
    (usable reclaiming clean_room waiting_room : ℕ) : Type 0 where
  pub few : length blocks < 2 ^ 32
  pub bound : evictable.bound ≡ length blocks
  pub clean_is : (b : ℕ) → is_id_in b clean ≡ is_clean (slice_get blocks b)
  pub clean_once : AreDistinct clean
  pub clean_fits : length blocks ≤ clean_room
  pub evictable_is : (b : ℕ) → is_id_in b evictable.ids ≡ is_evictable (slice_get blocks b)
  pub usable_is : usable ≡ usable_count (filling_in blocks) clean
  pub reclaiming_is : reclaiming ≡ reclaim_count_in (length blocks) blocks
  pub waiting_once : AreDistinct waiting
  pub waiting_there : AllBelow (length ready) waiting
  pub waiting_fits : length ready ≤ waiting_room

-- of these clean blocks the one at this index is the first that may still be handed out
pub record IsFirstUsable (clean : List ℕ) (blocks : List BlockState) (i : ℕ) : Type 0 where
  pub within : i < length clean
  pub first : first_usable (filling_in blocks) clean ≡ Some (slice_index clean i)
  pub below : filling_in blocks (slice_index clean i) < last_number

-- the first that may be handed out is, to this flusher, in a new filling
pub record IsTaken (flusher : ℕ) (blocks : List BlockState) (clean : List ℕ) (b : ℕ) (blocks' : List BlockState) (clean' : List ℕ) : Type 0 where
  pub index : ℕ
  pub first : IsFirstUsable clean blocks index
  pub is : b ≡ slice_index clean index
  pub before : BlockState
  pub was : slice_get blocks b ≡ Some before
  pub blocks_are : blocks' ≡ slice_set blocks b (record before { block_set = Writing flusher; filling = before.filling + 1 })
  pub clean_are : clean' ≡ remove clean index

-- what pickers know of a block; of one that isn't there nothing
abbrev pub statistics_of : Option BlockState → BlockStatistics
statistics_of None = record { invalid = 0; access = 0; probation = false }
statistics_of (Some it) = it.statistics

-- the block of this id
abbrev pub block_of : Managed → ℕ → Block
block_of m b = record { id = b; size = m.block_size; statistics = statistics_of (slice_get m.blocks b) }

-- the block is written by some flusher
abbrev pub IsWritten : Managed → ℕ → Type 0
IsWritten m b = (it : BlockState) × (f : ℕ) × (slice_get m.blocks b ≡ Some it) × (it.block_set ≡ Writing f)

-- a reclaim has it
abbrev pub IsReclaimed : Managed → ℕ → Type 0
IsReclaimed m b = (it : BlockState) × (slice_get m.blocks b ≡ Some it) × (it.block_set ≡ Reclaiming)

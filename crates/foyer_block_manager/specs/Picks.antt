-- The choice of the block that is reclaimed.
use Rattle.std.specs.Prelude.{◌≡◌, ℕ, ◌<◌, Bool, true, not, ◌&&◌, ◌||◌, nat_lt, if◌then◌else◌, List, [], ◌∷◌, length, Option, Some, None, slice_get, slice_set}
use Rattle.foyer_core_model.specs.Flush.{usable_count}
use Rattle.foyer_core_model.specs.Numbers.{put}
use Rattle.foyer_core_model.specs.Reclaim.{first_pick, are_asked, marked}
use Rattle.foyer_core_model.specs.State as model_state
use Rattle.foyer_block_manager.specs.Managed.{Managed, is_evictable_set, filling_in}
use Rattle.foyer_block_manager.specs.Pickers.{Answer, answers_given, marks_given}
use Rattle.foyer_block_manager.specs.BlockSets.{BlockSets, Stands}
use Rattle.foyer_block_manager.specs.declared.block.states.BlockState.{BlockState}

-- how many clean blocks may be handed out
abbrev pub usable_in : Managed → ℕ
usable_in m = usable_count (filling_in m.blocks) m.clean

-- a block on probation
abbrev pub on_probation : BlockState → BlockState
on_probation it = record it { statistics = record { invalid = it.statistics.invalid; access = it.statistics.access; probation = true } }

abbrev pub with_mark_at : Option BlockState → ℕ → List BlockState → List BlockState
with_mark_at None b blocks = blocks
with_mark_at (Some it) b blocks = if is_evictable_set it.block_set then slice_set blocks b (on_probation it) else blocks

-- those of the ids that are evictable are on probation
abbrev pub with_marks : List ℕ → List BlockState → List BlockState
with_marks [] blocks = blocks
with_marks (b ∷ bs) blocks = with_marks bs (with_mark_at (slice_get blocks b) b blocks)

-- whether a reclaim may begin, by what a manager has
abbrev pub allows : (is_cleaning : Bool) (reclaiming reclaimers : ℕ) (none_evictable : Bool) (usable clean_threshold : ℕ) (none_waits : Bool) → Bool
allows is_cleaning reclaiming reclaimers none_evictable usable clean_threshold none_waits =
    not is_cleaning && nat_lt reclaiming reclaimers && not none_evictable && (nat_lt usable clean_threshold || not none_waits)

-- The block is the first pick of what the pickers answered, else any evictable one, and its reclaim begins: in the words
-- of the model.
pub record Picks (old : Managed) (s : BlockSets) (says : List Answer) (b : ℕ) (answers : List (Option ℕ)) (probation : List ℕ) (new : Managed) : Type 0 where
  pub there : b < length old.blocks
  pub evictable : s.block_set b ≡ model_state.Evictable
  pub answers_are : answers ≡ answers_given old.blocks says
  pub probation_is : probation ≡ marks_given old.blocks says
  pub are_asked : are_asked (length says) (length old.blocks) s.block_set answers ≡ true
  pub first : (c : ℕ) → first_pick (length old.blocks) s.block_set answers ≡ Some c → b ≡ c
  pub after : Stands new (record s { block_set = put s.block_set b model_state.Reclaims; stats = marked probation s.block_set s.stats })

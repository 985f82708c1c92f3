-- What a step shows the pickers that it borrows: the blocks that become evictable, and the one that is reclaimed.
use Rattle.std.specs.Prelude.{ℕ, List, [], length, Option, option_and_then, slice_get}
use Rattle.foyer_core_model.specs.Ids.{ids}
use Rattle.foyer_block_manager.specs.Managed.{Managed}
use Rattle.foyer_block_manager.specs.Pickers.{Info, picker_info}
use Rattle.foyer_block_manager.specs.Picks.{usable_in}
use Rattle.foyer_block_manager.specs.Shown.{AreChanged, AreShown, AreShownAll, written_below, written_of}
use Rattle.foyer_core_flusher.specs.Leaving.{left_by}
use Rattle.foyer_core_steps.specs.declared.reply.Reply.{Reply}
use Rattle.foyer_core_steps.specs.declared.reply.Reply.TheVariants as reply
use Rattle.foyer_core_steps.specs.declared.state.Core.{Core}
use Rattle.foyer_core_steps.specs.declared.step.Step.{Step}
use Rattle.foyer_core_steps.specs.declared.step.Step.TheVariants as step

-- the block that this flusher leaves as the next block of its batch is issued
abbrev pub left_at : {K V P A : Type 0} → Core K V P A → ℕ → Option ℕ
left_at core f = option_and_then (λ φ. left_by φ.batch φ.own) (slice_get core.flushers.items f)

-- the block that this flusher leaves if its batch fails
abbrev pub own_at : {K V P A : Type 0} → Core K V P A → ℕ → Option ℕ
own_at core f = option_and_then (λ φ. φ.own) (slice_get core.flushers.items f)

-- the blocks that become evictable in a step that was answered so, in the order in which they do
abbrev pub vacated_blocks : {K V P A : Type 0} → Step K V P A → Reply K V P A → Core K V P A → List ℕ
vacated_blocks (step.FlushBlock f) (reply.Write block writes) old = written_of old.manager.blocks (left_at old f)
vacated_blocks (step.FlushBlock f) reply.NoBlock old = written_of old.manager.blocks (left_at old f)
vacated_blocks (step.FlushWrote f outcome) reply.Failed old = written_of old.manager.blocks (own_at old f)
vacated_blocks step.DestroyClear reply.Cleared old = written_below old.manager.blocks (length old.manager.blocks)
vacated_blocks given answer old = []

-- Each picker is shown these, one after the other, and the block that a reclaim picked, with what the manager has then; a step
-- that is answered otherwise leaves them as they were.
abbrev pub IsShown : {K V P A Q : Type 0} → (Q → Info → ℕ → Q → Type 0) → (Q → Info → ℕ → Q → Type 0) → Step K V P A → Reply K V P A → Core K V P A → Managed → List Q → List Q → Type 0
IsShown learns forgets step.ReclaimBegin (reply.Picked block answers probation) old after ps qs =
    AreShown forgets (picker_info after.blocks after.evictable (usable_in after)) block ps qs
IsShown learns forgets given answer old after ps qs = AreShownAll learns (vacated_blocks given answer old) ps qs

-- Pickers that an opening described so many blocks, of such a size, and then showed these, one after the other.
pub record HaveLearned {Q : Type 0} (begins : Q → List ℕ → ℕ → Q → Type 0) (learns : Q → Info → ℕ → Q → Type 0) (blocks block_size : ℕ)
    (evictable : List ℕ) (old new : List Q) : Type 0 where
  pub described : List Q
  pub begun : AreChanged (λ p q. begins p (ids blocks) block_size q) old described
  pub shown : AreShownAll learns evictable described new

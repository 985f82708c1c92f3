-- What a step that is returned leaves: all is as it was, except for room that was made.
use Rattle.std.specs.Prelude.{◌≡◌, map}
use Rattle.foyer_block_index.specs.Index.{KeepsIndex}
use Rattle.foyer_core_flusher.specs.Seen.{seen}
use Rattle.foyer_core_steps.specs.Reclaiming.{KeepsReclaim}
use Rattle.foyer_core_steps.specs.declared.state.Core.{Core}

-- the core is as it was
pub record IsUnchanged {K V P A : Type 0} (old new : Core K V P A) : Type 0 where
  pub index : KeepsIndex old.index new.index
  pub next : new.next ≡ old.next
  pub steps : new.steps ≡ old.steps
  pub closed : new.closed ≡ old.closed
  pub queued : new.queued ≡ old.queued
  pub settings : new.settings ≡ old.settings
  pub flushers : map seen new.flushers.items ≡ map seen old.flushers.items
  pub manager : new.manager ≡ old.manager
  pub reclaims : KeepsReclaim old.reclaims new.reclaims
  pub destroy : new.destroy ≡ old.destroy

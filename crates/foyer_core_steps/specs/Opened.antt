-- A core that was opened.
use Rattle.std.specs.Prelude.{◌≡◌, ℕ, false, List, [], None, map, replicate}
use Rattle.std.specs.FinMap as index
use Rattle.foyer_core_flusher.specs.Idle.{idle}
use Rattle.foyer_core_flusher.specs.Seen.{seen}
use Rattle.foyer_core_model.specs.State as model_state
use Rattle.foyer_block_recover.specs.Opening.{Opened}
use Rattle.foyer_block_recover.specs.Placed.{IsOpening}
use Rattle.foyer_block_recover.specs.Recovery.{held_slot, IsRecovered}
use Rattle.foyer_block_recover.specs.declared.block.recover.RecoverMode.{RecoverMode}
use Rattle.foyer_core_flusher.specs.Begins.{place_of}
use Rattle.foyer_core_flusher.specs.Sizes.{sizes_in}
use Rattle.foyer_core_flusher.specs.Settings.{Settings}
use Rattle.foyer_block_manager.specs.BlockSets.{BlockSets}
use Rattle.foyer_core_flusher.specs.Standing.{IsManagedAs}
use Rattle.foyer_core_steps.specs.Reclaiming.{reclaim_at}
use Rattle.foyer_core_steps.specs.declared.destroy.Destroy.TheVariants as destroy
use Rattle.foyer_core_steps.specs.declared.state.Core.{Core}

-- so many blocks that were never handed out: these are clean, in this order, and all others are evictable
abbrev pub opened_sets : ℕ → List ℕ → BlockSets
opened_sets blocks clean = record {
  block_set = place_of blocks clean;
  clean = clean;
  waiting = [];
  ready = λ f. None;
  filling = λ b. 0;
  stats = λ b. model_state.no_stats;
  is_cleaning = false;
}

-- the index, the next sequence and the clean blocks are those of an opening, and nothing is queued
pub record IsOpened {K V P A : Type 0} (settings : Settings) (o : Opened) (core : Core K V P A) : Type 0 where
  pub sizes : core.settings ≡ settings
  pub index : (hash : ℕ) → held_slot (index.get core.index.slots hash) ≡ o.index hash
  pub next : core.next ≡ o.next
  pub steps : core.steps ≡ 0
  pub closed : core.closed ≡ false
  pub queued : core.queued ≡ 0
  pub flushers : map seen core.flushers.items ≡ replicate settings.flushers (idle settings)
  pub manager : IsManagedAs settings core.manager (opened_sets settings.blocks o.clean)
  pub reclaims : (b : ℕ) → reclaim_at core.reclaims b ≡ None
  pub destroy : core.destroy ≡ destroy.Absent

-- What the core was opened with lies in the blocks, whatever the disk gave. If the disk shows its bytes, the core was opened
-- with what these bytes and the marks of deletes, with some failed reads, are defined to give.
pub record IsOpenedFrom {K V P A : Type 0} (settings : Settings) (bytes : ℕ → ℕ → ℕ) (surely_has : ℕ → ℕ → ℕ → Type 0) (mode : RecoverMode) (marks : List (ℕ × ℕ)) (is_seen : Type 0) (core : Core K V P A) : Type 0 where
  pub found : Opened
  pub opening : IsOpening (sizes_in settings) settings.blocks marks found
  pub recovered : is_seen → IsRecovered (sizes_in settings) settings.blocks bytes surely_has mode marks found
  pub opened : IsOpened settings found core

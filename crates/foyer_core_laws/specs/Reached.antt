-- That the restart law speaks of something: a run that goes well, leaves an address in the index, and is opened.
use Rattle.std.specs.Prelude.{◌≡◌, ℕ, [], Some}
use Rattle.foyer_core_model.specs.Record.{Address, Indexed}
use Rattle.foyer_core_model.specs.Rules.{Rules, Splitting, sizes_of}
use Rattle.foyer_core_model.specs.State.{Writing}
use Rattle.foyer_core_model.specs.World.{World}
use Rattle.foyer_core_restart.specs.Opening.{Opened, Opens}
use Rattle.foyer_core_restart.specs.RecoverMode.TheVariants as recover_mode
use Rattle.foyer_core_restart.specs.Restart.{IsRun, IsStopped, HasNoStrays, IsWriting, no_fault}
use Rattle.foyer_core_settings.specs.declared.settings.Settings.{Settings}

-- one flusher, one block of two pages, the first of which is its index, and room for a page; all else as it was
abbrev pub smallest : Settings → Settings
smallest s = record s {
  blocks = 1;
  block_size = 8192;
  blob_index_size = 4096;
  flushers = 1;
  indexer_shards = 1;
  submit_queue_size_threshold = 4096;
  buffer_pool_size = 4096;
  reclaimers = 1;
}

-- all that the law asks is met: a run was stopped when no flush was under way, its index had an address, and its bytes open
pub record IsReached {C : Type 0} (rules : Rules C) (Splits : Splitting C) (is_value : C → Type 0) : Type 0 where
  pub world : World C
  pub hash : ℕ
  pub address : Address
  pub opened : Opened
  pub run : IsRun rules Splits is_value world
  pub indexed : world.core.index hash ≡ Some (Indexed address)
  pub idle : (f : ℕ) (r : Writing C) → IsWriting world.core f r → ⊥
  pub stopped : IsStopped rules world world.bytes
  pub strays : HasNoStrays rules world world.bytes
  pub opens : Opens (sizes_of rules) rules.blocks world.bytes recover_mode.Quiet no_fault [] opened

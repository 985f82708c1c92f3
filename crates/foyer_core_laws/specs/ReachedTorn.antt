-- That the restart law speaks of a stop inside writes, of a core with two flushers.
use Rattle.std.specs.Prelude.{ℕ, []}
use Rattle.foyer_core_model.specs.Record.{Address}
use Rattle.foyer_core_model.specs.Rules.{Rules, Splitting, sizes_of}
use Rattle.foyer_core_restart.specs.Opening.{Opened, Opens}
use Rattle.foyer_core_restart.specs.RecoverMode.TheVariants as recover_mode
use Rattle.foyer_core_restart.specs.Restart.{IsFoundAgain, no_fault}
use Rattle.foyer_core_restart.specs.Torn.{IsTornStop, FindsAfter, FindsNewer}
use Rattle.foyer_core_settings.specs.declared.settings.Settings.{Settings}

-- two flushers, three blocks of two pages, the first of which is its index, and room for two pages at each flusher; all else as
-- it was
abbrev pub two_flushers : Settings → Settings
two_flushers s = record s {
  blocks = 3;
  block_size = 8192;
  blob_index_size = 4096;
  flushers = 2;
  indexer_shards = 1;
  submit_queue_size_threshold = 4096;
  buffer_pool_size = 16384;
  reclaimers = 1;
}

-- A run was so stopped; what it left is opened, and has the address again; whatever opens it finds the address, or a newer record
-- of its hash; and the same stop may leave what has the newer record.
pub record IsReachedTorn {C : Type 0} (rules : Rules C) (Splits : Splitting C) (is_value : C → Type 0) : Type 0 where
  pub hash : ℕ
  pub address : Address
  pub stop : IsTornStop rules Splits is_value hash address
  pub opened : Opened
  pub opens : Opens (sizes_of rules) rules.blocks stop.bytes recover_mode.Quiet no_fault [] opened
  pub again : IsFoundAgain opened hash address
  pub finds : FindsAfter stop
  pub newer : FindsNewer stop

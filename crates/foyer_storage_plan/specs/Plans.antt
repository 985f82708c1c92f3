-- What an engine's sizes come to on a device.
use Rattle.std.specs.Prelude.{◌≡◌, ◌⊎◌, ℕ, ◌+◌, ◌-◌, ◌*◌, ◌/◌, ◌^◌, ◌<◌, ◌≤◌, IfSome, MatchOption, min}
use Rattle.foyer_device_page.specs.declared.error.Error.{Error}
use Rattle.foyer_device_page.specs.declared.error.Error.TheVariants.{Config, NoSpace}
use Rattle.foyer_format_layout.specs.Page.{page_up}
use Rattle.foyer_core_settings.specs.Sizes.{IsDefaultShardCount}
use Rattle.foyer_core_settings.specs.declared.settings.Settings.{Settings}
use Rattle.foyer_storage_plan.specs.declared.sizes.EngineSizes.{EngineSizes}

-- a core of so many blocks of these sizes, which are rounded up to whole pages, with so many shards of the index
abbrev pub settings_of : EngineSizes → ℕ → ℕ → Settings
settings_of s blocks shards = record {
  blocks = blocks;
  block_size = page_up s.block_size;
  blob_index_size = page_up s.blob_index_size;
  flushers = s.flushers;
  indexer_shards = shards;
  submit_queue_size_threshold = s.submit_queue_size_threshold;
  buffer_pool_size = s.buffer_pool_size;
  reclaimers = s.reclaimers;
  clean_block_threshold = s.clean_block_threshold;
  tombstone_log = s.tombstone_log;
}

-- The settings of a core of this many blocks of these sizes. The index has the shards that are given. If none are given, it has the default
-- of these blocks.
pub record ArePlanned (s : EngineSizes) (blocks : ℕ) (planned : Settings) : Type 0 where
  pub sizes : planned ≡ settings_of s blocks planned.indexer_shards
  pub shards : MatchOption s.indexer_shards (IsDefaultShardCount blocks (page_up s.block_size) planned.indexer_shards)
      (λ given. planned.indexer_shards ≡ given)

-- how many blocks so many free bytes have room for, behind the log of deletes
abbrev pub blocks_held : EngineSizes → ℕ → ℕ → ℕ
blocks_held s free log = (free - log) / page_up s.block_size

-- The sizes go together, whatever the device.
pub record AreSizes (s : EngineSizes) : Type 0 where
  pub some_block : 0 < s.block_size
  pub offsets_fit : s.block_size ≤ 2 ^ 32
  pub some_index : 0 < s.blob_index_size
  pub room : page_up s.blob_index_size < page_up s.block_size
  pub some_flusher : 0 < s.flushers
  pub some_buffer : 4096 ≤ s.buffer_pool_size / s.flushers
  pub some_reclaimer : 0 < s.reclaimers
  pub few_workers : s.flushers + s.reclaimers < 2 ^ 32
  pub some_shard : IfSome s.indexer_shards (λ given. 0 < given)
  pub some_recoverer : 0 < s.recover_concurrency
  pub some_load_engine : 0 < s.load_engines

-- Reclaims leave some of so many blocks alone. With a threshold that isn't below the number of blocks, each block would be reclaimed as soon as
-- it is full. A threshold of at most 1 always stands, since a store of one block is a store too.
abbrev pub LeavesBlocks : (threshold blocks : ℕ) → Type 0
LeavesBlocks threshold blocks = (threshold ≤ 1) ⊎ (threshold < blocks)

-- how many seats at the device's counters are needed: each worker has one, but a reclaimer two; each I/O engine for loads has one, and so have
-- the log of deletes and all callers together; a block is read by one worker of an opening at most
abbrev pub seats_of : EngineSizes → (blocks : ℕ) → ℕ
seats_of s blocks = s.flushers + 2 * s.reclaimers + min s.recover_concurrency blocks + s.load_engines + 2

-- The device has room for the log, and for at least as many blocks as there are flushers. It has room for no more blocks than can be
-- numbered. Reclaims leave some of these blocks alone, and there are seats for all.
pub record HasRoom (s : EngineSizes) (free log : ℕ) : Type 0 where
  pub log_fits : log ≤ free
  pub enough : s.flushers ≤ blocks_held s free log
  pub few : blocks_held s free log < 2 ^ 32
  pub leaves : LeavesBlocks s.clean_block_threshold (blocks_held s free log)
  pub seats : seats_of s (blocks_held s free log) < 2 ^ 32

-- Why no plan is made: first the sizes, then the log, and last the number of blocks and what depends on it.
pub record IsFirstCause (s : EngineSizes) (free log : ℕ) (error : Error) : Type 0 where
  pub sizes : ¬ AreSizes s → error ≡ Config
  pub space : AreSizes s → free < log → error ≡ NoSpace
  pub blocks : AreSizes s → log ≤ free → error ≡ Config

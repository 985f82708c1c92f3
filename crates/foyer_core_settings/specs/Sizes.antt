-- Sizes that go together.
use Rattle.std.specs.Prelude.{◌≡◌, ℕ, ◌*◌, ◌/◌, ◌+◌, ◌%◌, ◌^◌, ◌<◌, ◌≤◌, ◌==◌, ◌-◌, min, max, if◌then◌else◌}
use Rattle.std.specs.Int.{IsNextPowerOfTwo, div_ceil}
use Rattle.foyer_format_layout.specs.Position.{Sizes}
use Rattle.foyer_core_settings.specs.declared.settings.Settings.{Settings}

-- of a block and of a blob's index
abbrev pub sizes_in : Settings → Sizes
sizes_in s = record { block = s.block_size; index = s.blob_index_size }

-- how many shards an index has if no number is given: the least power of two, from 64 up, that leaves at most 512 pages of the
-- capacity to each shard
abbrev pub IsDefaultShardCount : ℕ → ℕ → ℕ → Type 0
IsDefaultShardCount blocks block_size shards =
    IsNextPowerOfTwo (max (div_ceil (min (blocks * block_size) (2 ^ 64 - 1)) (512 * 4096)) 64) shards

-- the bytes of a flusher's buffer: its share of the pool, in whole pages
abbrev pub buffer_room : Settings → ℕ
buffer_room s = if s.flushers == 0 then 0 else s.buffer_pool_size / s.flushers / 4096 * 4096

pub record AreValid (s : Settings) : Type 0 where
  pub some_flusher : 0 < s.flushers
  pub some_shard : 0 < s.indexer_shards
  pub enough_blocks : s.flushers ≤ s.blocks
  pub whole_block : s.block_size % 4096 ≡ 0
  pub offsets_fit : s.block_size ≤ 2 ^ 32
  pub whole_index : s.blob_index_size % 4096 ≡ 0
  pub some_index : 0 < s.blob_index_size
  pub room : s.blob_index_size < s.block_size
  pub some_buffer : 0 < buffer_room s
  pub some_reclaimer : 0 < s.reclaimers
  pub few_workers : s.flushers + s.reclaimers < 2 ^ 32

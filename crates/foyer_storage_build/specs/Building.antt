-- What an engine is built of, and why it isn't.
use Rattle.std.specs.Prelude.{◌≡◌, ◌⊎◌, ℕ, ◌*◌, ◌/◌, ◌^◌, ◌<◌, max, Bool, true, false, None, if◌then◌else◌}
use Rattle.foyer_block_tombstone.specs.Pages.{log_pages}
use Rattle.foyer_storage_plan.specs.Plans.{AreSizes, HasRoom}
use Rattle.foyer_storage_plan.specs.declared.sizes.EngineSizes.{EngineSizes}
use Rattle.foyer_block_recover.specs.declared.block.recover.RecoverMode.{RecoverMode}
use Rattle.foyer_block_recover.specs.declared.block.recover.RecoverMode.TheVariants as recover_mode
use Rattle.foyer_device_page.specs.declared.error.Error.{Error}
use Rattle.foyer_device_page.specs.declared.error.Error.TheVariants as error

-- how many bytes the log of deletes of a device of so many bytes takes, if there is to be one
abbrev pub log_bytes : Bool → (capacity : ℕ) → ℕ
log_bytes logged capacity = if logged then log_pages capacity * 4096 else 0

-- Sizes that go together and fit a device of so many bytes, of which so many are free. What an opening is refused for beyond this, only the
-- device or memory can say.
pub record CanPlan (s : EngineSizes) (capacity free : ℕ) : Type 0 where
  pub sizes : AreSizes s
  pub log : log_bytes s.tombstone_log capacity < 2 ^ 64
  pub room : HasRoom s free (log_bytes s.tombstone_log capacity)

-- why sizes aren't planned on a device
abbrev pub is_plan_error : Error → Bool
is_plan_error error.Config = true
is_plan_error error.NoSpace = true
is_plan_error error.OutOfRange = true
is_plan_error other = false

-- why a disk isn't made: a file that can't be opened, or no memory
abbrev pub is_disk_error : Error → Bool
is_disk_error error.Io = true
is_disk_error error.Memory = true
is_disk_error other = false

-- why its device isn't divided: sizes that don't fit it or one another, no room, a fault of its files, no memory, or a log of more bytes
-- than can be numbered
abbrev pub is_begin_error : Error → Bool
is_begin_error error.Config = true
is_begin_error error.NoSpace = true
is_begin_error error.Io = true
is_begin_error error.Memory = true
is_begin_error error.OutOfRange = true
is_begin_error other = false

-- Why no engine is opened on a device that was divided: a fault, no memory, a log whose partition is cut short, the last sequence on a device;
-- or, if its mode is strict alone, a block that can't be read.
abbrev pub IsOpenError : RecoverMode → Error → Type 0
IsOpenError mode e = (is_begin_error e ≡ true) ⊎ ((e ≡ error.SequenceEnd) ⊎ ((e ≡ error.Recover) × (mode ≡ recover_mode.Strict)))

-- the value of the bit below one of this value
abbrev pub next_bit : ℕ → ℕ
next_bit bit = max (bit / 2) 1

-- every size at its default
abbrev pub default_sizes : EngineSizes
default_sizes = record {
  block_size = 2 ^ 24;
  blob_index_size = 4096;
  indexer_shards = None;
  recover_concurrency = 8;
  load_engines = 1;
  enqueue_patience = 0;
  flushers = 1;
  reclaimers = 1;
  buffer_pool_size = 2 ^ 24;
  submit_queue_size_threshold = 2 ^ 24;
  clean_block_threshold = 1;
  tombstone_log = false;
}

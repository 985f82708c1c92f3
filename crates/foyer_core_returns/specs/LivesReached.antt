-- That the laws speak of something: a run that reclaims a block and writes just before an index of its earlier life, beside a block
-- that it leaves alone.
use Rattle.std.specs.Prelude.{◌≡◌, ◌≢◌, ℕ, ◌+◌, false, List, [], ◌∷◌, ◌++◌, Some, None}
use Rattle.foyer_format_blob.specs.declared.blob.BlobEntryIndex.{BlobEntryIndex}
use Rattle.foyer_format_buffer.specs.Holding.{all_read}
use Rattle.foyer_format_buffer.specs.Listing.{IsIndex}
use Rattle.foyer_format_layout.specs.BlockBytes.{Write}
use Rattle.foyer_core_model.specs.Access.{InFlight}
use Rattle.foyer_core_model.specs.Opened.{IsOpened}
use Rattle.foyer_core_model.specs.Record.{Address, Indexed}
use Rattle.foyer_core_model.specs.Rules.{Rules, Splitting, sizes_of}
use Rattle.foyer_core_model.specs.World.{World, WorldEvent, MayAllHappen, after, after_all}
use Rattle.foyer_core_restart.specs.Restart.{IsStopped, no_fault}
use Rattle.foyer_block_recover.specs.Opening.{IsCut, Opened, Opens}
use Rattle.foyer_block_recover.specs.declared.block.recover.RecoverMode.TheVariants as recover_mode
use Rattle.foyer_core_laws.specs.Settings.{Settings}
use Rattle.foyer_core_returns.specs.EndedLives.{EndsLife}
use Rattle.foyer_core_returns.specs.Lives.{cleaned_life, life_from, life_of}
use Rattle.foyer_core_returns.specs.Returns.{HasNoOwnStrays, HasNoTornClean}

-- There is one flusher, and room for a page. Each of the two blocks has four pages, of which the first is its index. A reclaim may begin if
-- no block is clean. All else is as it was.
abbrev pub four_pages : Settings → Settings
four_pages s = record s {
  blocks = 2;
  block_size = 16384;
  blob_index_size = 4096;
  flushers = 1;
  indexer_shards = 1;
  submit_queue_size_threshold = 4096;
  buffer_pool_size = 4096;
  reclaimers = 1;
  clean_block_threshold = 1;
}

-- A run meets all that the laws ask, and its own opening found entries in two blocks. The run reclaims one of these blocks, which zeros the
-- block's first page alone. Then it writes a record into that block, and the record's data end just where an index of the earlier life is.
-- What the run left is opened. The opening has the record and the other block's address, and nothing of the earlier life.
pub record IsReachedOver {C : Type 0} (rules : Rules C) (Splits : Splitting C) (is_value : C → Type 0) : Type 0 where
  pub first : World C
  pub before : List (WorldEvent C)
  pub end : WorldEvent C
  pub later : List (WorldEvent C)
  pub own : Opened
  pub bytes : ℕ → ℕ → ℕ
  pub found : Opened
  pub opening : Opens (sizes_of rules) rules.blocks first.bytes recover_mode.Quiet no_fault [] own
  pub whole : (b : ℕ) → IsCut (sizes_of rules) (first.bytes b) (no_fault b) → ⊥
  pub opened : IsOpened rules first
  pub clean : first.core.clean ≡ own.clean
  pub happened : MayAllHappen rules Splits is_value first (before ++ end ∷ later)
  pub stopped : IsStopped rules (after_all rules first (before ++ end ∷ later)) bytes
  pub strays : HasNoOwnStrays rules (life_of rules first (before ++ end ∷ later)) bytes
  pub torn : HasNoTornClean rules (after_all rules first (before ++ end ∷ later)) bytes
  pub opens : Opens (sizes_of rules) rules.blocks bytes recover_mode.Quiet no_fault [] found
  -- the record that was written
  pub hash : ℕ
  pub address : Address
  pub written : (own.index hash ≡ None) × (found.index hash ≡ Some (Indexed address))
  pub well : ((life_of rules first (before ++ end ∷ later) address.block).has_failed ≡ false)
      × ((life_from rules (after rules (after_all rules first before) end) later address.block cleaned_life).has_failed ≡ false)
  -- stopped inside the write of its index, all of whose bytes had come, the run meets all this too
  pub sooner : List (WorldEvent C)
  pub ending : List (WorldEvent C)
  pub is_sooner : later ≡ sooner ++ ending
  pub index : Write
  pub inside : (after_all rules first (before ++ end ∷ sooner)).block_writes 0 ≡ InFlight address.block [] index []
  pub stopped_inside : IsStopped rules (after_all rules first (before ++ end ∷ sooner)) bytes
  pub strays_inside : HasNoOwnStrays rules (life_of rules first (before ++ end ∷ sooner)) bytes
  pub torn_inside : HasNoTornClean rules (after_all rules first (before ++ end ∷ sooner)) bytes
  -- the record went into a block that was reclaimed, and its data end just before an index of the earlier life
  pub ended : EndsLife address.block end
  pub old_hash : ℕ
  pub old : Address
  pub had : own.index old_hash ≡ Some (Indexed old)
  pub old_entry : BlobEntryIndex
  pub old_index : IsIndex (sizes_of rules) ((after rules (after_all rules first before) end).bytes address.block) all_read (address.offset + rules.page_up address.len) (old_entry ∷ [])
  pub named : (old_entry.hash ≡ old_hash) × (old.block ≡ address.block)
  pub gone : found.index old_hash ≡ None
  -- what was in another block
  pub other_hash : ℕ
  pub other : Address
  pub apart : other.block ≢ address.block
  pub well_too : (life_of rules first (before ++ end ∷ later) other.block).has_failed ≡ false
  pub stays : (own.index other_hash ≡ Some (Indexed other)) × (found.index other_hash ≡ Some (Indexed other))

-- What the blocks keep, as an index, the greatest sequence, and the clean blocks.
use Rattle.std.specs.Prelude.{◌≡◌, ℕ, ◌<◌, ◌==◌, nat_le, ◌&&◌, if◌then◌else◌, Bool, true, false, List, Option, Some, None}
use Rattle.std.specs.FinMap as finite
use Rattle.foyer_block_scan.specs.BlobEntryIndex.{BlobEntryIndex}
use Rattle.foyer_block_index.specs.Index.{IndexMap}
use Rattle.foyer_block_index.specs.declared.indexer.EntryAddress.{EntryAddress}
use Rattle.foyer_block_index.specs.Insertion.{inserted_all}
use Rattle.foyer_block_index.specs.declared.indexer.HashedEntryAddress.{HashedEntryAddress}
use Rattle.foyer_block_index.specs.declared.indexer.Index.{Index}
use Rattle.foyer_block_index.specs.declared.indexer.Index.TheVariants.{Address, Tombstone}
use Rattle.foyer_block_scan.specs.Listing.{Lists, kept}
use Rattle.foyer_format_layout.specs.Position.{Sizes}
use Rattle.foyer_block_recover.specs.Kept.{greatest_in}
use Rattle.foyer_block_recover.specs.Opening.{Found, Stands, Marked, winner, all_stand, greatest, clean_from, Keeps, IsCut}
use Rattle.foyer_block_recover.specs.declared.block.recover.RecoverMode.{RecoverMode}
use Rattle.foyer_block_recover.specs.declared.block.recover.RecoverMode.TheVariants as recover_mode
use Rattle.foyer_block_recover.specs.declared.block.blocks.BlocksRead.{BlocksRead}

abbrev pub entry_at : ℕ → BlobEntryIndex → EntryAddress
entry_at b e = record { block = b; offset = e.offset; len = e.len; sequence = e.sequence; filling = 0 }

-- what an index has for a hash that this wins
abbrev pub held : Found → Index
held (Stands b e) = Address (entry_at b e)
held (Marked h s) = Tombstone s

abbrev pub held_by : Option Found → Option Index
held_by None = None
held_by (Some x) = Some (held x)

-- the same without marks
abbrev pub addressed_by : Option Found → Option Index
addressed_by None = None
addressed_by (Some (Stands b e)) = Some (Address (entry_at b e))
addressed_by (Some (Marked h s)) = None

-- whether it is an address of that sequence, or of one below it
abbrev pub is_older : Option Index → ℕ → Bool
is_older None sequence = false
is_older (Some (Address a)) sequence = nat_le a.sequence sequence
is_older (Some (Tombstone s)) sequence = false

-- a hash that has an older address than a mark of it has nothing any more
abbrev pub IsWithoutOlder : IndexMap → IndexMap → (hash sequence : ℕ) → Type 0
IsWithoutOlder old new hash sequence =
    (q : ℕ) → finite.get new q ≡ (if q == hash && is_older (finite.get old q) sequence then None else finite.get old q)

-- the index and the greatest sequence are those of what was found
pub record HoldsFound {A : Type 0} (read : BlocksRead A) (found : List Found) : Type 0 where
  pub index : (h : ℕ) → finite.get read.index.slots h ≡ addressed_by (winner h found)
  pub greatest : read.greatest ≡ greatest found

-- it holds what the first n blocks keep
pub record HoldsKept {A : Type 0} (read : BlocksRead A) (n : ℕ) (keeps : ℕ → List BlobEntryIndex) : Type 0 where
  pub index : (h : ℕ) → finite.get read.index.slots h ≡ held_by (winner h (all_stand 0 n keeps))
  pub greatest : read.greatest ≡ greatest (all_stand 0 n keeps)
  pub clean : read.clean.items ≡ clean_from 0 n keeps

module _ (s : Sizes) (n : ℕ) (bytes : ℕ → ℕ → ℕ) (surely_has : ℕ → ℕ → ℕ → Type 0) (is_strict : Bool) where
  -- What the chains of n blocks of these bytes keep. Reads may have failed, but no read of a place that the disk surely has. If `is_strict`
  -- holds, no chain is cut by a failed read.
  pub record AreBlocksRead {A : Type 0} (read : BlocksRead A) : Type 0 where
    pub failed : ℕ → ℕ → Bool
    pub faults : (b p : ℕ) → b < n → failed b p ≡ true → surely_has b p s.index → ⊥
    pub keeps : ℕ → List BlobEntryIndex
    pub kept : (b : ℕ) → b < n → (ls : List BlobEntryIndex) × Lists s (bytes b) (failed b) ls × (keeps b ≡ kept ls)
    pub whole : is_strict ≡ true → (b : ℕ) → b < n → IsCut s (bytes b) (failed b) → ⊥
    pub holds : HoldsKept read n keeps

  -- The chain of a block is cut by a read that failed, of which it isn't sure that the disk has it.
  pub record IsBlockCut : Type 0 where
    pub failed : ℕ → Bool
    pub block : ℕ
    pub there : block < n
    pub strict : is_strict ≡ true
    pub faults : (p : ℕ) → failed p ≡ true → surely_has block p s.index → ⊥
    pub cut : IsCut s (bytes block) failed

-- The same by what a mode keeps.
pub record AreBlocksKept {A : Type 0} (s : Sizes) (n : ℕ) (bytes : ℕ → ℕ → ℕ) (surely_has : ℕ → ℕ → ℕ → Type 0) (mode : RecoverMode) (read : BlocksRead A) : Type 0 where
  pub failed : ℕ → ℕ → Bool
  pub faults : (b p : ℕ) → b < n → failed b p ≡ true → surely_has b p s.index → ⊥
  pub keeps : ℕ → List BlobEntryIndex
  pub kept : (b : ℕ) → b < n → Keeps s mode (bytes b) (failed b) (keeps b)
  pub whole : mode ≡ recover_mode.Strict → (b : ℕ) → b < n → IsCut s (bytes b) (failed b) → ⊥
  pub holds : HoldsKept read n keeps

-- what was read, with a batch that isn't in its index yet
abbrev pub gathered : {A : Type 0} → BlocksRead A → List HashedEntryAddress → BlocksRead A
gathered read batch = record read {
  index = record (read.index) { slots = inserted_all (read.index).slots batch };
  greatest = greatest_in read.greatest batch;
}

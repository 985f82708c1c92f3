-- The index and the blocks of a core as the model has them.
use Rattle.std.specs.Prelude.{◌≡◌, ℕ, ◌<◌, true, List, length, Option, Some, None}
use Rattle.std.specs.FinMap as finite
use Rattle.foyer_block_index.specs.Index.{IndexMap}
use Rattle.foyer_block_index.specs.declared.indexer.EntryAddress.{EntryAddress}
use Rattle.foyer_block_index.specs.declared.indexer.Index.{Index}
use Rattle.foyer_block_index.specs.declared.indexer.Index.TheVariants.{Address, Tombstone}
use Rattle.foyer_core_model.specs.Flush.{is_cleaning}
use Rattle.foyer_core_model.specs.Ids.{is_id_in}
use Rattle.foyer_core_model.specs.Record as model_record
use Rattle.foyer_core_model.specs.State as model_state
use Rattle.foyer_core_laws.specs.Settings.{Settings}
use Rattle.foyer_block_manager.specs.BlockSets.{BlockSets, Stands, is_reclaimed}
use Rattle.foyer_block_manager.specs.Managed.{Managed}
use Rattle.foyer_core_blocks.specs.Addresses.{address_of}

abbrev pub slot_of : Option Index → Option model_record.Slot
slot_of None = None
slot_of (Some (Address a)) = Some (model_record.Indexed (address_of a))
slot_of (Some (Tombstone sequence)) = Some (model_record.Mark sequence)

-- each hash has what the map has for it, and addresses are of blocks that are there
pub record IsIndexedAs (s : Settings) (index : IndexMap) (slots : ℕ → Option model_record.Slot) : Type 0 where
  pub slot : (hash : ℕ) → slots hash ≡ slot_of (finite.get index hash)
  pub there : (hash : ℕ) (a : EntryAddress) → finite.get index hash ≡ Some (Address a) → a.block < s.blocks

-- what the model has of its blocks
abbrev pub sets_of : {C : Type 0} → model_state.State C → BlockSets
sets_of it = record {
  block_set = it.place;
  clean = it.clean;
  waiting = it.waiting;
  ready = λ f. (it.flushers f).ready;
  filling = it.filling;
  stats = it.stats;
  is_cleaning = is_cleaning it.destroy;
}

-- the manager stands for these sets, has as many blocks and flushers as the sizes say, and begins reclaims by them
pub record IsManagedAs (s : Settings) (manager : Managed) (its : BlockSets) : Type 0 where
  pub blocks : length manager.blocks ≡ s.blocks
  pub flushers : length manager.ready ≡ s.flushers
  pub reclaimers : manager.reclaimers ≡ s.reclaimers
  pub clean_threshold : manager.clean_threshold ≡ s.clean_block_threshold
  pub sets : Stands manager its

-- A flusher's own block is one that it writes, and so is one that it was given while it waited: then it has no other. One
-- that waits has none.
pub record HasItsBlocks {C : Type 0} (s : Settings) (place : ℕ → model_state.BlockSet) (waiting : List ℕ) (f : ℕ) (φ : model_state.Flusher C) : Type 0 where
  pub own : (b : ℕ) → φ.own ≡ Some b → place b ≡ model_state.Writes f
  pub ready : (b : ℕ) → φ.ready ≡ Some b → (place b ≡ model_state.Writes f) × (b < s.blocks) × (φ.own ≡ None)
  pub waits : is_id_in f waiting ≡ true → (φ.own ≡ None) × (φ.ready ≡ None)

-- the other flushers' blocks stay theirs, and none of these begins to wait
pub record LeavesOthers (f : ℕ) (place : ℕ → model_state.BlockSet) (waiting : List ℕ) (place' : ℕ → model_state.BlockSet) (waiting' : List ℕ) : Type 0 where
  pub block_set : (g b : ℕ) → (g ≡ f → ⊥) → place b ≡ model_state.Writes g → place' b ≡ model_state.Writes g
  pub waits : (g : ℕ) → (g ≡ f → ⊥) → is_id_in g waiting' ≡ true → is_id_in g waiting ≡ true

-- a flusher keeps the blocks that it has
pub record KeepsItsBlocks {C : Type 0} (old new : model_state.Flusher C) : Type 0 where
  pub own : new.own ≡ old.own
  pub ready : new.ready ≡ old.ready

-- no reclaim begins or ends, and a block that is reclaimed stays in its filling
pub record KeepsReclaims (place : ℕ → model_state.BlockSet) (filling : ℕ → ℕ) (place' : ℕ → model_state.BlockSet) (filling' : ℕ → ℕ) : Type 0 where
  pub sets : (b : ℕ) → is_reclaimed (place' b) ≡ is_reclaimed (place b)
  pub fillings : (b : ℕ) → is_reclaimed (place b) ≡ true → filling' b ≡ filling b

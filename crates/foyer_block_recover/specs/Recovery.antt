-- What a recovery answers, of a disk whose bytes contracts see.
use Rattle.std.specs.Prelude.{◌≡◌, ℕ, ◌<◌, Bool, true, List, [], ◌∷◌, Option, Some, None, ◌⊎◌}
use Rattle.std.specs.FinMap as finite
use Rattle.foyer_block_index.specs.declared.indexer.EntryAddress.{EntryAddress}
use Rattle.foyer_block_index.specs.declared.indexer.Index.{Index}
use Rattle.foyer_block_index.specs.declared.indexer.Index.TheVariants.{Address, Tombstone}
use Rattle.foyer_block_index.specs.declared.tombstone.Tombstone.{Tombstone as Mark}
use Rattle.foyer_format_layout.specs.Position.{Sizes}
use Rattle.foyer_device_page.specs.declared.error.Error.{Error}
use Rattle.foyer_device_page.specs.declared.error.Error.TheVariants as error
use Rattle.foyer_core_model.specs.Record as model
use Rattle.foyer_block_recover.specs.Opening.{Opened, Opens, IsCutShort, IsAtEnd}
use Rattle.foyer_block_recover.specs.declared.block.recover.Recovered.{Recovered}
use Rattle.foyer_block_recover.specs.declared.block.recover.RecoverMode.{RecoverMode}
use Rattle.foyer_block_recover.specs.declared.block.recover.RecoverMode.TheVariants as recover_mode
use Rattle.foyer_block_recover.specs.declared.block.recover.RecoverRunner.{RecoverRunner}

abbrev pub sizes_of : RecoverRunner → Sizes
sizes_of r = record { block = r.block_size; index = r.blob_index_size }

abbrev pub marks_of : List Mark → List (ℕ × ℕ)
marks_of [] = []
marks_of (m ∷ ms) = (m.hash, m.sequence) ∷ marks_of ms

abbrev pub address_of : EntryAddress → model.Address
address_of a = record { block = a.block; offset = a.offset; len = a.len; sequence = a.sequence; filling = a.filling }

-- what the index has for a hash
abbrev pub held_slot : Option Index → Option model.Slot
held_slot None = None
held_slot (Some (Address a)) = Some (model.Indexed (address_of a))
held_slot (Some (Tombstone sequence)) = Some (model.Mark sequence)

-- what a recovery gives, as what an opening gives
abbrev pub opened_of : {A : Type 0} → Recovered A → Opened
opened_of r = record {
  index = λ h. held_slot (finite.get r.index.slots h);
  next = r.next;
  clean = r.clean.items;
}

-- Reads of an index that failed, of n blocks; of none of them it is sure that the disk has it.
abbrev pub AreFaults : Sizes → ℕ → (ℕ → ℕ → ℕ → Type 0) → (ℕ → ℕ → Bool) → Type 0
AreFaults s n surely_has failed = (b p : ℕ) → b < n → failed b p ≡ true → surely_has b p s.index → ⊥

module _ (s : Sizes) (n : ℕ) (bytes : ℕ → ℕ → ℕ) (surely_has : ℕ → ℕ → ℕ → Type 0) (mode : RecoverMode) (marks : List (ℕ × ℕ)) where
  -- it is the opening of these bytes, for some set of failed reads
  abbrev pub IsRecovered : Opened → Type 0
  IsRecovered opened = (failed : ℕ → ℕ → Bool) × AreFaults s n surely_has failed × Opens s n bytes mode failed marks opened

  -- it is refused as the opening of these bytes is, for some set of failed reads; or it is refused because memory is
  abbrev pub IsRefused : Error → Type 0
  IsRefused error.Memory = Unit {0}
  IsRefused error.Recover = (failed : ℕ → ℕ → Bool) × AreFaults s n surely_has failed × IsCutShort s n bytes mode failed
  IsRefused error.SequenceEnd = (failed : ℕ → ℕ → Bool) × AreFaults s n surely_has failed × IsAtEnd s n bytes mode failed marks
  IsRefused _ = ⊥

-- what a recovery may be refused as, whatever a disk's bytes are
abbrev pub MayRefuse : RecoverMode → Error → Type 0
MayRefuse mode e = (e ≡ error.Memory) ⊎ ((e ≡ error.Recover) × (mode ≡ recover_mode.Strict)) ⊎ (e ≡ error.SequenceEnd)

-- What the mark of a delete pushes out.
use Rattle.std.proofs.Common.{◌≡◌, ℕ, nat_le, Bool, true, false, if◌then◌else◌, [], ◌∷◌, Option, Some, None, refl}
use Rattle.foyer_block_index.specs.Index.{address_of}
use Rattle.foyer_block_index.specs.Insertion.{displaced}
use Rattle.foyer_block_index.specs.declared.indexer.Index.{Index}
use Rattle.foyer_block_index.specs.declared.indexer.Index.TheVariants.{Address, Tombstone}
use Rattle.foyer_format_layout.specs.Page.{page_up}
use Rattle.foyer_core_model.specs.Queue.{invalidated_by}
use Rattle.foyer_core_blocks.specs.Content.{Meaning}
use Rattle.foyer_core_blocks.specs.CoreRules.{machine}
use Rattle.foyer_core_blocks.specs.Sizes.{AreValid}
use Rattle.foyer_core_blocks.specs.Standing.{slot_of}
use Rattle.foyer_core_blocks.specs.Settings.{Settings}
use Rattle.foyer_core_flusher.specs.Marking.{bytes_of}

pub pushed_out : {K V P : Type 0} (m : Meaning K V P) (s : Settings) (sound : AreValid s) (held : Option Index) (sequence : ℕ)
    → bytes_of (displaced held (Tombstone sequence)) ≡ invalidated_by (machine m s sound) sequence (slot_of held)
pushed_out m s sound None sequence = refl
pushed_out m s sound (Some (Tombstone t)) sequence = go (nat_le t sequence)
  where
    go : (b : Bool) → bytes_of (address_of (if b then Tombstone t else Tombstone sequence)) ≡ []
    go true = refl
    go false = refl
pushed_out m s sound (Some (Address a)) sequence = go (nat_le a.sequence sequence)
  where
    go : (b : Bool) → bytes_of (address_of (if b then Address a else Tombstone sequence)) ≡ (if b then record { block = a.block; filling = a.filling; bytes = page_up a.len } ∷ [] else [])
    go true = refl
    go false = refl

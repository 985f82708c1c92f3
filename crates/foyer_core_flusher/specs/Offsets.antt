-- Offsets in a block that fit the types that they are kept in.
use Rattle.std.specs.Coded.{×_prop, Unit-prop, le_prop}
use Rattle.std.specs.Prelude.{ℕ, ◌+◌, ◌^◌, ◌<◌, List, [], ◌∷◌}
use Rattle.foyer_format_blob.specs.declared.blob.BlobEntryIndex.{BlobEntryIndex}
use Rattle.foyer_format_buffer.specs.declared.split.Block.{Block}
use Rattle.foyer_format_buffer.specs.declared.split.BlobPart.{BlobPart}
use Rattle.foyer_format_layout.specs.Each.{Each}

-- that of a record of a blob that begins at this offset of its block
abbrev pub EntryFits : ℕ → BlobEntryIndex → Type 0
EntryFits blob e = blob + e.offset < 2 ^ 32

module _ {A : Type 0} where
  -- those of a part's data, and of its records
  abbrev pub PartFits : BlobPart A → Type 0
  PartFits p = (p.blob_block_offset + p.part_blob_offset < 2 ^ 64) × Each (EntryFits p.blob_block_offset) p.indices.items

  -- those of all parts of a block
  abbrev pub BlockFits : Block A → Type 0
  BlockFits b = Each PartFits b.blob_parts.items

each_is_prop : {X : Type 0} (P : X → Type 0) → ((x : X) → IsProp (P x)) → (xs : List X) → IsProp (Each P xs)
each_is_prop P is [] = Unit-prop
each_is_prop P is (x ∷ xs) = ×_prop (is x) (each_is_prop P is xs)

-- of blocks there is one way at most in which they fit
pub blocks_fit_once : {A : Type 0} (blocks : List (Block A)) → IsProp (Each BlockFits blocks)
blocks_fit_once blocks = each_is_prop BlockFits (λ b. each_is_prop PartFits (λ p. ×_prop le_prop (each_is_prop (EntryFits p.blob_block_offset) (λ e. le_prop) p.indices.items)) b.blob_parts.items) blocks

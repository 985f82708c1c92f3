-- A split batch in the words of the plain machine.
use Rattle.std.specs.Prelude.{◌≡◌, ℕ, ◌+◌, List, [], ◌∷◌, map, length}
use Rattle.foyer_format_buffer.specs.BlobEntryIndex.{BlobEntryIndex}
use Rattle.foyer_format_buffer.specs.Entries.{Entry}
use Rattle.foyer_format_buffer.specs.Position as buffered
use Rattle.foyer_format_buffer.specs.declared.split.BlobPart.{BlobPart}
use Rattle.foyer_device_page.specs.Section.{bytes_of}
use Rattle.foyer_core_model.specs.Position.{Position, Part, BlockLayout}
use Rattle.foyer_core_model.specs.Record.{IndexEntry, Record}

abbrev pub entry_of : BlobEntryIndex → IndexEntry
entry_of e = record { hash = e.hash; sequence = e.sequence; offset = e.offset; len = e.len }

abbrev pub position_of : buffered.Position → Position
position_of f = record { blob = f.blob; at = f.at; listed = map entry_of f.listed }

module _ {C : Type 0} where
  -- what a buffer keeps of a record
  abbrev pub kept_of : Record C → Entry
  kept_of r = record { hash = r.hash; sequence = r.sequence; bytes = r.bytes }

  -- the entries of a blob that begins at an offset of its block are those of these records, each with its offset in the
  -- block
  abbrev pub AreEntriesOf : ℕ → List BlobEntryIndex → List (ℕ × Record C) → Type 0
  AreEntriesOf blob [] [] = Unit {0}
  AreEntriesOf blob (e ∷ es) (p ∷ ps) =
      (p.0 ≡ blob + e.offset) × ((p.1).hash ≡ e.hash) × ((p.1).sequence ≡ e.sequence) × (length (p.1).bytes ≡ e.len)
      × AreEntriesOf blob es ps
  AreEntriesOf blob es ps = ⊥

  module _ {A : Type 0} where
    -- the part in plain words
    pub record IsPartAs (p : BlobPart A) (q : Part C) : Type 0 where
      pub blob : q.blob ≡ p.blob_block_offset
      pub at : q.at ≡ p.part_blob_offset
      pub content : q.content ≡ bytes_of p.part_data
      pub index : q.index ≡ p.index
      pub records : AreEntriesOf p.blob_block_offset p.indices.items q.records

    abbrev pub ArePartsAs : List (BlobPart A) → List (Part C) → Type 0
    ArePartsAs [] [] = Unit {0}
    ArePartsAs (p ∷ ps) (q ∷ qs) = IsPartAs p q × ArePartsAs ps qs
    ArePartsAs ps qs = ⊥

    -- block by block
    abbrev pub AreBlocksAs : List (List (BlobPart A)) → List (BlockLayout C) → Type 0
    AreBlocksAs [] [] = Unit {0}
    AreBlocksAs (ps ∷ blocks) (spread ∷ spreads) = ArePartsAs ps spread.parts × AreBlocksAs blocks spreads
    AreBlocksAs blocks spreads = ⊥

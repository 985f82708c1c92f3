-- Worked examples: an index's entry in bytes, how many entries an index has room for, and what is
-- kept of a list.
use Rattle.std.specs.Prelude.{◌≡◌, ℕ, [], ◌∷◌}
use Rattle.foyer_format_blob.specs.Blob.{capacity_of, entry_bytes}
use Rattle.foyer_format_buffer.specs.Listing.{kept}
use Rattle.foyer_format_blob.specs.declared.blob.BlobEntryIndex.{BlobEntryIndex}

-- hash 1, sequence 1, offset 4096, len 53
abbrev pub EntryVector : Type 0
EntryVector =
    entry_bytes (record { hash = 1; sequence = 1; offset = 4096; len = 53 })
    ≡ 0 ∷ 0 ∷ 0 ∷ 0 ∷ 0 ∷ 0 ∷ 0 ∷ 1
    ∷ 0 ∷ 0 ∷ 0 ∷ 0 ∷ 0 ∷ 0 ∷ 0 ∷ 1
    ∷ 0 ∷ 0 ∷ 0x10 ∷ 0 ∷ 0 ∷ 0 ∷ 0 ∷ 0x35 ∷ []

-- of 4096 and of 8192 bytes
abbrev pub CapacityVector : Type 0
CapacityVector = (capacity_of 4096 ≡ 170) × (capacity_of 8192 ≡ 340)

abbrev of_sequence : ℕ → BlobEntryIndex
of_sequence n = record { hash = 0; sequence = n; offset = 4096; len = 53 }

-- the third sequence steps back
abbrev pub KeptVector : Type 0
KeptVector =
    kept (of_sequence 5 ∷ of_sequence 6 ∷ of_sequence 4 ∷ of_sequence 7 ∷ [])
    ≡ of_sequence 5 ∷ of_sequence 6 ∷ []

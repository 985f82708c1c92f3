-- Entries, sizes and writes of the model as those of the bytes.
use Rattle.std.specs.Prelude.{◌≡◌, ℕ, ◌==◌, ◌&&◌, if◌then◌else◌, List, [], ◌∷◌, ◌++◌, length, map, ◌⊎◌}
use Rattle.foyer_format_blob.specs.declared.blob.BlobEntryIndex.{BlobEntryIndex}
use Rattle.foyer_format_buffer.specs.Position as laid
use Rattle.foyer_format_buffer.specs.Stored as stands
use Rattle.foyer_core_model.specs.Record.{Address, IndexEntry, Record}
use Rattle.foyer_core_model.specs.Position.{Position}
use Rattle.foyer_core_model.specs.World.{World, Stored}

-- a member of a list
abbrev pub In : {X : Type 0} → X → List X → Type 0
In x [] = ⊥
In x (y ∷ ys) = (x ≡ y) ⊎ In x ys

-- an entry of an index
abbrev pub entry_in : IndexEntry → BlobEntryIndex
entry_in e = record { hash = e.hash; sequence = e.sequence; offset = e.offset; len = e.len }

-- how far a block is filled
abbrev pub filled_to : Position → laid.Position
filled_to f = record { blob = f.blob; at = f.at; listed = map entry_in f.listed }

-- a record that stands at an offset
abbrev pub stored : {C : Type 0} → ℕ × Record C → stands.Stored
stored p = record { hash = (p.1).hash; sequence = (p.1).sequence; offset = p.0; bytes = (p.1).bytes }

-- the entry that a block lists of it
abbrev pub entry_of : {C : Type 0} → ℕ × Record C → BlobEntryIndex
entry_of p = record { hash = (p.1).hash; sequence = (p.1).sequence; offset = p.0; len = length (p.1).bytes }

-- the entry that a block lists of an address
abbrev pub entry_at : ℕ → Address → BlobEntryIndex
entry_at h a = record { hash = h; sequence = a.sequence; offset = a.offset; len = a.len }

-- the entry of a record that was committed
abbrev pub entry_done : {C : Type 0} → Stored C → BlobEntryIndex
entry_done x = entry_of (x.offset, x.content)

-- the entries committed in one filling of a block, the first of them first
abbrev pub puts_at : {C : Type 0} → (block filling : ℕ) → List (Stored C) → List BlobEntryIndex
puts_at b n [] = []
puts_at b n (x ∷ xs) = puts_at b n xs ++ (if x.block == b && x.filling == n then entry_done x ∷ [] else [])

-- the entries committed in its present filling
abbrev pub puts : {C : Type 0} → World C → ℕ → List BlobEntryIndex
puts w b = puts_at b (w.core.filling b) w.committed

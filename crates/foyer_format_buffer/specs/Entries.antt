-- What a buffer holds: entries one behind another, each padded to whole pages.
use Rattle.std.specs.Prelude.{◌≡◌, ℕ, ◌+◌, ◌-◌, ◌≤◌, List, [], ◌∷◌, ◌++◌, length, take, drop}
use Rattle.foyer_format_layout.specs.Page.{page_up}
use Rattle.foyer_format_buffer.specs.Position.{taken}
use Rattle.foyer_format_buffer.specs.declared.BufferEntryInfo.{BufferEntryInfo}
use Rattle.foyer_format_blob.specs.Compression.{Compression}
use Rattle.foyer_format_blob.specs.Compression.TheVariants as compression

-- a record of this hash and this sequence, or a slice that was taken for one
pub record Entry : Type 0 where
  pub hash : ℕ
  pub sequence : ℕ
  pub bytes : List ℕ

-- the entries, the bytes that there are in all, and the most that an entry may take, padded
pub record Entries : Type 0 where
  pub entries : List Entry
  pub room : ℕ
  pub greatest : ℕ

-- how many bytes entries take with their padding
unfoldable pub size_of : List Entry → ℕ
size_of [] = 0
size_of (e ∷ es) = page_up (length e.bytes) + size_of es

-- how many bytes are left
abbrev pub left_of : Entries → ℕ
left_of b = b.room - size_of b.entries

-- one entry more
abbrev pub with_entry : Entries → (hash sequence : ℕ) → List ℕ → Entries
with_entry b hash sequence bytes =
    record b {
      entries = b.entries ++ record { hash = hash; sequence = sequence; bytes = bytes } ∷ [];
    }

-- the entries that are stored where these say
abbrev pub entries_at : List ℕ → List BufferEntryInfo → List Entry
entries_at bytes [] = []
entries_at bytes (i ∷ is) =
    record { hash = i.hash; sequence = i.sequence; bytes = take i.len (drop i.offset bytes) }
    ∷ entries_at bytes is

-- each lies where the one before it ends with its padding; the first lies at this offset
abbrev pub IsPacked : ℕ → List BufferEntryInfo → Type 0
IsPacked at [] = Unit {0}
IsPacked at (i ∷ is) = (i.offset ≡ at) × IsPacked (at + page_up i.len) is

-- each takes so many bytes at most, with its padding
abbrev pub EachTakes : ℕ → List BufferEntryInfo → Type 0
EachTakes greatest [] = Unit {0}
EachTakes greatest (i ∷ is) = (page_up i.len ≤ greatest) × EachTakes greatest is

-- The bytes are those of the buffer, its entries are stored where these say, and none takes more than it
-- may.
pub record IsFinished (b : Entries) (bytes : List ℕ) (infos : List BufferEntryInfo) : Type 0 where
  pub size : length bytes ≡ b.room
  pub packed : IsPacked 0 infos
  pub within : taken infos ≤ length bytes
  pub entries : entries_at bytes infos ≡ b.entries
  pub each : EachTakes b.greatest infos

-- a record whose value and key take n bytes together fits into the buffer
pub record FitsBuffer (b : Entries) (c : Compression) (is_encodable : Type 0) (n : ℕ) : Type 0 where
  pub plain : c ≡ compression.None
  pub encoded : is_encodable
  pub room : 36 + n ≤ left_of b
  pub greatest : page_up (36 + n) ≤ b.greatest

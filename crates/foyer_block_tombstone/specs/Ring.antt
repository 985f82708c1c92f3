-- The ring of marks.
use Rattle.std.specs.Prelude.{◌≡◌, ◌≢◌, ℕ, zero, suc, ◌+◌, ◌%◌, ◌/◌, ◌<◌, ◌≤◌, ◌==◌, ◌⊎◌, min, if◌then◌else◌, List, [], ◌∷◌, ◌++◌, length, Some, slice_get}
use Rattle.foyer_block_index.specs.declared.tombstone.Tombstone.{Tombstone}

-- Marks are put at the numbers from `start` on. Each slot has the last mark that was put at a number equal to the slot's own modulo the
-- number of slots. If no mark was put there, the slot has what it had.
pub record IsPut (slots : ℕ) (old : ℕ → Tombstone) (start : ℕ) (marks : List Tombstone) (new : ℕ → Tombstone) : Type 0 where
  pub last : (k : ℕ) → k < length marks → ((j : ℕ) → k < j → j < length marks → (start + j) % slots ≢ (start + k) % slots)
      → slice_get marks k ≡ Some (new ((start + k) % slots))
  pub kept : (i : ℕ) → i < slots → ((k : ℕ) → k < length marks → (start + k) % slots ≢ i) → new i ≡ old i

-- the marks of the first n slots, in order; a slot of sequence 0 is empty
abbrev pub marks_of : (ℕ → Tombstone) → ℕ → List Tombstone
marks_of ring zero = []
marks_of ring (suc n) = marks_of ring n ++ (if (ring n).sequence == 0 then [] else ring n ∷ [])

-- every slot is empty
abbrev pub IsEmpty : (ℕ → Tombstone) → ℕ → Type 0
IsEmpty ring n = (i : ℕ) → i < n → (ring i).sequence ≡ 0

-- the slot has the greatest sequence of the first n, and is the last that has it
pub record IsNewest (ring : ℕ → Tombstone) (n i : ℕ) : Type 0 where
  pub within : i < n
  pub filled : 0 < (ring i).sequence
  pub before : (j : ℕ) → j < n → (ring j).sequence ≤ (ring i).sequence
  pub behind : (j : ℕ) → i < j → j < n → (ring j).sequence < (ring i).sequence

-- what stands in an empty slot
abbrev pub no_mark : Tombstone
no_mark = record { hash = 0; sequence = 0 }

-- the number at which a log with these slots goes on, and its newest mark
abbrev pub GoesOnAt : (ℕ → Tombstone) → ℕ → ℕ → Tombstone → Type 0
GoesOnAt ring n slot newest =
    (IsEmpty ring n × (slot ≡ 1) × (newest ≡ no_mark)) ⊎ ((i : ℕ) × IsNewest ring n i × (slot ≡ i + 1) × (ring i ≡ newest))

-- the same of one slot, whose mark was old and is new
pub record IsPutAt (slots start : ℕ) (marks : List Tombstone) (i : ℕ) (old new : Tombstone) : Type 0 where
  pub last : (k : ℕ) → k < length marks → (start + k) % slots ≡ i → length marks ≤ k + slots → slice_get marks k ≡ Some new
  pub kept : ((k : ℕ) → k < length marks → (start + k) % slots ≢ i) → new ≡ old

-- the first n slots were read: their marks are listed behind a base, and the mark of the greatest sequence and the slot behind it
-- are these
pub record IsRead (ring : ℕ → Tombstone) (n : ℕ) (base marks : List Tombstone) (newest : Tombstone) (slot : ℕ) : Type 0 where
  pub listed : marks ≡ base ++ marks_of ring n
  pub greatest : (j : ℕ) → j < n → (ring j).sequence ≤ newest.sequence
  pub next : ((newest ≡ no_mark) × (slot ≡ 1)) ⊎ ((i : ℕ) × (i < n) × (slot ≡ i + 1) × (0 < newest.sequence) × (ring i ≡ newest)
      × ((j : ℕ) → i < j → j < n → (ring j).sequence < newest.sequence))

-- a page with a slot that one of the marks, put from a slot on, comes into
abbrev pub IsTouched : (slots start count page : ℕ) → Type 0
IsTouched slots start count page = (k : ℕ) × (k < count) × ((start + k) % slots / 256 ≡ page)

-- how many pages that is, in a ring of so many: those up to the last mark's, at most all
unfoldable pub touched : (start count pages : ℕ) → ℕ
touched start zero pages = 0
touched start (suc n) pages = min pages ((start % 256 + n) / 256 + 1)

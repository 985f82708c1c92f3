-- How long a mark lasts that an append put.
use Rattle.std.specs.Prelude.{◌≡◌, ◌≢◌, ℕ, ◌+◌, ◌%◌, ◌<◌, List, [], ◌∷◌, length, Some, slice_get, Contains}
use Rattle.foyer_block_index.specs.declared.tombstone.Tombstone.{Tombstone}
use Rattle.foyer_format_layout.specs.Each.{Each}
use Rattle.foyer_block_tombstone.specs.Ring.{IsPut, marks_of}

-- an append: the number at which it begins, and its marks
abbrev pub Append : Type 0
Append = ℕ × List Tombstone

-- no later mark of the append comes into the slot of its mark k
abbrev pub IsLastInSlot : (slots start : ℕ) → List Tombstone → (k : ℕ) → Type 0
IsLastInSlot slots start marks k = (j : ℕ) → k < j → j < length marks → (start + j) % slots ≢ (start + k) % slots

-- no mark of the append comes into the slot i
abbrev pub Spares : (slots i : ℕ) → Append → Type 0
Spares slots i append = (k : ℕ) → k < length append.1 → (append.0 + k) % slots ≢ i

-- one append after the other makes of one ring the other
abbrev pub AreAppended : (slots : ℕ) → (ℕ → Tombstone) → List Append → (ℕ → Tombstone) → Type 0
AreAppended slots old [] new = (i : ℕ) → i < slots → new i ≡ old i
AreAppended slots old (append ∷ appends) new =
    (between : ℕ → Tombstone) × IsPut slots old append.0 append.1 between × AreAppended slots between appends new

-- A mark that an append put, and that neither a later mark of it nor an append after it overwrote, is among the marks that
-- an opening lists.
abbrev pub MarksLast : Type 0
MarksLast =
    (slots start : ℕ) (old between new : ℕ → Tombstone) (marks : List Tombstone) (k : ℕ) (mark : Tombstone) (appends : List Append)
    → 0 < slots → IsPut slots old start marks between → slice_get marks k ≡ Some mark → mark.sequence ≢ 0
    → IsLastInSlot slots start marks k → AreAppended slots between appends new → Each (Spares slots ((start + k) % slots)) appends
    → Contains (marks_of new slots) mark

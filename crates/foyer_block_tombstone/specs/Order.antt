-- Where the newest mark stands, so that a log that is opened again goes on behind all its marks.
use Rattle.std.specs.Prelude.{◌≡◌, ◌≢◌, ◌⊎◌, ℕ, ◌+◌, ◌-◌, ◌%◌, ◌<◌, ◌≤◌, List, [], ◌∷◌, length, Some, slice_get}
use Rattle.foyer_block_index.specs.declared.tombstone.Tombstone.{Tombstone}
use Rattle.foyer_block_tombstone.specs.Ring.{GoesOnAt, IsEmpty, IsPut, no_mark}

-- the mark of this slot has a greater sequence than that of each other slot
pub record IsGreatest (ring : ℕ → Tombstone) (n i : ℕ) (newest : Tombstone) : Type 0 where
  pub within : i < n
  pub filled : 0 < newest.sequence
  pub there : ring i ≡ newest
  pub others : (j : ℕ) → j < n → j ≢ i → (ring j).sequence < newest.sequence

-- The mark of the greatest sequence stands in the slot before that of this number; or there is no mark yet.
abbrev pub StandsLast : (ℕ → Tombstone) → (n slot : ℕ) → Tombstone → Type 0
StandsLast ring n slot newest =
    (IsEmpty ring n × (newest ≡ no_mark) × (slot % n ≡ 1 % n)) ⊎ ((i : ℕ) × IsGreatest ring n i newest × (slot % n ≡ (i + 1) % n))

-- each mark has a greater sequence than those before it
abbrev pub Rises : List Tombstone → Type 0
Rises marks = (j k : ℕ) (a b : Tombstone) → j < k → slice_get marks j ≡ Some a → slice_get marks k ≡ Some b → a.sequence < b.sequence

-- each mark is older than this one
abbrev pub AreOlder : List Tombstone → Tombstone → Type 0
AreOlder marks newest = (k : ℕ) (mark : Tombstone) → slice_get marks k ≡ Some mark → mark.sequence < newest.sequence

-- Rising marks that are put behind the newest one: the last of them stands last then.
abbrev pub LastStandsLast : Type 0
LastStandsLast =
    (n slot : ℕ) (old new : ℕ → Tombstone) (marks : List Tombstone) (newest last : Tombstone)
    → 0 < n → StandsLast old n slot newest → Rises marks → slice_get marks (length marks - 1) ≡ Some last → newest.sequence < last.sequence
    → IsPut n old slot marks new → StandsLast new n (slot + length marks) last

-- Older marks, fewer than slots, that are put before the newest one, which is put behind them first: it stands last then.
abbrev pub NewestStandsLast : Type 0
NewestStandsLast =
    (n slot : ℕ) (old between new : ℕ → Tombstone) (marks : List Tombstone) (newest : Tombstone)
    → 0 < length marks → length marks < n → StandsLast old n slot newest → AreOlder marks newest
    → IsPut n old (slot % n + (length marks - 1)) (newest ∷ []) between → IsPut n between (slot % n + (n - 1)) marks new
    → StandsLast new n (slot + length marks) newest

-- If the newest mark stands last, a log that is opened again goes on in the same slot, with the same newest mark.
abbrev pub GoesOnThere : Type 0
GoesOnThere =
    (n slot again : ℕ) (ring : ℕ → Tombstone) (newest mark : Tombstone)
    → StandsLast ring n slot newest → GoesOnAt ring n again mark → (again % n ≡ slot % n) × (mark ≡ newest)

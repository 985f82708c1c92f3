-- What contracts see of a log and of its page.
use Rattle.std.specs.Prelude.{◌≡◌, ℕ, List, [], length, Option, Some, None}
use Rattle.foyer_block_index.specs.declared.tombstone.Tombstone.{Tombstone}
use Rattle.foyer_block_tombstone.specs.Pages.{Place}

-- its engine, its partitions, the page that is loaded, and the page's bytes, which are none if no page is loaded; then the number of page
-- writes that its engine was asked for since it was opened, modulo 2^64
pub record PageView (E : Type 0) : Type 0 where
  pub engine : E
  pub places : List Place
  pub page : Option ℕ
  pub bytes : List ℕ
  pub writes : ℕ

-- the same of a log, the number that the next mark is put at, and the newest mark
pub record LogView (E : Type 0) : Type 0 where
  pub engine : E
  pub places : List Place
  pub page : Option ℕ
  pub slot : ℕ
  pub newest : Tombstone
  pub writes : ℕ

-- the bytes that are shown are those of the page that is loaded, or none; there is the memory of a page in either case
abbrev pub HasMemory : Option ℕ → List ℕ → Option (List ℕ) → Type 0
HasMemory None shown (Some spare) = (shown ≡ []) × (length spare ≡ 4096)
HasMemory (Some n) shown (Some spare) = (length shown ≡ 4096) × (spare ≡ [])
HasMemory page shown None = ⊥

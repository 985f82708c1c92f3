-- What a write does to a writer whose room may be known. An unknown room says nothing.
use Rattle.std.specs.Prelude.{◌≡◌, ℕ, ◌+◌, ◌-◌, ◌≤◌, ◌<◌, ◌^◌, min, List, ◌++◌, Option, None, Some, ⊤}
use Rattle.foyer_device_page.specs.Error.{IsWriterFault}
use Rattle.foyer_device_page.specs.declared.error.Error.{Error}
use Rattle.foyer_device_page.specs.declared.error.Error.TheVariants.{BufferSizeLimit}

-- n bytes are more than a known room
abbrev pub Lacks : Option ℕ → ℕ → Type 0
Lacks None n = ⊤
Lacks (Some room) n = room < n

-- a known room shrinks by n bytes at most
abbrev pub Takes : Option ℕ → Option ℕ → ℕ → Type 0
Takes None new n = ⊤
Takes (Some room) None n = ⊥
Takes (Some room) (Some left) n = room ≤ left + n

-- A writer of known room keeps what it holds, and may have added bytes.
abbrev pub Extends : Option ℕ → Option ℕ → Option (List ℕ) → Option (List ℕ) → Type 0
Extends None after old new = ⊤
Extends (Some room) None old new = ⊥
Extends (Some room) (Some left) None new = ⊤
Extends (Some room) (Some left) (Some xs) None = ⊥
Extends (Some room) (Some left) (Some xs) (Some ys) = (more : List ℕ) × (ys ≡ xs ++ more)

-- what a failed writer answers: if its room is known, only that the room is too small
abbrev pub IsFaultAt : Option ℕ → Error → Type 0
IsFaultAt None e = IsWriterFault e
IsFaultAt (Some room) e = e ≡ BufferSizeLimit

-- what a failed write of n bytes answers
abbrev pub IsWriteFault : Option ℕ → ℕ → Error → Type 0
IsWriteFault room n e = IsFaultAt room e × Lacks room n

-- n bytes more, as far as a count goes
abbrev pub counted_on : ℕ → ℕ → ℕ
counted_on old n = min (old + n) (2 ^ 64 - 1)

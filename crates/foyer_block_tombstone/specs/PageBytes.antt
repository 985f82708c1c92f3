-- What stands in the pages of the log.
use Rattle.std.specs.Prelude.{◌≡◌, ℕ, ◌+◌, ◌-◌, ◌*◌, ◌/◌, ◌%◌, ◌^◌, ◌<◌, ◌⊎◌, List, Option, Some, None}
use Rattle.foyer_block_index.specs.declared.tombstone.Tombstone.{Tombstone}
use Rattle.foyer_device_page.specs.declared.error.Error.{Error}
use Rattle.foyer_device_page.specs.declared.error.Error.TheVariants as error
use Rattle.foyer_io_engine.specs.Disk.{Disk, CanAccess, DidRead, DidWrite, IsOutside}
use Rattle.foyer_block_tombstone.specs.Mark.{mark_at}
use Rattle.foyer_block_tombstone.specs.Pages.{Place, PageAt, pages_of, locate, start_of}

-- the page is there, and can be read and written
pub record HasPage (d : Disk) (ps : List Place) (n : ℕ) : Type 0 where
  pub at : PageAt
  pub located : locate ps n ≡ Some at
  pub access : CanAccess d at.extent at.size at.offset 4096

-- the first n pages are there
abbrev pub HasPages : Disk → List Place → ℕ → Type 0
HasPages d ps n = (page : ℕ) → page < n → HasPage d ps page

-- there is a page, not too many, and all of them are there
abbrev pub CanHoldLog : Disk → List Place → Type 0
CanHoldLog d ps = (0 < pages_of ps) × (pages_of ps < 2 ^ 55) × HasPages d ps (pages_of ps)

-- these bytes stand in the page
pub record HoldsPage (d : Disk) (ps : List Place) (n : ℕ) (bytes : List ℕ) : Type 0 where
  pub at : PageAt
  pub located : locate ps n ≡ Some at
  pub read : DidRead d at.extent at.size at.offset bytes

-- the page became these bytes, and no other byte changed
pub record IsPageWritten (d : Disk) (ps : List Place) (n : ℕ) (bytes : List ℕ) (e : Disk) : Type 0 where
  pub at : PageAt
  pub located : locate ps n ≡ Some at
  pub write : DidWrite d at.extent at.size at.offset bytes e

-- a byte outside of a page
abbrev pub IsOutsidePage : Option PageAt → ℕ → ℕ → Type 0
IsOutsidePage None f o = Unit {0}
IsOutsidePage (Some at) f o = IsOutside at.extent.file (start_of at) 4096 f o

-- no byte outside of these pages changed
pub record ChangesPages (d : Disk) (ps : List Place) (IsChanged : ℕ → Type 0) (e : Disk) : Type 0 where
  pub len : (f : ℕ) → e.len f ≡ d.len f
  pub byte : (f o : ℕ) → ((n : ℕ) → IsChanged n → IsOutsidePage (locate ps n) f o) → e.byte f o ≡ d.byte f o

-- the mark in slot j of a page
abbrev pub mark_in : Disk → Option PageAt → ℕ → Tombstone
mark_in d None j = record { hash = 0; sequence = 0 }
mark_in d (Some at) j = mark_at (d.byte at.extent.file) (start_of at + 16 * j)

-- the mark in each slot of the log
unfoldable pub ring_on : Disk → List Place → ℕ → Tombstone
ring_on d ps i = mark_in d (locate ps (i / 256)) (i % 256)

-- why a call that makes several accesses was refused, given the counts of faults before and after the call
abbrev pub IsLogFault : ℕ → ℕ → Error → Type 0
IsLogFault old new e = (e ≡ error.OutOfRange) ⊎ ((e ≡ error.Io) × ((old < new) ⊎ (old ≡ 2 ^ 64 - 1)))

-- the same of a call that kept the engine for itself: some engine counted a fault more
abbrev pub IsOpenFault : {E : Type 0} → (E → ℕ) → E → Error → Type 0
IsOpenFault {E} faults engine e = (after : E) × IsLogFault (faults engine) (faults after) e

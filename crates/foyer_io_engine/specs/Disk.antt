-- The bytes of a device's files, and what a read or a write of them does.
use Rattle.std.specs.Prelude.{◌≡◌, ◌≢◌, ◌⊎◌, ◌+◌, ◌-◌, ◌^◌, ◌<◌, ◌≤◌, ℕ, List, Option, Some, None, Result, length, slice_index}
use Rattle.foyer_device_partition.specs.Extent.{Extent, place}
use Rattle.foyer_device_page.specs.declared.error.Error.{Error}
use Rattle.foyer_device_page.specs.declared.error.Error.TheVariants as error

-- how many bytes the file of each number has, none if there is no such file, and the byte at each place of it
pub record Disk : Type 0 where
  pub len : ℕ → ℕ
  pub byte : ℕ → ℕ → ℕ

-- n bytes from the place on lie in the file
abbrev pub IsWithin : Disk → ℕ → ℕ → ℕ → Type 0
IsWithin disk file at n = at + n ≤ disk.len file

-- these bytes stand in the file from the place on
abbrev pub Holds : Disk → ℕ → ℕ → List ℕ → Type 0
Holds disk file at bytes = (i : ℕ) → i < length bytes → slice_index bytes i ≡ disk.byte file (at + i)

-- a place outside of the n bytes from a place of a file on
abbrev pub IsOutside : ℕ → ℕ → ℕ → ℕ → ℕ → Type 0
IsOutside file at n f o = (f ≢ file) ⊎ (o < at) ⊎ (at + n ≤ o)

-- only the n bytes from the place on may have changed
abbrev pub ChangesOnly : Disk → ℕ → ℕ → ℕ → Disk → Type 0
ChangesOnly old file at n new =
    ((f : ℕ) → new.len f ≡ old.len f) × ((f o : ℕ) → IsOutside file at n f o → new.byte f o ≡ old.byte f o)

-- exactly the range became these bytes
abbrev pub IsWritten : Disk → ℕ → ℕ → List ℕ → Disk → Type 0
IsWritten old file at bytes new = Holds new file at bytes × ChangesOnly old file at (length bytes) new

-- n bytes from an offset of a partition of this size, which lies there, can be read and written
abbrev pub CanAccess : Disk → Extent → ℕ → ℕ → ℕ → Type 0
CanAccess disk extent size offset n = (offset + n ≤ size) × IsWithin disk extent.file (place extent offset) n

-- a read at the offset gave these bytes, which stand there
abbrev pub DidRead : Disk → Extent → ℕ → ℕ → List ℕ → Type 0
DidRead disk extent size offset bytes =
    CanAccess disk extent size offset (length bytes) × Holds disk extent.file (place extent offset) bytes

-- a write at the offset put these bytes there, and changed no others
abbrev pub DidWrite : Disk → Extent → ℕ → ℕ → List ℕ → Disk → Type 0
DidWrite old extent size offset bytes new =
    CanAccess old extent size offset (length bytes) × IsWritten old extent.file (place extent offset) bytes new

-- whatever stands in the range of a write that failed, no other byte changed
abbrev pub MayTear : Disk → Extent → ℕ → ℕ → Disk → Type 0
MayTear old extent offset n new = ChangesOnly old extent.file (place extent offset) n new

-- why a read or a write was refused, if so many faults had been counted before and after it
abbrev pub IsAccessFault : ℕ → ℕ → Error → Type 0
IsAccessFault old new e =
    ((e ≡ error.OutOfRange) × (new ≡ old)) ⊎ ((e ≡ error.Io) × ((old < new) ⊎ (old ≡ 2 ^ 64 - 1)))

-- of the disk that an engine shows, if it shows one
abbrev pub IfKnown : Option Disk → (Disk → Type 0) → Type 0
IfKnown disk P = (d : Disk) → disk ≡ Some d → P d

-- if the engine shows a disk before, it shows one after, and so the one goes to the other
abbrev pub Becomes : Option Disk → Option Disk → (Disk → Disk → Type 0) → Type 0
Becomes old new P = (d : Disk) → old ≡ Some d → (e : Disk) × (new ≡ Some e) × P d e

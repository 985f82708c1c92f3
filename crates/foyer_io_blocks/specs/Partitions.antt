-- Blocks that are partitions of a device: which bytes they have.
use Rattle.std.specs.Prelude.{◌≡◌, ℕ, ◌+◌, ◌≤◌, ◌⊎◌, List, Option, Some, None, slice_get, nat_lt, if◌then◌else◌}
use Rattle.foyer_device_partition.specs.Extent.{Extent}
use Rattle.foyer_device_page.specs.declared.error.Error.{Error}
use Rattle.foyer_device_page.specs.declared.error.Error.TheVariants as error
use Rattle.foyer_io_engine.specs.Disk.{Disk, CanAccess, IfKnown}

-- an engine that shows its disk
abbrev pub Shows : Option Disk → Type 0
Shows shown = (d : Disk) × (shown ≡ Some d)

module _ {P : Type 0} (bytes : P → ℕ) (extent : P → Extent) where
  -- the byte at an offset of a block's partition; there is none behind it, and none of an engine that shows no disk
  abbrev pub byte_in : Option Disk → Option P → ℕ → ℕ
  byte_in (Some d) (Some p) o = if nat_lt o (bytes p) then d.byte (extent p).file ((extent p).start + o) else 0
  byte_in shown p o = 0

  -- each partition has as many bytes as its size says
  abbrev pub AreWhole : List P → Type 0
  AreWhole blocks = (b : ℕ) (p : P) → slice_get blocks b ≡ Some p → (extent p).len ≡ bytes p

-- so many bytes from an offset on lie in the partition, if there is one
abbrev pub lies_in : {P : Type 0} → (P → ℕ) → Option P → ℕ → ℕ → Type 0
lies_in bytes None o n = ⊥
lies_in bytes (Some p) o n = o + n ≤ bytes p

module _ {P : Type 0} (bytes : P → ℕ) (extent : P → Extent) (reaches : Extent → ℕ → ℕ → ℕ → Type 0) where
  -- and these are surely there for an engine that reaches such ranges of partitions
  abbrev pub is_reached : Option P → ℕ → ℕ → Type 0
  is_reached None o n = ⊥
  is_reached (Some p) o n = (o + n ≤ bytes p) × reaches (extent p) (bytes p) o n

module _ {P : Type 0} (bytes : P → ℕ) (extent : P → Extent) where
  -- a range that the partition doesn't have, or that isn't there on the disk that the engine shows
  abbrev pub is_missing : Option Disk → Option P → ℕ → ℕ → Type 0
  is_missing shown None o n = Unit {0}
  is_missing shown (Some p) o n = IfKnown shown (λ d. ¬ CanAccess d (extent p) (bytes p) o n)

  -- why an access of a range may fail: the device did, which was asked for no other, or the range isn't there
  abbrev pub may_fail : Option Disk → Option P → ℕ → ℕ → Error → Type 0
  may_fail shown p o n e = ((e ≡ error.Io) × lies_in bytes p o n) ⊎ ((e ≡ error.OutOfRange) × is_missing shown p o n)

-- The pages of the log, which run through its partitions in order.
use Rattle.std.specs.Prelude.{ℕ, ◌+◌, ◌-◌, ◌*◌, ◌/◌, ◌≤◌, nat_lt, if◌then◌else◌, List, [], ◌∷◌, map, Option, Some, None}
use Rattle.foyer_device_partition.specs.Extent.{Extent, place, AreDisjoint}

-- a partition: its extent, and its bytes
pub record Place : Type 0 where
  pub extent : Extent
  pub size : ℕ

abbrev pub extent_of : Place → Extent
extent_of p = p.extent

-- those of a kind of partition
abbrev pub places : {P : Type 0} → (P → Extent) → (P → ℕ) → List P → List Place
places extent size ps = map (λ p. record { extent = extent p; size = size p }) ps

-- how many whole pages the partitions have
abbrev pub pages_of : List Place → ℕ
pages_of [] = 0
pages_of (p ∷ ps) = p.size / 4096 + pages_of ps

-- The pages of the log of a device of so many bytes: a slot for each of the device's pages, rounded up.
abbrev pub log_pages : ℕ → ℕ
log_pages capacity = (capacity / 4096 + 255) / 256

-- an offset of a partition
pub record PageAt : Type 0 where
  pub extent : Extent
  pub size : ℕ
  pub offset : ℕ

-- the place of the page of a number, if that page is there
abbrev pub locate : List Place → ℕ → Option PageAt
locate [] n = None
locate (p ∷ ps) n =
    if nat_lt n (p.size / 4096) then Some (record { extent = p.extent; size = p.size; offset = 4096 * n })
    else locate ps (n - p.size / 4096)

-- the byte of its file at which it begins
abbrev pub start_of : PageAt → ℕ
start_of at = place at.extent at.offset

-- each has all its bytes in its extent
abbrev pub AreWhole : List Place → Type 0
AreWhole [] = Unit {0}
AreWhole (p ∷ ps) = (p.size ≤ p.extent.len) × AreWhole ps

-- no byte of the one is a byte of another, as a device has its partitions
pub record AreApart (ps : List Place) : Type 0 where
  pub whole : AreWhole ps
  pub disjoint : AreDisjoint (map extent_of ps)

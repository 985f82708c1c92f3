-- Several devices as one.
use Rattle.std.specs.Prelude.{◌≡◌, ℕ, ◌+◌, ◌≤◌, List, Option, Some, None, map, take, drop, length, slice_get, sum_by}
use Rattle.foyer_device_partition.specs.Extent.{Extent, AreDisjoint, LieInFiles}
use Rattle.foyer_device_throttle.specs.declared.throttle.Throttle.{Throttle}

-- what contracts see of a combined device: its devices, which of them is asked, the partitions, and how many files there are
pub record Combined (D : Type 0) : Type 0 where
  pub devices : List D
  pub present : ℕ
  pub room : ℕ
  pub sizes : List ℕ
  pub extents : List Extent
  pub files : ℕ
  pub limits : Throttle
  pub since : ℕ

-- the same extent, if the files of the devices before have so many numbers
abbrev pub shift : ℕ → Extent → Extent
shift base e = record { file = base + e.file; start = e.start; len = e.len }

-- the partitions from place n on are those that the present device was given after its first few; all lie in its files and those before
pub record Continues {D : Type 0} (count : D → ℕ) (extents : D → List Extent) (base n first : ℕ) (all : List Extent) (d : D) : Type 0 where
  pub given : first ≤ length (extents d)
  pub same : drop n all ≡ map (shift base) (drop first (extents d))
  pub within : LieInFiles (base + count d) all

-- the partitions of a combined device: those before place n lie in the files of the devices before the present one
pub record Combines {D : Type 0} (count : D → ℕ) (extents : D → List Extent) (devices : List D) (present base n first files : ℕ) (all : List Extent) : Type 0 where
  pub apart : AreDisjoint all
  pub enough : n ≤ length all
  pub before : LieInFiles base (take n all)
  pub within : LieInFiles files all
  pub here : (d : D) → slice_get devices present ≡ Some d → Continues count extents base n first all d
  pub order : present ≤ length devices
  pub base_sum : base ≡ sum_by count (take present devices)
  pub files_sum : files ≡ sum_by count devices

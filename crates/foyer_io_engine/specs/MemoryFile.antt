-- What contracts see of files in memory.
use Rattle.std.specs.Prelude.{ℕ, List, Option, Some, None, slice_get, slice_index}
use Rattle.foyer_io_engine.specs.Disk.{Disk}

-- how many bytes a file has, and those up to the last one that was written
pub record Contents : Type 0 where
  pub len : ℕ
  pub bytes : List ℕ

abbrev pub len_of : Option Contents → ℕ
len_of (Some c) = c.len
len_of None = 0

abbrev pub byte_of : Option Contents → ℕ → ℕ
byte_of (Some c) o = slice_index c.bytes o
byte_of None o = 0

-- what was never written is zeros
abbrev pub disk_of : List Contents → Disk
disk_of files = record { len = λ f. len_of (slice_get files f); byte = λ f o. byte_of (slice_get files f) o }

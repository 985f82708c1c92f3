-- The line that a directory's lock has, and what is made of the bytes that are found there.
use Rattle.std.specs.Prelude.{ℕ, ◌+◌, ◌*◌, ◌/◌, ◌^◌, ◌<◌, Bool, true, false, Option, Some, None, List, ◌++◌, codes, decimal, if◌then◌else◌, nat_eq, bytes_eq}
use Rattle.std.specs.List.{starts_with}
use Rattle.foyer_directory.specs.declared.shape.DirectoryShape.{DirectoryShape}
use Rattle.foyer_directory.specs.declared.shape.Recorded.{Recorded}
use Rattle.foyer_directory.specs.declared.shape.Recorded.TheVariants as recorded
use Rattle.foyer_directory.specs.declared.shape.LogFound.{LogFound}
use Rattle.foyer_directory.specs.declared.shape.LogFound.TheVariants as found

abbrev pub log_digit : Bool → List ℕ
log_digit true = codes "1"
log_digit false = codes "0"

abbrev pub shape_line : DirectoryShape → List ℕ
shape_line s =
    codes "block=" ++ (decimal s.block_size ++ (codes " cores=" ++ (decimal s.cores ++ (codes " log=" ++ (log_digit s.has_log ++ codes "\n")))))

-- a size, rounded up to whole pages of 4096
abbrev pub whole_pages : ℕ → ℕ
whole_pages n = (n + 4095) / 4096 * 4096

-- whether deletes are logged: as is wanted, or as the directory says; a new one gets a log
abbrev pub wanted_log : Option Bool → LogFound → Bool
wanted_log (Some has_log) found = has_log
wanted_log None found.Logged = true
wanted_log None found.New = true
wanted_log None found.Unlogged = false

-- its numbers are those of a program
abbrev pub IsShape : DirectoryShape → Type 0
IsShape s = (s.block_size < 2 ^ 64) × (s.cores < 2 ^ 64)

-- a line that isn't written to its end is begun, as is none
abbrev pub recorded_as : List ℕ → List ℕ → Recorded
recorded_as found line =
    if bytes_eq found line then recorded.Same else (if starts_with nat_eq line found then recorded.Begun else recorded.Other)

-- The ledgers of four cores.
use Rattle.std.specs.Prelude.{◌≡◌, ℕ, ◌+◌, ◌*◌, ◌/◌, ◌%◌, ◌==◌, if◌then◌else◌}
use Rattle.foyer_core_tally.specs.Ledgers.{AreOf, names_in}
use Rattle.foyer_core_tally.specs.declared.blanks.Blanks.{Blanks}
use Rattle.foyer_storage_cores.specs.declared.kinds.CoreBlanks.{CoreBlanks}

-- each of a core's ledgers has so many parts
abbrev pub HaveParts : ℕ → Blanks → Type 0
HaveParts parts b = (b.queued.parts ≡ parts) × (b.dropped.parts ≡ parts) × (b.deleted.parts ≡ parts) × (b.read.parts ≡ parts)
    × (b.look_up_miss.parts ≡ parts) × (b.entry.parts ≡ parts) × (b.end_miss.parts ≡ parts) × (b.other.parts ≡ parts)

-- of the names eight belong to each core, in the order of the cores
pub record AreOfCores (name_of : ℕ → ℕ) (all : ℕ) (blanks : CoreBlanks) : Type 0 where
  pub first : AreOf (λ kind. name_of (8 * 0 + kind)) all blanks.first
  pub second : AreOf (λ kind. name_of (8 * 1 + kind)) all blanks.second
  pub third : AreOf (λ kind. name_of (8 * 2 + kind)) all blanks.third
  pub fourth : AreOf (λ kind. name_of (8 * 3 + kind)) all blanks.fourth

-- the names of these
abbrev pub names_in_cores : CoreBlanks → ℕ → ℕ
names_in_cores blanks n =
    if n / 8 == 0 then names_in blanks.first (n % 8)
    else (if n / 8 == 1 then names_in blanks.second (n % 8)
    else (if n / 8 == 2 then names_in blanks.third (n % 8)
    else names_in blanks.fourth (n % 8)))

-- The keys that a store of the program is asked by, and a core's part of a limit.
use Rattle.std.specs.Prelude.{ℕ, List, ◌++◌, ◌==◌, ◌/◌, max, if◌then◌else◌}
use Rattle.std.specs.Int.{w64, to_le_bytes}

-- a key behind the eight bytes of a seed, the lowest first, unless that is 0
abbrev pub seeded_key : (seed : ℕ) → List ℕ → List ℕ
seeded_key seed key = if seed == 0 then key else (to_le_bytes w64 seed ++ key)

-- a core's part of a limit in a second, at least 1; if the limit is 0, which means no limit, the part is 0
abbrev pub core_part : (limit cores : ℕ) → ℕ
core_part limit cores = if limit == 0 then 0 else max (limit / max cores 1) 1

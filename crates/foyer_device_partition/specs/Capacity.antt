-- The capacity of a device that is built.
use Rattle.std.specs.Prelude.{ℕ, ◌*◌, ◌/◌, Option, Some, None, nat_le, if◌then◌else◌, min, ◌^◌, ◌-◌}

-- whole pages of what was asked for
abbrev pub rounded : Option ℕ → Option ℕ
rounded (Some n) = Some (n / 4096 * 4096)
rounded None = None

-- a part of a device of so many bytes: all of it, or what was asked for, if it has that
abbrev pub part : Option ℕ → ℕ → Option ℕ
part (Some n) room = if nat_le n room then Some n else None
part None room = Some room

-- what devices of so many bytes and so many files have together: the bytes, saturating, if the files can be
-- numbered
abbrev pub combined_capacity : ℕ → ℕ → Option ℕ
combined_capacity room files = if nat_le files (2 ^ 32) then Some (min room (2 ^ 64 - 1)) else None

-- When a wait at a bell ends.
use Rattle.std.specs.Prelude.{Bool, ℕ, ◌==◌, ◌||◌, not}
use Rattle.foyer_storage_engine.specs.declared.bell.Moves.{Moves}

-- the count is another than the one that was seen, or the bell is closed
abbrev pub is_past : Moves → ℕ → Bool
is_past moves seen = not (moves.count == seen) || moves.is_closed

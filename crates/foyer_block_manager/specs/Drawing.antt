-- The block that the generator chooses if no picker picks one.
use Rattle.std.specs.Prelude.{◌≡◌, ℕ, List, length, Some, slice_get}
use Rattle.rand_core.specs.Stream.{Stream}
use Rattle.rand.specs.Uniform.{usize_single}

-- of these ids the one at the place that is drawn of the generator's stream, of which the rest is left
abbrev pub IsDrawn : List ℕ → Stream → ℕ → Stream → Type 0
IsDrawn ids stream id rest =
    (slice_get ids (usize_single 0 (length ids) stream).0 ≡ Some id) × (rest ≡ (usize_single 0 (length ids) stream).1)

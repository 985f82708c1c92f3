-- Flushers at a destroy.
use Rattle.std.specs.Prelude.{Bool, true, ◌&&◌, List, [], ◌∷◌, None}
use Rattle.foyer_format_buffer.specs.Position.{fresh_context}
use Rattle.foyer_core_flusher.specs.declared.flusher.Flusher.{Flusher}
use Rattle.foyer_core_flusher.specs.Seen.{Seen, is_still}

-- nothing is queued, received or in a batch at any
abbrev pub are_still : {K V P A : Type 0} → List (Flusher K V P A) → Bool
are_still [] = true
are_still (φ ∷ φs) = is_still φ && are_still φs

-- without a block, at the start of a fresh one
abbrev pub cleared : {K V P A : Type 0} → Seen K V P A → Seen K V P A
cleared φ = record φ { own = None; context = fresh_context φ.context.sizes }

-- The flushers, when one of them only made room.
use Rattle.std.proofs.Common.{◌≡◌, ℕ, List, map, slice_set, slice_index_or, ◌∙◌, ap}
use Rattle.std.proofs.Math.Seq.{map-set_same}
use Rattle.foyer_core_flusher.specs.declared.flusher.Flusher.{Flusher}
use Rattle.foyer_core_flusher.specs.Seen.{seen}

-- a flusher in the place of one that has the same
pub same_seen : {K V P A : Type 0} (φs : List (Flusher K V P A)) (i : ℕ) (φ ψ : Flusher K V P A)
    → φ ≡ slice_index_or φs i φ → seen ψ ≡ seen φ → map seen (slice_set φs i ψ) ≡ map seen φs
same_seen φs i φ ψ is same = map-set_same seen φs i ψ φ (same ∙ ap seen is)

-- Why a batch fails though its last write succeeded.
use Rattle.std.specs.Prelude.{IsSomeAnd}
use Rattle.foyer_block_index.specs.Index.{IndexState, HasRoomFor}
use Rattle.foyer_block_index.specs.Committing.{PiecesHeld}
use Rattle.foyer_core_flusher.specs.declared.flusher.Flusher.{Flusher}

-- Of the records that are being written one is of a piece whose hash the index doesn't hold, and the index lacks room for them,
-- so that it has to grow.
abbrev pub MustGrowFor : {K V P A : Type 0} → IndexState → Flusher K V P A → Type 0
MustGrowFor index φ =
    IsSomeAnd φ.batch (λ batch. IsSomeAnd batch.writing (λ writing.
    (PiecesHeld index.slots writing.records.items writing.sources.items → ⊥) × (HasRoomFor index.rooms writing.records.items → ⊥)))

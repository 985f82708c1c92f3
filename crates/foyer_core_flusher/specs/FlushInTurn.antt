-- When the steps of a flush are in turn.
use Rattle.std.specs.Prelude.{◌≡◌, ◌≢◌, ◌⊎◌, Bool, false, [], None, IsSome, IsSomeAnd}
use Rattle.foyer_core_flusher.specs.declared.flusher.Flusher.{Flusher}

-- a batch may begin: none is there, and something was received since the one before
abbrev pub MayBegin : {K V P A : Type 0} → Flusher K V P A → Type 0
MayBegin φ =
    (φ.batch ≡ None) × ((φ.filled.entries ≢ []) ⊎ ((φ.marks.items ≢ []) ⊎ (φ.waits.items ≢ [])))

-- the next block of the batch is to be issued
abbrev pub HasBlock : {K V P A : Type 0} → Flusher K V P A → Type 0
HasBlock φ = IsSomeAnd φ.batch (λ batch. (batch.writing ≡ None) × (batch.blocks.items ≢ []))

-- an issued write is to be reported
abbrev pub IsWriting : {K V P A : Type 0} → Flusher K V P A → Type 0
IsWriting φ = IsSomeAnd φ.batch (λ batch. IsSome batch.writing)

-- the log hasn't answered for the batch
abbrev pub IsUnlogged : {K V P A : Type 0} → Flusher K V P A → Type 0
IsUnlogged φ = IsSomeAnd φ.batch (λ batch. batch.logged ≡ None)

-- the batch has nothing left to write, and the log has answered if there is one
abbrev pub IsWritten : {K V P A : Type 0} → (has_log : Bool) → Flusher K V P A → Type 0
IsWritten has_log φ =
    IsSomeAnd φ.batch (λ batch. (batch.writing ≡ None) × (batch.blocks.items ≡ []) × ((has_log ≡ false) ⊎ IsSome batch.logged))

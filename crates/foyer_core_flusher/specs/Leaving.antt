-- The block that a flusher leaves, of which the pickers are shown that it is evictable then.
use Rattle.std.specs.Prelude.{ℕ, if◌then◌else◌, Option, Some, None}
use Rattle.foyer_core_flusher.specs.declared.batch.Wrote.{Wrote}
use Rattle.foyer_core_flusher.specs.declared.batch.Wrote.TheVariants as wrote
use Rattle.foyer_core_flusher.specs.declared.batch.Batch.{Batch}

-- its own, as the next block of its batch is issued, unless the batch goes on in it
abbrev pub left_by : {K V P A : Type 0} → Option (Batch K V P A) → Option ℕ → Option ℕ
left_by None own = None
left_by (Some batch) own = if batch.continues_own_block then None else own

-- the flusher's own block, if the batch fails; else none
abbrev pub left_after : Wrote → Option ℕ → Option ℕ
left_after wrote.Failed own = own
left_after other own = None

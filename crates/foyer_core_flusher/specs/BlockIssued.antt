-- The model's step when the next block of a batch is issued.
use Rattle.std.specs.Prelude.{◌≡◌, ℕ, ◌^◌, ◌<◌, ◌≤◌, false, List, ◌∷◌, map, Option, Some}
use Rattle.foyer_core_model.specs.Position.{BlockLayout, records_in}
use Rattle.foyer_core_model.specs.Flush.{writing_of}
use Rattle.foyer_core_model.specs.Layout.{writes_in}
use Rattle.foyer_core_model.specs.Rules.{Rules}
use Rattle.foyer_core_model.specs.State as model_state
use Rattle.foyer_core_layout.specs.Splits.{AreRules}
use Rattle.foyer_core_blocks.specs.Content.{Content, Meaning}
use Rattle.foyer_core_blocks.specs.Settings.{Settings}
use Rattle.foyer_core_flusher.specs.Flushing.{IsBatchAs}
use Rattle.foyer_core_flusher.specs.Issuing.{write_of}
use Rattle.foyer_core_flusher.specs.Issued.{IssuesFirst}
use Rattle.foyer_core_flusher.specs.declared.batch.Batch.{Batch}
use Rattle.foyer_core_flusher.specs.declared.batch.Write.{Write}

-- what is issued is what the model writes of the batch's next block, which leaves the batch and is being written
pub record IsIssued {K V P A : Type 0} (m : Meaning K V P) (rules : Rules Content) (s : Settings) (b : ℕ) (written : List (Write A)) (batch : Batch K V P A)
    (old : model_state.Batch Content) : Type 0 where
  pub spread : BlockLayout Content
  pub rest : List (BlockLayout Content)
  pub first : old.blocks ≡ spread ∷ rest
  pub writes : map write_of written ≡ writes_in rules spread.parts
  pub it : IsBatchAs m s (Some b) batch
      (record old { blocks = rest; continues_own_block = false; writing = writing_of b (writes_in rules spread.parts) (records_in spread.parts) })

abbrev pub IssuesAsModel : (K V P A : Type 0) → Type 0
IssuesAsModel K V P A =
    (m : Meaning K V P) (rules : Rules Content) (s : Settings) (own : Option ℕ) (block : ℕ) (old new : Batch K V P A) (issued : List (Write A))
    (it : model_state.Batch Content)
    → AreRules rules → s.block_size ≤ 2 ^ 32 → block < s.blocks → IsBatchAs m s own old it → IssuesFirst block rules.block_size old new issued
    → IsIssued m rules s block issued new it

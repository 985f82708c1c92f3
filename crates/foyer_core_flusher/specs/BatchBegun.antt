-- The model's step when a batch begins.
use Rattle.std.specs.Prelude.{◌≡◌, ℕ, List, map, length}
use Rattle.foyer_block_index.specs.declared.tombstone.Tombstone.{Tombstone}
use Rattle.foyer_core_model.specs.Position.{BlockLayout}
use Rattle.foyer_core_model.specs.Flush.{Begins}
use Rattle.foyer_core_model.specs.Receive.{turned}
use Rattle.foyer_core_model.specs.Reply as model_reply
use Rattle.foyer_core_model.specs.Rules.{Rules, sizes_of}
use Rattle.foyer_core_model.specs.State as model_state
use Rattle.foyer_core_layout.specs.Splits.{IsLaidOut, AreRules}
use Rattle.foyer_core_blocks.specs.Content.{Content, Meaning}
use Rattle.foyer_core_blocks.specs.Settings.{Settings}
use Rattle.foyer_core_blocks.specs.Addresses.{mark_of}
use Rattle.foyer_core_blocks.specs.Standing.{KeepsItsBlocks}
use Rattle.foyer_core_flusher.specs.Begun.{IsBegun}
use Rattle.foyer_core_flusher.specs.Flushing.{IsFlusherAs}
use Rattle.foyer_core_blocks.specs.Sizes.{sizes_in}
use Rattle.foyer_core_flusher.specs.Seen.{Seen, seen}
use Rattle.foyer_core_flusher.specs.declared.flusher.Flusher.{Flusher}

-- the model begins this flusher's batch, laid out into so many blocks, with these marks, and leaves its queue
pub record HasBegun {K V P A : Type 0} (m : Meaning K V P) (rules : Rules Content) (s : Settings) (st : model_state.State Content) (f : ℕ)
    (φ : Seen K V P A) (blocks : ℕ) (marks : List Tombstone) : Type 0 where
  pub layouts : List (BlockLayout Content)
  pub count : length layouts ≡ blocks
  pub after : model_state.Flusher Content
  pub begins : Begins rules (IsLaidOut (sizes_in s)) st f (model_reply.Began layouts (map mark_of marks)) (turned rules st f after)
  pub stands : IsFlusherAs m s φ after
  pub queue : after.queue ≡ (st.flushers f).queue
  pub keeps : KeepsItsBlocks (st.flushers f) after

abbrev pub BeginsAsModel : (K V P A : Type 0) → Type 0
BeginsAsModel K V P A =
    (m : Meaning K V P) (rules : Rules Content) (s : Settings) (st : model_state.State Content) (f : ℕ) (old new : Flusher K V P A)
    (issued : List Tombstone)
    → AreRules rules → sizes_of rules ≡ sizes_in s → IsFlusherAs m s (seen old) (st.flushers f) → (is : IsBegun old new issued)
    → HasBegun m rules s st f (seen new) (length (is.batch).blocks.items) issued

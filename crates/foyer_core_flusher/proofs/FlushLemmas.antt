-- A flusher's batch, and the block that is being written, and what the model has for them.
use Rattle.std.proofs.Common.{◌≡◌, ℕ, List, [], ◌∷◌, map, Option, Some, None, refl, subst}
use Rattle.foyer_format_buffer.specs.Layout.{parts_of}
use Rattle.foyer_format_buffer.specs.declared.split.Block.{Block}
use Rattle.foyer_core_model.specs.Position.{BlockLayout}
use Rattle.foyer_core_model.specs.State as model_state
use Rattle.foyer_core_layout.specs.Bridge.{AreBlocksAs}
use Rattle.foyer_core_blocks.specs.Content.{Content, Meaning}
use Rattle.foyer_core_blocks.specs.Settings.{Settings}
use Rattle.foyer_core_flusher.specs.Flushing.{IsWritingAs, AreWriting, IsBatchAs, AreBatched}
use Rattle.foyer_core_flusher.specs.declared.batch.Batch.{Batch}
use Rattle.foyer_core_flusher.specs.declared.batch.Writing.{Writing}

module _ {A : Type 0} where
  -- the model has a block to be issued exactly if the code has one
  pub some_laid : (xs : List (Block A)) (layouts : List (BlockLayout Content)) → AreBlocksAs (map parts_of xs) layouts → (xs ≡ [] → ⊥)
      → (first : BlockLayout Content) × (rest : List (BlockLayout Content)) × (layouts ≡ first ∷ rest)
  some_laid [] layouts are some = absurd (some refl)
  some_laid (x ∷ xs) [] are some = absurd are
  some_laid (x ∷ xs) (first ∷ rest) are some = (first, rest, refl)

  pub none_laid : (xs : List (Block A)) (layouts : List (BlockLayout Content)) → AreBlocksAs (map parts_of xs) layouts → xs ≡ [] → layouts ≡ []
  none_laid [] [] are e = refl
  none_laid [] (first ∷ rest) are e = absurd are
  none_laid (x ∷ xs) layouts are e = absurd (cc)

module _ {K V P A : Type 0} (m : Meaning K V P) (s : Settings) where
  -- the model's flusher has a batch if the flusher has one
  pub batched : (own : Option ℕ) (o : Option (Batch K V P A)) (p : Option (model_state.Batch Content)) → AreBatched m s own o p
      → (batch : Batch K V P A) → o ≡ Some batch → (it : model_state.Batch Content) × (p ≡ Some it) × IsBatchAs m s own batch it
  batched own None None are batch e = absurd (cc)
  batched own None (Some it) are batch e = absurd are
  batched own (Some x) None are batch e = absurd are
  batched own (Some x) (Some it) are batch e =
      let same : x ≡ batch = cc in
      (it, refl, subst (λ z. IsBatchAs m s own z it) same are)

  pub written : (o : Option (Writing A)) (p : Option (model_state.Writing Content)) → AreWriting s o p
      → (w : Writing A) → o ≡ Some w → (it : model_state.Writing Content) × (p ≡ Some it) × IsWritingAs s w it
  written None None are w e = absurd (cc)
  written None (Some it) are w e = absurd are
  written (Some x) None are w e = absurd are
  written (Some x) (Some it) are w e =
      let same : x ≡ w = cc in
      (it, refl, subst (λ z. IsWritingAs s z it) same are)

  pub none_written : (o : Option (Writing A)) (p : Option (model_state.Writing Content)) → AreWriting s o p → o ≡ None → p ≡ None
  none_written None None are e = refl
  none_written None (Some it) are e = absurd are
  none_written (Some w) p are e = absurd (cc)

-- A batch may begin exactly if the model's may.
use Rattle.std.proofs.Common.{◌≡◌, List, [], ◌∷◌, map, Option, Some, None, inl, inr, refl, sym, ap, ◌∙◌}
use Rattle.foyer_core_model.specs.Receive.{HasReceived}
use Rattle.foyer_core_model.specs.State as model_state
use Rattle.foyer_core_layout.specs.Bridge.{kept_of}
use Rattle.foyer_core_blocks.specs.Content.{Content, Meaning}
use Rattle.foyer_core_blocks.specs.Settings.{Settings}
use Rattle.foyer_core_blocks.specs.Addresses.{mark_of}
use Rattle.foyer_core_flusher.specs.FlushInTurn.{MayBegin}
use Rattle.foyer_core_flusher.specs.Flushing.{AreBatched, IsFlusherAs}
use Rattle.foyer_core_flusher.specs.Seen.{seen}
use Rattle.foyer_core_flusher.specs.declared.batch.Batch.{Batch}
use Rattle.foyer_core_flusher.specs.declared.flusher.Flusher.{Flusher}

-- a list is empty if its map is
pub no_map : {X Y : Type 0} (f : X → Y) (xs : List X) → map f xs ≡ [] → xs ≡ []
no_map f [] is = refl
no_map f (x ∷ xs) is = absurd (let e : f x ∷ map f xs ≡ [] = is in cc)

module _ {K V P A : Type 0} (m : Meaning K V P) (s : Settings) (φ : Flusher K V P A) (it : model_state.Flusher Content) (stands : IsFlusherAs m s (seen φ) it) where
  pub may_begin : MayBegin φ → (it.batch ≡ None) × HasReceived it
  may_begin may = (
    none φ.batch it.batch may.0 stands.batch,
    elim may.1 [
      | inl some ↦ inl (λ is. some (sym stands.buffer ∙ ap (map kept_of) is))
      | inr rest ↦ elim rest [
        | inl some ↦ inr (inl (λ is. some (no_map mark_of φ.marks.items (sym stands.marks ∙ is))))
        | inr some ↦ inr (inr (λ is. some (sym stands.waits ∙ is)))
      ]
    ],
  )
    where
      none : (batch : Option (Batch K V P A)) (b : Option (model_state.Batch Content)) → batch ≡ None → AreBatched m s φ.own batch b → b ≡ None
      none None None is are = refl
      none None (Some b) is are = absurd are
      none (Some x) b is are = absurd (let e : Some x ≡ None = is in cc)

  pub may_begin_back : (it.batch ≡ None) × HasReceived it → MayBegin φ
  may_begin_back may = (
    none φ.batch it.batch may.0 stands.batch,
    elim may.1 [
      | inl some ↦ inl (λ is. some (no_map kept_of it.buffer (stands.buffer ∙ is)))
      | inr rest ↦ elim rest [
        | inl some ↦ inr (inl (λ is. some (stands.marks ∙ ap (map mark_of) is)))
        | inr some ↦ inr (inr (λ is. some (stands.waits ∙ is)))
      ]
    ],
  )
    where
      none : (batch : Option (Batch K V P A)) (b : Option (model_state.Batch Content)) → b ≡ None → AreBatched m s φ.own batch b → batch ≡ None
      none None b is are = refl
      none (Some x) None is are = absurd are
      none (Some x) (Some b) is are = absurd (let e : Some b ≡ None = is in cc)

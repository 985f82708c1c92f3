-- Flushers that are idle: in one state of the model that a core stands for, and so in each. Nothing else of a flush's
-- proof looks into the core's own flusher.
use Rattle.std.proofs.Common.{◌≡◌, ℕ, zero, suc, ◌<◌, true, List, [], ◌∷◌, length, map, slice_get, slice_index_or, Option, Some, None, inl, inr, refl, sym, ap, ◌∙◌, arith}
use Rattle.std.proofs.lemmas.List.{length-map}
use Rattle.std.proofs.lemmas.Option.{slice_get_cases}
use Rattle.foyer_core_model.specs.Destroy.{IsIdle}
use Rattle.foyer_core_model.specs.State.{Flusher, State}
use Rattle.foyer_core_model.specs.State as model_state
use Rattle.foyer_core_laws.specs.Content.{Content, Meaning}
use Rattle.foyer_core_laws.specs.Settings.{Settings}
use Rattle.foyer_core_layout.specs.Bridge.{kept_of}
use Rattle.foyer_core_steps.proofs.BeginTurns.{no_map}
use Rattle.foyer_core_steps.specs.Flushing.{AreBatched, IsFlusherAs}
use Rattle.foyer_core_steps.specs.Seen.{Seen, is_still, seen}
use Rattle.foyer_core_steps.specs.Batch.{Batch}
use Rattle.foyer_core_steps.specs.Flusher.{Flusher as CoreFlusher}
use Rattle.foyer_core_steps.specs.StateOf.{IsStateOf}
use Rattle.foyer_core_steps.specs.declared.state.Core.{Core}
use Rattle.foyer_core_steps.proofs.StillLemmas.{idle_of}
use Rattle.foyer_core_run.specs.AtRest.{IsFlusherIdle}

module _ {K V P A : Type 0} (m : Meaning K V P) where
  no_batch : (s s' : Settings) (own : Option ℕ) (batch : Option (Batch K V P A)) (x y : Option (model_state.Batch Content))
      → AreBatched m s own batch x → AreBatched m s' own batch y → x ≡ None → y ≡ None
  no_batch s s' own None x None one two e = refl
  no_batch s s' own None x (Some b) one two e = absurd two
  no_batch s s' own (Some batch) None y one two e = absurd one
  no_batch s s' own (Some batch) (Some b) y one two e = absurd (let f : Some b ≡ None = e in cc)

  idle_as : (s s' : Settings) (φ : Seen K V P A) (x y : Flusher Content) → IsFlusherAs m s φ x → IsFlusherAs m s' φ y → IsIdle x → IsIdle y
  idle_as s s' φ x y one two idle = (
    two.queue ∙ sym one.queue ∙ idle.0,
    no_map kept_of y.buffer (two.buffer ∙ sym one.buffer ∙ ap (map kept_of) idle.1),
    two.marks ∙ sym one.marks ∙ idle.2,
    two.waits ∙ sym one.waits ∙ idle.3,
    no_batch s s' φ.own φ.batch x.batch y.batch one.batch two.batch idle.4,
  )

  -- what is idle in one state that a core stands for is idle in each
  pub idle_in_each : (core : Core K V P A) (s s' : Settings) (it it' : State Content) (f : ℕ) → IsStateOf m s core it → IsStateOf m s' core it' → IsIdle (it.flushers f) → IsIdle (it'.flushers f)
  idle_in_each core s s' it it' f one two idle =
      let same : s.flushers ≡ s'.flushers = ap (λ k. k.flushers) (sym one.sizes ∙ two.sizes) in
      let count : length (map seen core.flushers.items) ≡ s.flushers = (one.flushers).count in
      elim ((slice_get_cases (map seen core.flushers.items) f).1) [
        | inl (φ, lt, there, read) ↦ idle_as s s' φ (it.flushers f) (it'.flushers f) ((one.flushers).all f φ there) ((two.flushers).all f φ there) idle
        | inr (le, none) ↦ (two.flushers).beyond f (omega (arith, le))
      ]

mapped : {X Y : Type 0} (to : X → Y) (xs : List X) (f : ℕ) (x : X) → slice_get xs f ≡ Some x → slice_get (map to xs) f ≡ Some (to x)
mapped to [] f x e = absurd (let n : None ≡ Some x = e in cc)
mapped to (y ∷ ys) zero x e = let n : Some y ≡ Some x = e in let same : y ≡ x = cc in ap (λ k. Some (to k)) same
mapped to (y ∷ ys) (suc f) x e = mapped to ys f x e

module _ {K V P A : Type 0} (m : Meaning K V P) where
  -- a flusher that has nothing, or isn't there
  pub still_idle : (core : Core K V P A) (f : ℕ)
      → ((found : CoreFlusher K V P A) → f < length core.flushers.items → found ≡ slice_index_or core.flushers.items f found → is_still found ≡ true) → IsFlusherIdle m f core
  still_idle core f still = λ s it at.
      let count : length (map seen core.flushers.items) ≡ s.flushers = (at.flushers).count in
      elim ((slice_get_cases core.flushers.items f).1) [
        | inl (φ, lt, there, read) ↦ idle_of m s φ (it.flushers f) (still φ lt (sym read)) ((at.flushers).all f (seen φ) (mapped seen core.flushers.items f φ there))
        | inr (le, none) ↦ (at.flushers).beyond f (omega (arith, le, count, length-map core.flushers.items seen))
      ]

-- When a piece is ignored, and when it is dropped.
use Rattle.std.proofs.Common.{◌≡◌, ◌<◌, ◌≤◌, min, Option, Some, None, refl, sym, ap, ◌∙◌, arith}
use Rattle.foyer_format_record.specs.declared.serde.ages.Age.{Age}
use Rattle.foyer_format_record.specs.declared.serde.ages.Age.TheVariants as age
use Rattle.foyer_core_model.specs.Numbers.{last_number}
use Rattle.foyer_core_model.specs.Queue.{size_queued, IsCrowded}
use Rattle.foyer_core_model.specs.State.{State}
use Rattle.foyer_core_model.specs.Step as model_step
use Rattle.foyer_core_steps.specs.Asked.{known_age}
use Rattle.foyer_core_flusher.specs.Content.{Content, Meaning}
use Rattle.foyer_core_flusher.specs.CoreRules.{machine}
use Rattle.foyer_core_flusher.specs.Sizes.{AreValid}
use Rattle.foyer_core_steps.specs.StateOf.{IsStateOf}
use Rattle.foyer_core_flusher.specs.Settings.{Settings}
use Rattle.foyer_core_steps.specs.declared.state.Core.{Core}
use Rattle.foyer_core_steps.proofs.StateLemmas.{size_queued_is}

pub known_young : (o : Option Age) → known_age o ≡ model_step.Young → o ≡ Some age.Young
known_young None is = absurd (cc)
known_young (Some age.Fresh) is = absurd (cc)
known_young (Some age.Young) is = refl
known_young (Some age.Old) is = absurd (cc)

module _ {K V P A : Type 0} (m : Meaning K V P) (s : Settings) (sound : AreValid s) (core : Core K V P A) (it : State Content) (stands : IsStateOf m s core it) where
  pub size_is : size_queued s.flushers it.flushers ≡ min core.queued last_number
  size_is = size_queued_is s.flushers it.flushers ∙ ap (λ n. min n last_number) (sym stands.queued.sum)

  pub crowded : core.settings.submit_queue_size_threshold < min core.queued last_number → IsCrowded (machine m s sound) it
  crowded full =
      let sizes : core.settings.submit_queue_size_threshold ≡ s.submit_queue_size_threshold = ap (λ x. x.submit_queue_size_threshold) stands.sizes in
      let queued : size_queued s.flushers it.flushers ≡ min core.queued last_number = size_is in
      omega arith

  pub has_room : min core.queued last_number ≤ core.settings.submit_queue_size_threshold → IsCrowded (machine m s sound) it → ⊥
  has_room less full =
      let sizes : core.settings.submit_queue_size_threshold ≡ s.submit_queue_size_threshold = ap (λ x. x.submit_queue_size_threshold) stands.sizes in
      let queued : size_queued s.flushers it.flushers ≡ min core.queued last_number = size_is in
      omega arith

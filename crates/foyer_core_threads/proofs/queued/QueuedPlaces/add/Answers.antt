use Rattle.std.proofs.Common.{rules, ◌≡◌, ◌⊎◌, inl, inr, ◌%◌, ◌<◌, ℕ, length, slice_index, subst, sym, ap, ◌∙◌}
use Rattle.foyer_core_threads.specs.Queued.{AreClassed}
use Rattle.foyer_core_threads.proofs.ClassLemmas.{added}
use Rattle.foyer_core_threads.proofs.queued.QueuedPlaces.add.Goals as goal
use Rattle.foyer_core_threads.proofs.queued.QueuedPlaces.add.Goals.{then-not-raise, else-not-raise}

pub invariant_of-self-2 : goal.invariant_of-self-2
invariant_of-self-2 g c =
    let queued_is : c.if-not-raise.self-inside.queued.items ≡ c.raise.new.numbers.items =
    elim c.if-not-raise.branch [ then-not-raise w ↦ ap (λ x. x.queued.items) w.self-inside-is | else-not-raise w ↦ ap (λ x. x.queued.items) w.self-inside-is ] in
    let last_is : c.if-not-raise.self-inside.last.items ≡ c.self.inside.last.items =
    elim c.if-not-raise.branch [ then-not-raise w ↦ ap (λ x. x.last.items) w.self-inside-is | else-not-raise w ↦ ap (λ x. x.last.items) w.self-inside-is ] in
    let some : 0 < length c.self.inside.queued.items = search rules in
    let place : c.number_at-place.result ≡ slice_index c.raise.new.numbers.items (c.args.hash % length c.self.inside.queued.items) = search rules in
    let class : c.class_of-class.result ≡ c.args.hash % length c.self.inside.last.items = search rules in
    let bound : (r : ℕ) → (slice_index c.lift.new.numbers.items r ≡ slice_index c.self.inside.last.items r) ⊎ ((c.args.hash % length c.self.inside.last.items ≡ r) × (slice_index c.lift.new.numbers.items r ≡ c.number_at-place.result)) = (λ r.
    elim (c.lift.ensures.bound r) [
      | inl same ↦ inl (same ∙ ap (λ l. slice_index l r) last_is)
      | inr (at, put) ↦ inr (sym class ∙ at, put)
    ]) in
    subst (λ q. AreClassed c.lift.new.numbers.items q) (sym queued_is)
    (added c.self.inside.last.items c.self.inside.queued.items c.lift.new.numbers.items c.raise.new.numbers.items c.args.hash c.number_at-place.result c.self.invariant
    (c.lift.ensures.len ∙ ap (λ l. length l) last_is) c.raise.ensures.len some c.raise.ensures.grown place bound)

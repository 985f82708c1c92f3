use Rattle.std.proofs.Common.{◌≡◌, sym, ap, ◌∙◌}
use Rattle.foyer_core_flusher.proofs.filled.Filled.push.Goals as goal

pub invariant_of-self : goal.invariant_of-self
invariant_of-self g c =
    let taken = c.in_ok-buffer.ensures.taken in
    let shown = c.self.view_is in
    let sizes = c.take_buffer.ensures.sizes in
    let room : c.in_ok-buffer.buffer.room ≡ c.self.inside.room = ap (λ b. b.room) taken ∙ sym sizes.0 ∙ sym (ap (λ b. b.room) shown) in
    let greatest : c.in_ok-buffer.buffer.greatest ≡ c.self.inside.greatest = ap (λ b. b.greatest) taken ∙ sym sizes.1 ∙ sym (ap (λ b. b.greatest) shown) in
    let pushed = c.push_open-pushed.ensures in
    (c.self.invariant.0, c.self.invariant.1, pushed.some c.in_ok-buffer.ensures.some, (pushed.sizes.0 ∙ room, pushed.sizes.1 ∙ greatest))

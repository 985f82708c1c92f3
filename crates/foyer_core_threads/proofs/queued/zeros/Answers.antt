use Rattle.std.proofs.Common.{◌≡◌, ℕ, zero, suc, refl, ap, ◌∙◌, get_or, replicate}
use Rattle.foyer_core_threads.proofs.queued.zeros.Goals as goal

all_zero : (n r : ℕ) → get_or {A = ℕ} (replicate n 0) r 0 ≡ 0
all_zero zero r = refl
all_zero (suc n) zero = refl
all_zero (suc n) (suc r) = all_zero n r

pub returns-clause-zeros : goal.returns-clause-zeros
returns-clause-zeros g c = λ r. ap (λ l. get_or l r 0) (c.in_ok-vec.ensures.items_if_clones_equal (λ y is. is)) ∙ all_zero c.args.count r

use Rattle.std.proofs.Common.{◌++◌, ◌∷◌, [], None, ap, ◌∙◌}
use Rattle.foyer_core_steps.proofs.Opening.{replicate-end}
use Rattle.foyer_core_run.proofs.moves.kept.none_due.Goals as goal

pub each_place-preserved : goal.each_place-preserved
each_place-preserved g c = c.in_ok-push.ensures.items ∙ ap (λ xs. xs ++ None ∷ []) c.each_place.invariant ∙ replicate-end c.each_place.counter None

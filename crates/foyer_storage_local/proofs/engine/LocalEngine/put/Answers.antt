use Rattle.std.proofs.Common.{◌≡◌, true, refl, sym, subst}
use Rattle.foyer_storage_local.specs.StepAnswers.{is_draw_error}
use Rattle.foyer_storage_local.proofs.engine.LocalEngine.put.Goals as goal

pub returns-in-Err-clause-refused : goal.returns-in-Err-clause-refused
returns-in-Err-clause-refused g c = λ s valid it at. subst (λ e. is_draw_error e ≡ true) (sym c.in-Err.ensures.refused) refl

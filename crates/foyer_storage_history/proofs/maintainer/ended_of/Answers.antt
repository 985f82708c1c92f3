use Rattle.std.proofs.Common.{◌≡◌, ap, sym, subst, ◌∙◌, slice_get, Some}
use Rattle.foyer_storage_history.specs.Releasing.{AnswersWait, pieces_of}
use Rattle.foyer_storage_history.proofs.maintainer.ended_of.Goals as goal

pub returns-in-Ended-clause-released : goal.returns-in-Ended-clause-released
returns-in-Ended-clause-released g c = ap (λ v. v.items) c.release_all-released.ensures ∙ ap pieces_of (sym c.in-Ended.is)

pub returns-in-Ended-clause-answers : goal.returns-in-Ended-clause-answers
returns-in-Ended-clause-answers g c = λ is.
    let at = c.has_wait-answers.ensures is in
    subst (AnswersWait c.args.id) (sym c.in-Ended.is) (at.0, subst (λ l. slice_get l at.0 ≡ Some c.args.id) c.deref.ensures.value at.1)

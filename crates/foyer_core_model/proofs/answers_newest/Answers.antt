use Rattle.std.proofs.Common.{◌≡◌, true}
use Rattle.foyer_core_model.proofs.Promises.{answers_newest_lem}
use Rattle.foyer_core_model.proofs.answers_newest.Goals as goal

pub returns : goal.returns
returns g c = λ rules splits is_value. answers_newest_lem rules (λ f rs ss. splits f rs ss ≡ true) (λ v. is_value v ≡ true)

use Rattle.std.proofs.Common.{◌≡◌, true}
use Rattle.foyer_core_model.proofs.Promises.{promises_stay_lem}
use Rattle.foyer_core_model.proofs.promises_stay.Goals as goal

pub returns : goal.returns
returns g c = λ rules splits is_value. promises_stay_lem rules (λ f rs ss. splits f rs ss ≡ true) (λ v. is_value v ≡ true)

use Rattle.std.proofs.Common.{◌≡◌, true}
use Rattle.foyer_core_model.proofs.Missed.{missed_only_lem}
use Rattle.foyer_core_model.proofs.missed_only.Goals as goal

pub returns : goal.returns
returns g c = λ rules splits is_value. missed_only_lem rules (λ f rs ss. splits f rs ss ≡ true) (λ v. is_value v ≡ true)

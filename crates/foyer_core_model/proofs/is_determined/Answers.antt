use Rattle.std.proofs.Common.{◌≡◌, true}
use Rattle.foyer_core_model.proofs.Determined.{is_determined_lem}
use Rattle.foyer_core_model.proofs.is_determined.Goals as goal

pub returns : goal.returns
returns g c = λ rules splits. is_determined_lem rules (λ f rs ss. splits f rs ss ≡ true)

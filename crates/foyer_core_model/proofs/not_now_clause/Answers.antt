use Rattle.std.proofs.Common.{◌≡◌, true}
use Rattle.foyer_core_model.proofs.Companions.{not_now_keeps_lem}
use Rattle.foyer_core_model.proofs.not_now_clause.Goals as goal

pub returns : goal.returns
returns g c = λ rules splits. not_now_keeps_lem rules (λ f rs ss. splits f rs ss ≡ true)

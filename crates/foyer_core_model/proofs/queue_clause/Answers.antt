use Rattle.std.proofs.Common.{◌≡◌, true}
use Rattle.foyer_core_model.proofs.Companions.{queue_keeps_lem}
use Rattle.foyer_core_model.proofs.queue_clause.Goals as goal

pub returns : goal.returns
returns g c = λ rules splits. queue_keeps_lem rules (λ f rs ss. splits f rs ss ≡ true)

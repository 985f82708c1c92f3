use Rattle.std.proofs.Common.{◌≡◌, true}
use Rattle.foyer_core_returns.proofs.EndedLaw.{ended_law_lem}
use Rattle.foyer_core_returns.proofs.ended_law.Goals as goal

pub returns : goal.returns
returns g c = λ rules splits is_value. ended_law_lem g.row.A.Denot rules (λ f rs ss. splits f rs ss ≡ true) (λ v. is_value v ≡ true)

use Rattle.std.proofs.Common.{◌≡◌, true}
use Rattle.foyer_core_returns.proofs.ReturnsLaw.{laid_returns_law_lem}
use Rattle.foyer_core_returns.proofs.laid_returns_law.Goals as goal

pub returns : goal.returns
returns g c = λ rules is_value. laid_returns_law_lem rules (λ v. is_value v ≡ true)

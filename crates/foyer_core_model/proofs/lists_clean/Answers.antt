use Rattle.std.proofs.Common.{◌≡◌, true}
use Rattle.foyer_core_model.proofs.CleanListed.{lists_clean_lem}
use Rattle.foyer_core_model.proofs.lists_clean.Goals as goal

pub returns : goal.returns
returns g c = λ rules splits is_value. lists_clean_lem rules (λ f rs ss. splits f rs ss ≡ true) (λ v. is_value v ≡ true)

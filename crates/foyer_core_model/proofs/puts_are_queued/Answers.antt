use Rattle.std.proofs.Common.{◌≡◌, true}
use Rattle.foyer_core_model.proofs.PutsQueued.{puts_are_queued_lem}
use Rattle.foyer_core_model.proofs.puts_are_queued.Goals as goal

pub returns : goal.returns
returns g c = λ rules splits is_value. puts_are_queued_lem rules (λ f rs ss. splits f rs ss ≡ true) (λ v. is_value v ≡ true)

use Rattle.std.proofs.Common.{◌≡◌, true}
use Rattle.foyer_core_restart.proofs.Layouts.{laid_restart_law_lem}
use Rattle.foyer_core_restart.proofs.laid_restart_law.Goals as goal

pub returns : goal.returns
returns g c = λ rules is_value. laid_restart_law_lem rules (λ v. is_value v ≡ true)

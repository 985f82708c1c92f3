use Rattle.std.proofs.Common.{◌≡◌, true}
use Rattle.foyer_core_restart.proofs.Placings.{real_restart_law_lem}
use Rattle.foyer_core_restart.proofs.real_restart_law.Goals as goal

pub returns : goal.returns
returns g c = λ rules is_value. real_restart_law_lem g.row.A.Denot rules (λ v. is_value v ≡ true)

use Rattle.foyer_core_layout.proofs.KeepsLemmas.{keeps_records}
use Rattle.foyer_core_layout.proofs.keeps_records.Goals as goal

pub returns : goal.returns
returns g c = λ rules are. keeps_records rules are

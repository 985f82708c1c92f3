use Rattle.std.proofs.Common.{rules}
use Rattle.foyer_core_chronicle.proofs.ChronicleSteps.{looks}
use Rattle.foyer_core_chronicle.proofs.Chronicle.look.Goals as goal

pub load-requires : goal.load-requires
load-requires g c = (c.requires.own, search rules, looks _ _ _ _ _ _ _ _ (λ n. n))

use Rattle.std.proofs.Common.{rules, ◌==◌}
use prog.Atomic.{either}
use Rattle.foyer_core_chronicle.proofs.ChronicleSteps.{adds}
use Rattle.foyer_core_chronicle.proofs.Chronicle.add.Goals as goal

pub compare_exchange_with-requires : goal.compare_exchange_with-requires
compare_exchange_with-requires g c = (c.requires.own, search rules, adds _ _ _ _ _ _ _ _ (λ n. either (n == 0) 0 n) _ c.requires.rights c.requires.may)

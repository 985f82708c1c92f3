use Rattle.std.proofs.Common.{rules}
use Rattle.foyer_core_chronicle.proofs.ChronicleSteps.{joins}
use Rattle.foyer_core_chronicle.proofs.Chronicle.take.Goals as goal

pub join_seat-requires : goal.join_seat-requires
join_seat-requires g c = (c.requires.own.0, c.requires.own.1, c.requires.own.2, search rules, joins _ _ _ _ _ _ _ _)

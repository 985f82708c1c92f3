use Rattle.std.proofs.Common.{rules}
use Rattle.foyer_core_chronicle.proofs.ChronicleSteps.{gives}
use Rattle.foyer_core_chronicle.proofs.Chronicle.give.Goals as goal

pub split_seat-requires : goal.split_seat-requires
split_seat-requires g c = (c.requires.own, search rules, gives _ _ _ _ _ _)

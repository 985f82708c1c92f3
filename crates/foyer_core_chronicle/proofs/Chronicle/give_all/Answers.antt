use Rattle.std.proofs.Common.{rules}
use Rattle.foyer_core_chronicle.proofs.ChronicleSteps.{gives_all}
use Rattle.foyer_core_chronicle.proofs.Chronicle.give_all.Goals as goal

pub split_seat-requires : goal.split_seat-requires
split_seat-requires g c = (c.requires.own, search rules, gives_all _ _ _ _ _ _)

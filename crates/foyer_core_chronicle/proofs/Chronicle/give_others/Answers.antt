use Rattle.std.proofs.Common.{rules}
use Rattle.foyer_core_chronicle.proofs.ChronicleSteps.{gives_others}
use Rattle.foyer_core_chronicle.proofs.Chronicle.give_others.Goals as goal

pub split_seat-requires : goal.split_seat-requires
split_seat-requires g c = (c.requires.own, search rules, gives_others _ _ _ _ _ _ _)

use Rattle.foyer_core_chronicle.proofs.ChronicleSteps.{begins}
use Rattle.foyer_core_chronicle.proofs.Chronicle.open.Goals as goal

pub of_words-requires : goal.of_words-requires
of_words-requires g c = begins _ _ _ _ _ c.requires.0 c.requires.1

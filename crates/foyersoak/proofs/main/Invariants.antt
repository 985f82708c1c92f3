use Rattle.foyer_storage_cores.specs.CoreLedgers.{names_in_cores}
use Rattle.foyersoak.proofs.main.Given as goal

abbrev pub ghosts-soak : goal.ghosts-soak
ghosts-soak g a = record { name_of = names_in_cores a.blanks; all = a.blanks.first.queued.parts }

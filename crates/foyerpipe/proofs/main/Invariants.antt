use Rattle.foyer_storage_cores.specs.CoreLedgers.{names_in_cores}
use Rattle.foyerpipe.proofs.main.Given as goal

abbrev pub ghosts-serve : goal.ghosts-serve
ghosts-serve g a = record { name_of = names_in_cores a.blanks; all = a.blanks.first.queued.parts }

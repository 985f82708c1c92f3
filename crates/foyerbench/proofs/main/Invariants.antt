use Rattle.foyer_storage_cores.specs.CoreLedgers.{names_in_cores}
use Rattle.foyerbench.proofs.main.Given as goal

abbrev pub ghosts-bench : goal.ghosts-bench
ghosts-bench g a = record { name_of = names_in_cores a.blanks; all = a.blanks.first.queued.parts }

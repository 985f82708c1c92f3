use Rattle.foyer_storage_cores.specs.CoreLedgers.{names_in_cores}
use Rattle.test_store.proofs.tests.configs.opened.Given as goal

abbrev pub ghosts-answers_of : goal.ghosts-answers_of
ghosts-answers_of g a = record { name_of = names_in_cores a.blanks; all = a.blanks.first.queued.parts }

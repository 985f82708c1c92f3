use Rattle.foyer_core_tally.specs.Ledgers.{names_in}
use Rattle.test_shared.proofs.tests.shared.scripts.a_returned_step_is_noted_too.Given as goal

abbrev pub ghosts-has_wanted : goal.ghosts-has_wanted
ghosts-has_wanted g a = record { name_of = names_in a.blanks; all = a.blanks.queued.parts }

use Rattle.foyer_core_tally.specs.Ledgers.{names_in}
use Rattle.test_shared.proofs.tests.shared.scripts.the_notes_are_the_steps_of_all_sessions_in_order.Given as goal

abbrev pub ghosts-has_wanted : goal.ghosts-has_wanted
ghosts-has_wanted g a = record { name_of = names_in a.blanks; all = a.blanks.queued.parts }

use Rattle.foyer_core_tally.specs.Ledgers.{names_in}
use Rattle.test_shared.proofs.tests.shared.threads.what_two_threads_asked_is_noted_once_each.Given as goal

abbrev pub ghosts-are_noted : goal.ghosts-are_noted
ghosts-are_noted g a = record { name_of = names_in a.blanks; all = a.blanks.queued.parts }

use Rattle.foyer_core_tally.specs.Ledgers.{names_in}
use Rattle.test_shared.proofs.tests.shared.scripts.each_session_counts_its_closes_and_destroys.Given as goal

abbrev pub ghosts-are_ends_counted : goal.ghosts-are_ends_counted
ghosts-are_ends_counted g a = record { name_of = names_in a.blanks; all = a.blanks.queued.parts }

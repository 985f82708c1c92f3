use Rattle.foyer_core_tally.specs.Ledgers.{names_in}
use Rattle.test_shared.proofs.tests.shared.scripts.each_session_counts_its_replies_by_kind.Given as goal

abbrev pub ghosts-are_tallied : goal.ghosts-are_tallied
ghosts-are_tallied g a = record { name_of = names_in a.blanks; all = a.blanks.queued.parts }

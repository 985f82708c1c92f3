use Rattle.foyer_core_tally.specs.Ledgers.{names_in}
use Rattle.test_shared.proofs.tests.storage.holds.a_question_is_answered_while_a_load_is_held_before_its_read.Given as goal

abbrev pub ghosts-is_answered : goal.ghosts-is_answered
ghosts-is_answered g a = record { name_of = names_in a.blanks; all = a.blanks.queued.parts }

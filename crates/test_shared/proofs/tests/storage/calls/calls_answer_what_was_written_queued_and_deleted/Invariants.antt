use Rattle.foyer_core_tally.specs.Ledgers.{names_in}
use Rattle.test_shared.proofs.tests.storage.calls.calls_answer_what_was_written_queued_and_deleted.Given as goal

abbrev pub ghosts-answer_all : goal.ghosts-answer_all
ghosts-answer_all g a = record { name_of = names_in a.blanks; all = a.blanks.queued.parts }

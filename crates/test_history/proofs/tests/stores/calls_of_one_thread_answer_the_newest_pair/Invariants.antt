use Rattle.foyer_core_tally.specs.Ledgers.{names_in}
use Rattle.test_history.proofs.tests.stores.calls_of_one_thread_answer_the_newest_pair.Given as goal

abbrev pub ghosts-run-J-HistoryName : goal.ghosts-run-J-HistoryName
ghosts-run-J-HistoryName g a = record { table = a.history.table.shared.table_id }

abbrev pub ghosts-run-L-Kinds : goal.ghosts-run-L-Kinds
ghosts-run-L-Kinds g a = record { name_of = names_in a.blanks; all = a.blanks.queued.parts }

use Rattle.foyer_core_tally.specs.Ledgers.{names_in}
use Rattle.test_history.proofs.tests.stores.no_load_goes_back_while_two_threads_put.Given as goal

abbrev pub ghosts-run_threads-J-HistoryName : goal.ghosts-run_threads-J-HistoryName
ghosts-run_threads-J-HistoryName g a = record { table = a.history.table.shared.table_id }

abbrev pub ghosts-run_threads-L-Kinds : goal.ghosts-run_threads-L-Kinds
ghosts-run_threads-L-Kinds g a = record { name_of = names_in a.blanks; all = a.blanks.queued.parts }

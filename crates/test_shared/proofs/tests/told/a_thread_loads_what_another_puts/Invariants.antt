use Rattle.foyer_core_tally.specs.Ledgers.{names_in}
use Rattle.test_shared.proofs.tests.told.a_thread_loads_what_another_puts.Given as goal

abbrev pub ghosts-run_by_two-J-HistoryName : goal.ghosts-run_by_two-J-HistoryName
ghosts-run_by_two-J-HistoryName g a = record { table = a.history.table.shared.table_id }

abbrev pub ghosts-run_by_two-L-Kinds : goal.ghosts-run_by_two-L-Kinds
ghosts-run_by_two-L-Kinds g a = record { name_of = names_in a.blanks; all = a.blanks.queued.parts }

use Rattle.foyer_core_tally.specs.Ledgers.{names_in}
use Rattle.test_history.proofs.tests.stores.a_load_returns_while_another_flusher_has_pieces.Given as goal

abbrev pub ghosts-run_beside-J-HistoryName : goal.ghosts-run_beside-J-HistoryName
ghosts-run_beside-J-HistoryName g a = record { table = a.history.table.shared.table_id }

abbrev pub ghosts-run_beside-L-Kinds : goal.ghosts-run_beside-L-Kinds
ghosts-run_beside-L-Kinds g a = record { name_of = names_in a.blanks; all = a.blanks.queued.parts }

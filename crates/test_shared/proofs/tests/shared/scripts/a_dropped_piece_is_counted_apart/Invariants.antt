use Rattle.foyer_core_tally.specs.Ledgers.{names_in}
use Rattle.test_shared.proofs.tests.shared.scripts.a_dropped_piece_is_counted_apart.Given as goal

abbrev pub ghosts-is_dropped_apart : goal.ghosts-is_dropped_apart
ghosts-is_dropped_apart g a = record { name_of = names_in a.blanks; all = a.blanks.queued.parts }

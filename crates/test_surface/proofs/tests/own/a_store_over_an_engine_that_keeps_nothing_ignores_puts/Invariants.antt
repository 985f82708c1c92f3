use Rattle.foyer_storage.specs.Ledgers.{names_in}
use Rattle.test_surface.proofs.tests.own.a_store_over_an_engine_that_keeps_nothing_ignores_puts.Given as goal

abbrev pub ghosts-is_ignored : goal.ghosts-is_ignored
ghosts-is_ignored g a = record { name_of = names_in a.blanks; all = a.blanks.queued.parts }

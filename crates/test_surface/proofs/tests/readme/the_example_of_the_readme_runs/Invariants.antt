use Rattle.foyer_storage.specs.Ledgers.{names_in}
use Rattle.test_surface.proofs.tests.readme.the_example_of_the_readme_runs.Given as goal

abbrev pub ghosts-is_read_back : goal.ghosts-is_read_back
ghosts-is_read_back g a = record { name_of = names_in a.blanks; all = a.blanks.queued.parts }

use Rattle.foyer_core_chronicle.proofs.tests.act_under_a_lock.Given as goal

abbrev pub ghosts-add_with : goal.ghosts-add_with
ghosts-add_with a = record { right = 0 }

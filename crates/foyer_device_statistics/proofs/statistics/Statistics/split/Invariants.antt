use Rattle.foyer_device_statistics.proofs.statistics.Statistics.split.Given as goal

abbrev pub ghosts-split_as : goal.ghosts-split_as
ghosts-split_as g a = record { amount = a.parts }

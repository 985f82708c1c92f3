use Rattle.foyer_storage.specs.Ledgers.{names_in}
use Rattle.foyer_example.proofs.main.Given as goal

abbrev pub ghosts-answer_words : goal.ghosts-answer_words
ghosts-answer_words g a = record { name_of = names_in a.blanks; all = a.blanks.queued.parts }

use Rattle.foyer_core_tally.specs.Ledgers.{names_in}
use Rattle.test_shared.proofs.tests.shared.refusals.a_step_whose_note_finds_no_room_leaves_no_brief.Given as goal

abbrev pub ghosts-is_note_refused : goal.ghosts-is_note_refused
ghosts-is_note_refused g a = record { name_of = names_in a.blanks; all = a.blanks.queued.parts }

use Rattle.foyer_block_tombstone.proofs.LastingLemmas.{mark_lasts}
use Rattle.foyer_block_tombstone.proofs.laws.marks_last.Goals as goal

pub returns : goal.returns
returns c = mark_lasts

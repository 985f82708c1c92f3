use Rattle.foyer_block_tombstone.proofs.WriteLemmas.{touched_many}
use Rattle.foyer_block_tombstone.proofs.laws.touched_are_counted.Goals as goal

pub returns : goal.returns
returns c = touched_many

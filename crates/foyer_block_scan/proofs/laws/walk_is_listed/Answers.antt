use Rattle.foyer_block_scan.proofs.WalkLemmas.{walk_lists}
use Rattle.foyer_block_scan.proofs.laws.walk_is_listed.Goals as goal

pub returns : goal.returns
returns c = walk_lists

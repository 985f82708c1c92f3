use Rattle.std.proofs.Common.{arith}
use Rattle.foyer_block_tombstone.proofs.RoundLemmas.{last_lands}
use Rattle.foyer_block_tombstone.proofs.block.tombstone.marks.last_index.Goals as goal

pub returns-clause-some : goal.returns-clause-some
returns-clause-some c =
    last_lands c.args.start c.distance-first.result c.args.count c.args.slots c.args.slot
    (omega arith) c.distance-first.ensures.within c.distance-first.ensures.lands

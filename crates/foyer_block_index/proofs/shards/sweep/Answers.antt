use Rattle.foyer_block_index.proofs.Filling.{adds_none, filled_here}
use Rattle.foyer_block_index.proofs.Found.{map_of-place}
use Rattle.foyer_block_index.proofs.shards.sweep.Goals as goal

pub returns-clause-same : goal.returns-clause-same
returns-clause-same g c = map_of-place c.args.shards.now.items c.args.place c.index_mut.result.now c.sweep.new.self c.requires c.index_mut.ensures.value c.sweep.ensures.same

pub returns-clause-places : goal.returns-clause-places
returns-clause-places g c = adds_none c.args.shards.now.items c.args.place c.index_mut.result.now c.sweep.new.self c.requires c.index_mut.ensures.value c.sweep.ensures.only

pub returns-clause-filled : goal.returns-clause-filled
returns-clause-filled g c = filled_here c.args.shards.now.items c.args.place c.index_mut.result.now c.sweep.new.self c.requires c.index_mut.ensures.value c.sweep.ensures.filled

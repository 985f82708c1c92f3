use Rattle.std.proofs.Common.{◌<◌, length, arith}
use Rattle.std.proofs.lemmas.Option.{slice_get_within}
use Rattle.foyer_block_index.proofs.Filling.{filled_none}
use Rattle.foyer_block_index.proofs.Found.{map_of-no_entries, no_entries-slice_set}
use Rattle.foyer_block_index.proofs.shards.clear.Goals as goal

pub loop-shard-preserved : goal.loop-shard-preserved
loop-shard-preserved g c =
    let within : c.loop-shard.shard-index < length c.loop-shard.shards = omega arith in
    no_entries-slice_set c.loop-shard.shards c.loop-shard.shard-index c.clear.new.self within c.clear.ensures c.loop-shard.invariant

pub returns-clause-empty : goal.returns-clause-empty
returns-clause-empty g c = map_of-no_entries c.loop-shard.shards (λ k s at.
    let within = slice_get_within c.loop-shard.shards k s at in
    let lt : k < c.loop-shard.shard-index = omega (arith, within) in
    c.loop-shard.invariant k s lt at)

pub returns-clause-filled : goal.returns-clause-filled
returns-clause-filled g c = filled_none c.loop-shard.shards (λ k s at.
    let within = slice_get_within c.loop-shard.shards k s at in
    let lt : k < c.loop-shard.shard-index = omega (arith, within) in
    c.loop-shard.invariant k s lt at)

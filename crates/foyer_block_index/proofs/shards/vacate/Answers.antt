use Rattle.std.proofs.Common.{◌≡◌, length, subst, arith}
use Rattle.foyer_block_index.specs.Probe.{HasPlace}
use Rattle.foyer_block_index.proofs.Filling.{adds_none}
use Rattle.foyer_block_index.proofs.Found.{shard_of, removed_here, unchanged_here, holds_here}
use Rattle.foyer_block_index.proofs.shards.vacate.Goals as goal

pub returns-clause-answer : goal.returns-clause-answer
returns-clause-answer g c =
    let len : c.len.result ≡ length c.args.shards.now.items = omega (arith, c.len.ensures) in
    let own = shard_of c.args.shards.now.items c.args.hash c.len.result c.index_mut.result.now len c.requires c.index_mut.ensures.value in
    holds_here c.args.shards.now.items c.args.hash _ c.index_mut.result.now c.vacate.new.self own c.vacate.result c.args.held c.vacate.ensures.answer

pub returns-clause-removed : goal.returns-clause-removed
returns-clause-removed g c =
    let len : c.len.result ≡ length c.args.shards.now.items = omega (arith, c.len.ensures) in
    let own = shard_of c.args.shards.now.items c.args.hash c.len.result c.index_mut.result.now len c.requires c.index_mut.ensures.value in
    removed_here c.args.shards.now.items c.args.hash _ c.index_mut.result.now c.vacate.new.self own c.vacate.result c.vacate.ensures.vacated

pub returns-clause-unchanged : goal.returns-clause-unchanged
returns-clause-unchanged g c =
    let len : c.len.result ≡ length c.args.shards.now.items = omega (arith, c.len.ensures) in
    let own = shard_of c.args.shards.now.items c.args.hash c.len.result c.index_mut.result.now len c.requires c.index_mut.ensures.value in
    unchanged_here c.args.shards.now.items c.args.hash _ c.index_mut.result.now c.vacate.new.self own c.vacate.result c.vacate.ensures.unchanged

pub returns-clause-places : goal.returns-clause-places
returns-clause-places g c =
    let len : c.len.result ≡ length c.args.shards.now.items = omega (arith, c.len.ensures) in
    let own = shard_of c.args.shards.now.items c.args.hash c.len.result c.index_mut.result.now len c.requires c.index_mut.ensures.value in
    adds_none c.args.shards.now.items _ c.index_mut.result.now c.vacate.new.self own.within c.index_mut.ensures.value (λ h has. subst (λ l. HasPlace l h) c.vacate.ensures.hashes has)

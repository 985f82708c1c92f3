use Rattle.std.proofs.Common.{◌≡◌, length, subst, sym, arith}
use Rattle.foyer_block_index.specs.Probe.{HasPlace}
use Rattle.foyer_block_index.proofs.Filling.{adds_none}
use Rattle.foyer_block_index.proofs.Found.{shard_of, replaced_here, unchanged_here, holds_here, seated-kept}
use Rattle.foyer_block_index.proofs.shards.replace.Goals as goal

pub returns-clause-answer : goal.returns-clause-answer
returns-clause-answer g c =
    let len : c.len.result ≡ length c.args.shards.now.items = omega (arith, c.len.ensures) in
    let own = shard_of c.args.shards.now.items c.args.hash c.len.result c.index_mut.result.now len c.requires c.index_mut.ensures.value in
    holds_here c.args.shards.now.items c.args.hash _ c.index_mut.result.now c.replace.new.self own c.replace.result c.args.old c.replace.ensures.answer

pub returns-clause-replaced : goal.returns-clause-replaced
returns-clause-replaced g c =
    let len : c.len.result ≡ length c.args.shards.now.items = omega (arith, c.len.ensures) in
    let own = shard_of c.args.shards.now.items c.args.hash c.len.result c.index_mut.result.now len c.requires c.index_mut.ensures.value in
    replaced_here c.args.shards.now.items c.args.hash _ c.index_mut.result.now c.replace.new.self own c.args.new c.replace.result c.replace.ensures.replaced

pub returns-clause-unchanged : goal.returns-clause-unchanged
returns-clause-unchanged g c =
    let len : c.len.result ≡ length c.args.shards.now.items = omega (arith, c.len.ensures) in
    let own = shard_of c.args.shards.now.items c.args.hash c.len.result c.index_mut.result.now len c.requires c.index_mut.ensures.value in
    unchanged_here c.args.shards.now.items c.args.hash _ c.index_mut.result.now c.replace.new.self own c.replace.result c.replace.ensures.unchanged

pub returns-clause-kept : goal.returns-clause-kept
returns-clause-kept g c =
    let len : c.len.result ≡ length c.args.shards.now.items = omega (arith, c.len.ensures) in
    let own = shard_of c.args.shards.now.items c.args.hash c.len.result c.index_mut.result.now len c.requires c.index_mut.ensures.value in
    seated-kept c.args.shards.now.items _ c.index_mut.result.now c.replace.new.self own.within c.index_mut.ensures.value (λ h has. subst (λ l. HasPlace l h) (sym c.replace.ensures.hashes) has)

pub returns-clause-places : goal.returns-clause-places
returns-clause-places g c =
    let len : c.len.result ≡ length c.args.shards.now.items = omega (arith, c.len.ensures) in
    let own = shard_of c.args.shards.now.items c.args.hash c.len.result c.index_mut.result.now len c.requires c.index_mut.ensures.value in
    adds_none c.args.shards.now.items _ c.index_mut.result.now c.replace.new.self own.within c.index_mut.ensures.value (λ h has. subst (λ l. HasPlace l h) c.replace.ensures.hashes has)

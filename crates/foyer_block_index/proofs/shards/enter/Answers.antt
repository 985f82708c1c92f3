use Rattle.std.proofs.Common.{◌≡◌, ◌<◌, IsSome, length, arith, subst}
use Rattle.foyer_block_index.proofs.Entries.{held-has}
use Rattle.foyer_block_index.proofs.Filling.{adds_one}
use Rattle.foyer_block_index.proofs.Found.{seated-kept, seated-own, shard_of, get-here, inserted_here, answered_here, refused_here, room-slice_set, room-here}
use Rattle.foyer_block_index.proofs.shards.enter.Goals as goal

pub returns-clause-answer : goal.returns-clause-answer
returns-clause-answer g c =
    let len : c.len.result ≡ length c.args.shards.now.items = omega (arith, c.len.ensures) in
    let own = shard_of c.args.shards.now.items c.args.hash c.len.result c.index_mut.result.now len c.requires c.index_mut.ensures.value in
    answered_here c.args.shards.now.items c.args.hash _ c.index_mut.result.now c.enter.new.self own c.enter.result c.args.next c.enter.ensures.answer

pub returns-clause-inserted : goal.returns-clause-inserted
returns-clause-inserted g c =
    let len : c.len.result ≡ length c.args.shards.now.items = omega (arith, c.len.ensures) in
    let own = shard_of c.args.shards.now.items c.args.hash c.len.result c.index_mut.result.now len c.requires c.index_mut.ensures.value in
    inserted_here c.args.shards.now.items c.args.hash _ c.index_mut.result.now c.enter.new.self own c.enter.result c.args.next c.enter.ensures.entered

pub returns-clause-err : goal.returns-clause-err
returns-clause-err g c =
    let len : c.len.result ≡ length c.args.shards.now.items = omega (arith, c.len.ensures) in
    let own = shard_of c.args.shards.now.items c.args.hash c.len.result c.index_mut.result.now len c.requires c.index_mut.ensures.value in
    refused_here c.args.shards.now.items c.args.hash _ c.index_mut.result.now c.enter.new.self own c.enter.result c.args.next c.enter.ensures.err

pub returns-clause-succeeds : goal.returns-clause-succeeds
returns-clause-succeeds g c = λ some.
    let len : c.len.result ≡ length c.args.shards.now.items = omega (arith, c.len.ensures) in
    let own = shard_of c.args.shards.now.items c.args.hash c.len.result c.index_mut.result.now len c.requires c.index_mut.ensures.value in
    let here = room-here c.args.shards.now.items c.args.hash _ c.index_mut.result.now c.enter.new.self own in
    c.enter.ensures.succeeds (subst (λ n. 0 < n) here some)

pub returns-clause-room : goal.returns-clause-room
returns-clause-room g c =
    let len : c.len.result ≡ length c.args.shards.now.items = omega (arith, c.len.ensures) in
    let own = shard_of c.args.shards.now.items c.args.hash c.len.result c.index_mut.result.now len c.requires c.index_mut.ensures.value in
    room-slice_set c.args.shards.now.items c.args.hash _ c.index_mut.result.now c.enter.new.self own c.enter.ensures.spare

pub returns-clause-held : goal.returns-clause-held
returns-clause-held g c = λ some.
    let len : c.len.result ≡ length c.args.shards.now.items = omega (arith, c.len.ensures) in
    let own = shard_of c.args.shards.now.items c.args.hash c.len.result c.index_mut.result.now len c.requires c.index_mut.ensures.value in
    let here = get-here c.args.shards.now.items c.args.hash _ c.index_mut.result.now c.index_mut.result.now own in
    c.enter.ensures.held (held-has c.index_mut.result.now.entries c.args.hash (subst IsSome here some))

pub returns-clause-seated : goal.returns-clause-seated
returns-clause-seated g c = λ seated.
    let len : c.len.result ≡ length c.args.shards.now.items = omega (arith, c.len.ensures) in
    let own = shard_of c.args.shards.now.items c.args.hash c.len.result c.index_mut.result.now len c.requires c.index_mut.ensures.value in
    c.enter.ensures.held (seated-own c.args.shards.now.items _ c.index_mut.result.now c.enter.new.self own.within c.index_mut.ensures.value c.enter.ensures.kept c.args.hash own.belongs seated)

pub returns-clause-kept : goal.returns-clause-kept
returns-clause-kept g c =
    let len : c.len.result ≡ length c.args.shards.now.items = omega (arith, c.len.ensures) in
    let own = shard_of c.args.shards.now.items c.args.hash c.len.result c.index_mut.result.now len c.requires c.index_mut.ensures.value in
    seated-kept c.args.shards.now.items _ c.index_mut.result.now c.enter.new.self own.within c.index_mut.ensures.value c.enter.ensures.kept

pub returns-clause-places : goal.returns-clause-places
returns-clause-places g c =
    let len : c.len.result ≡ length c.args.shards.now.items = omega (arith, c.len.ensures) in
    let own = shard_of c.args.shards.now.items c.args.hash c.len.result c.index_mut.result.now len c.requires c.index_mut.ensures.value in
    adds_one c.args.shards.now.items _ c.index_mut.result.now c.enter.new.self own.within c.index_mut.ensures.value c.args.hash _ own.belongs c.enter.ensures.only

use Rattle.std.proofs.Common.{arith, sym, ◌∙◌, ◌≤◌, ◌<◌, ◌/◌}
use Rattle.foyer_block_tombstone.proofs.LocateLemmas.{find_here, find_later}
use Rattle.foyer_block_tombstone.proofs.block.tombstone.pages.find.Goals as goal

pub loop-partition-preserved : goal.loop-partition-preserved
loop-partition-preserved g c =
    let p = c.partition-item.result in
    let high : g.P.Partition.bytes p / 4096 ≤ c.loop-partition.left = rw (← c.size.ensures) (omega arith) in
    let step = find_later g.P.Partition.extent g.P.Partition.bytes c.args.partitions.now c.loop-partition.partition-index c.loop-partition.left p (omega arith) c.partition-item.is high in
    rw c.size.ensures (c.loop-partition.invariant ∙ step)

pub returns-then-left-pages : goal.returns-then-left-pages
returns-then-left-pages g c =
    let p = c.partition-item.result in
    let low : c.loop-partition.left < g.P.Partition.bytes p / 4096 = rw (← c.size.ensures) (omega arith) in
    let step = find_here g.P.Partition.extent g.P.Partition.bytes c.args.partitions.now c.loop-partition.partition-index c.loop-partition.left p (omega arith) c.partition-item.is low in
    sym (c.loop-partition.invariant ∙ step)

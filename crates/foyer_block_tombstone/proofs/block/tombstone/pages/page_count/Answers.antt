use Rattle.std.proofs.Common.{arith}
use Rattle.foyer_block_tombstone.proofs.LocateLemmas.{pages_step}
use Rattle.foyer_block_tombstone.proofs.block.tombstone.pages.page_count.Goals as goal

pub loop-partition-preserved : goal.loop-partition-preserved
loop-partition-preserved g c =
    let step = pages_step g.P.Partition.extent g.P.Partition.bytes c.args.partitions.now c.loop-partition.partition-index c.partition-item.result (omega arith) c.partition-item.is in
    record { sum = rw c.size.ensures (omega (arith, c.loop-partition.invariant.sum, step)); few = omega arith }

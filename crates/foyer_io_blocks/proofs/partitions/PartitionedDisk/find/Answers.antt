use Rattle.std.proofs.Common.{arith, rules}
use Rattle.foyer_io_blocks.proofs.BlockPlaces.{block_found}
use Rattle.foyer_io_blocks.proofs.partitions.PartitionedDisk.find.Goals as goal

pub returns-then-offset-size-clause-none : goal.returns-then-offset-size-clause-none
returns-then-offset-size-clause-none g c =
    let looked = c.in_ok-partition.ensures.lookup in
    rw (block_found c.args.self.now.blocks.items c.deref.result.now c.args.block c.in_ok-partition.field-0.now c.deref.ensures.value looked.0 looked.1) (search rules)

pub returns-clause-found : goal.returns-clause-found
returns-clause-found g c =
    let looked = c.in_ok-partition.ensures.lookup in (
      block_found c.args.self.now.blocks.items c.deref.result.now c.args.block c.in_ok-partition.field-0.now c.deref.ensures.value looked.0 looked.1,
      omega (arith, c.size-size.ensures),
    )

use Rattle.std.proofs.Common.{refl, sym}
use Rattle.foyer_io_blocks.proofs.BlockPlaces.{stand_in_block, stays_in_block}
use Rattle.foyer_io_blocks.proofs.memory.MemoryDiskDisk.write.Goals as goal

pub returns-clause-wrote : goal.returns-clause-wrote
returns-clause-wrote g c = λ known.
    let disk = c.args.self.now in
    let found = c.in-Some.ensures in (
      stand_in_block c.write_at.new.self.bytes c.args.bytes.now disk.block_size c.args.block c.args.offset c.in-Some.start
          found.start.0 (found.within.0 refl).1 (λ i lt. sym (c.write_at.ensures.put i lt)),
      stays_in_block disk.file.bytes c.write_at.new.self.bytes disk.block_size c.args.block c.args.offset c.in-Some.start _
          found.start.0 (found.within.0 refl).1 c.write_at.ensures.others,
    )

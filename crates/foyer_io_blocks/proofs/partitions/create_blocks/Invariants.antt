use Rattle.std.proofs.Common.{◌≡◌, ◌++◌, map, vec_len}
use Rattle.std.specs.Prelude.{replicate}
use Rattle.foyer_io_blocks.proofs.partitions.create_blocks.Given as goal

abbrev pub invariant-each_block : goal.invariant-each_block
invariant-each_block g l = record {
  count : vec_len l.blocks ≡ l.counter;
  sizes : map g.D.Partition.Partition.bytes l.blocks.items ≡ replicate l.counter l.fn.size;
  made : g.D.Device.extents l.device ≡ g.D.Device.extents l.fn.device ++ map g.D.Partition.Partition.extent l.blocks.items;
}

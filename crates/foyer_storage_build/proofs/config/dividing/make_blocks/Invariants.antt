use Rattle.std.specs.Prelude.{◌≡◌, ◌++◌, map, replicate, vec_len}
use Rattle.foyer_storage_build.proofs.config.dividing.make_blocks.Given as goal

abbrev pub invariant-loop : goal.invariant-loop
invariant-loop g l = record {
  count : vec_len l.blocks ≡ l.counter;
  sizes : map g.D.Partition.Partition.bytes l.blocks.items ≡ replicate l.counter l.planned.block_size;
  made : g.D.Device.extents l.device ≡ g.D.Device.extents l.fn.device ++ map g.D.Partition.Partition.extent l.blocks.items;
  same : (g.D.Device.room l.device ≡ g.D.Device.room l.fn.device) × (g.D.Device.limits l.device ≡ g.D.Device.limits l.fn.device);
}

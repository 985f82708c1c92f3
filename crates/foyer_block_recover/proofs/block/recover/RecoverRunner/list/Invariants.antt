use Rattle.std.proofs.Common.{◌≡◌, ◌≤◌, ◌++◌, ℕ, map, vec_len}
use Rattle.foyer_io_disk.specs.Disk.{SurelyCame}
use Rattle.foyer_block_recover.specs.Recovery.{sizes_of}
use Rattle.foyer_block_recover.specs.Sources.{AreListed, block_of, share_of}
use Rattle.foyer_block_recover.proofs.block.recover.RecoverRunner.list.Given as goal

abbrev pub invariant-each_block : goal.invariant-each_block
invariant-each_block g l = record {
  len : vec_len l.buffer ≡ l.self.blob_index_size;
  known : g.D.Disk.is_known l.fn.disk → g.D.Disk.is_known l.disk;
  same : g.D.Disk.byte_at l.disk ≡ g.D.Disk.byte_at l.fn.disk;
  has : (b o n : ℕ) → g.D.Disk.surely_has l.fn.disk b o n → g.D.Disk.surely_has l.disk b o n;
  lies : (b o n : ℕ) → g.D.Disk.surely_lies l.fn.disk b o n → g.D.Disk.surely_lies l.disk b o n;
  counted : g.D.Disk.faults l.fn.disk ≤ g.D.Disk.faults l.disk;
  listed : AreListed (sizes_of l.self) l.self.blocks l.worker l.workers (g.D.Disk.is_known l.fn.disk) (g.D.Disk.byte_at l.fn.disk)
      (SurelyCame (g.D.Disk.surely_has l.fn.disk) (g.D.Disk.surely_lies l.fn.disk) (g.D.Disk.faults l.fn.disk) (g.D.Disk.faults l.disk)) l.fn.listings.items l.listings.items;
  share : map block_of l.listings.items ≡ map block_of l.fn.listings.items ++ share_of l.worker l.workers 0 l.block;
}

use Rattle.std.proofs.Common.{◌≡◌, ◌≤◌, ℕ, Bool, vec_len, slice_get}
use Rattle.foyer_io_disk.specs.Disk.{SurelyCame}
use Rattle.foyer_block_recover.specs.BlocksKept.{AreBlocksRead, gathered}
use Rattle.foyer_block_recover.specs.Placed.{AreSomeKept}
use Rattle.foyer_block_recover.specs.Sources.{AreSources, sure_of}
use Rattle.foyer_block_recover.proofs.block.blocks.read_blocks.Given as goal

abbrev pub invariant-each_block : goal.invariant-each_block
invariant-each_block g l = record {
  len : vec_len l.buffer ≡ l.index_size;
  slots : (k : ℕ) → l.block ≤ k → slice_get l.listings.slots.items k ≡ slice_get l.fn.listings.slots.items k;
  known : g.D.Disk.is_known l.fn.disk → g.D.Disk.is_known l.disk;
  same : g.D.Disk.byte_at l.disk ≡ g.D.Disk.byte_at l.fn.disk;
  has : (b o n : ℕ) → g.D.Disk.surely_has l.fn.disk b o n → g.D.Disk.surely_has l.disk b o n;
  lies : (b o n : ℕ) → g.D.Disk.surely_lies l.fn.disk b o n → g.D.Disk.surely_lies l.disk b o n;
  counted : g.D.Disk.faults l.fn.disk ≤ g.D.Disk.faults l.disk;
  blocks : (bytes : ℕ → ℕ → ℕ) (failed : ℕ → ℕ → Bool) → g.D.Disk.is_known l.fn.disk
      → AreSources (record { block = l.block_size; index = l.index_size }) l.blocks l.fn.listings.slots.items bytes (g.D.Disk.byte_at l.fn.disk) failed
      → AreBlocksRead (record { block = l.block_size; index = l.index_size }) l.block bytes
      (sure_of (record { block = l.block_size; index = l.index_size }) l.fn.listings.slots.items failed
      (SurelyCame (g.D.Disk.surely_has l.fn.disk) (g.D.Disk.surely_lies l.fn.disk) (g.D.Disk.faults l.fn.disk) (g.D.Disk.faults l.disk))) l.is_strict
      (gathered l.read l.batch.items);
  some : AreSomeKept (record { block = l.block_size; index = l.index_size }) l.block (gathered l.read l.batch.items);
}

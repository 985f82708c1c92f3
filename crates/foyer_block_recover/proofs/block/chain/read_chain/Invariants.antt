use Rattle.std.proofs.Common.{◌≡◌, ◌≤◌, ℕ, vec_len}
use Rattle.foyer_block_recover.proofs.ChainLemmas.{IsAlong, IsSomeAlong, offsets_left}
use Rattle.foyer_block_recover.proofs.block.chain.read_chain.Given as goal

abbrev pub invariant-each_index : goal.invariant-each_index
invariant-each_index g l = record {
  len : vec_len l.buffer ≡ l.index_size;
  size : l.index_size ≡ vec_len l.fn.buffer;
  sizes : l.scanner.sizes ≡ record { block = l.block_size; index = l.index_size };
  block : l.scanner.block ≡ l.block;
  filling : l.scanner.filling ≡ 0;
  known : g.D.Disk.is_known l.fn.disk → g.D.Disk.is_known l.disk;
  same : g.D.Disk.byte_at l.disk ≡ g.D.Disk.byte_at l.fn.disk;
  has : (b o n : ℕ) → g.D.Disk.surely_has l.fn.disk b o n → g.D.Disk.surely_has l.disk b o n;
  lies : (b o n : ℕ) → g.D.Disk.surely_lies l.fn.disk b o n → g.D.Disk.surely_lies l.disk b o n;
  counted : g.D.Disk.faults l.fn.disk ≤ g.D.Disk.faults l.disk;
  along : g.D.Disk.is_known l.fn.disk → IsAlong (record { block = l.block_size; index = l.index_size }) (g.D.Disk.byte_at l.fn.disk l.block) l.block
      l.fn.kept.items l.kept.items l.last l.scanner.blob_offset;
  some : IsSomeAlong (record { block = l.block_size; index = l.index_size }) l.block l.fn.kept.items l.kept.items l.last;
}

abbrev pub decreases-each_index : goal.decreases-each_index
decreases-each_index g l = offsets_left l.block_size l.scanner.blob_offset

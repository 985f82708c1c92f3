use Rattle.std.proofs.Common.{◌≡◌, ◌+◌, ◌≤◌, drop}
use Rattle.foyer_block_tombstone.specs.Pages.{pages_of, places}
use Rattle.foyer_block_tombstone.proofs.block.tombstone.pages.page_count.Given as goal

abbrev pub invariant-loop-partition : goal.invariant-loop-partition
invariant-loop-partition g l = record {
  sum : l.total + pages_of (places g.P.Partition.extent g.P.Partition.bytes (drop l.partition-index l.partitions))
      ≡ pages_of (places g.P.Partition.extent g.P.Partition.bytes l.partitions);
  few : l.total ≤ 36028797018963967;
}

use Rattle.std.proofs.Common.{◌≡◌, drop}
use Rattle.foyer_block_tombstone.specs.Pages.{locate, places}
use Rattle.foyer_block_tombstone.proofs.block.tombstone.pages.find.Given as goal

abbrev pub invariant-loop-partition : goal.invariant-loop-partition
invariant-loop-partition g l =
    locate (places g.P.Partition.extent g.P.Partition.bytes l.partitions) l.page
    ≡ locate (places g.P.Partition.extent g.P.Partition.bytes (drop l.partition-index l.partitions)) l.left

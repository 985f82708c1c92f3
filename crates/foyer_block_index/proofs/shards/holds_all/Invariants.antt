use Rattle.std.proofs.Common.{take}
use Rattle.foyer_block_index.specs.Insertion.{AllHeld}
use Rattle.foyer_block_index.specs.Shards.{map_of}
use Rattle.foyer_block_index.proofs.shards.holds_all.Given as goal

abbrev pub invariant-loop-entry : goal.invariant-loop-entry
invariant-loop-entry g l = AllHeld (map_of l.shards) (take l.entry-index l.batch)

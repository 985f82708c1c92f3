use Rattle.std.proofs.Common.{drop, length, ◌≡◌}
use Rattle.foyer_block_index.specs.Committing.{PiecesHeld}
use Rattle.foyer_block_index.specs.Shards.{map_of}
use Rattle.foyer_block_index.proofs.shards.holds_pieces.Given as goal

-- what is left decides
abbrev pub invariant-each_record : goal.invariant-each_record
invariant-each_record g l = record {
  all : length l.sources ≡ length l.batch;
  so_far : PiecesHeld (map_of l.shards) (drop l.i l.batch) (drop l.i l.sources) → PiecesHeld (map_of l.shards) l.batch l.sources;
  back : PiecesHeld (map_of l.shards) l.batch l.sources → PiecesHeld (map_of l.shards) (drop l.i l.batch) (drop l.i l.sources);
}

use Rattle.std.proofs.Common.{◌≡◌, ◌+◌, ◌≤◌, length, drop}
use Rattle.foyer_block_index.specs.Committing.{committed_all, put_count}
use Rattle.foyer_block_index.specs.Shards.{map_of, PiecesSeated, AreFilledBut}
use Rattle.foyer_block_index.proofs.shards.commit_all.Given as goal

-- what is left goes in, and makes of the index what all of it does
abbrev pub invariant-each_record : goal.invariant-each_record
invariant-each_record g l = record {
  few : l.puts ≤ l.i;
  len : length l.shards.items ≡ length l.fn.shards.items;
  all : length l.sources ≡ length l.batch;
  seated : PiecesSeated l.shards.items l.batch l.sources;
  filled : AreFilledBut l.shards.items l.batch l.sources l.i;
  committed : committed_all (map_of l.shards.items) (drop l.i l.batch) (drop l.i l.sources) ≡ committed_all (map_of l.fn.shards.items) l.batch l.sources;
  puts : l.puts + put_count (map_of l.shards.items) (drop l.i l.batch) (drop l.i l.sources) ≡ put_count (map_of l.fn.shards.items) l.batch l.sources;
}

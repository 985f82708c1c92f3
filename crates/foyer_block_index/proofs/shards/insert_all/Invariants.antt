use Rattle.std.proofs.Common.{◌≡◌, [], length, drop}
use Rattle.foyer_block_index.specs.Insertion.{inserted_all}
use Rattle.foyer_block_index.specs.Shards.{map_of, PiecesSeated, AreFilledBut}
use Rattle.foyer_block_index.proofs.shards.insert_all.Given as goal

-- what is left goes in, and makes of the index what all of it does
abbrev pub invariant-each_entry : goal.invariant-each_entry
invariant-each_entry g l = record {
  len : length l.shards.items ≡ length l.fn.shards.items;
  seated : PiecesSeated l.shards.items l.batch [];
  filled : AreFilledBut l.shards.items l.batch [] l.i;
  inserted : inserted_all (map_of l.shards.items) (drop l.i l.batch) ≡ inserted_all (map_of l.fn.shards.items) l.batch;
}

use Rattle.std.proofs.Common.{◌≡◌, length, take}
use Rattle.foyer_block_index.specs.Shards.{map_of, AreFilled}
use Rattle.foyer_block_index.proofs.Filling.{Sweeping, AreFilledTo}
use Rattle.foyer_block_index.proofs.Removals.{LeftByMarks}
use Rattle.foyer_block_index.proofs.shards.remove_marks.Given as goal

abbrev pub invariant-each_count : goal.invariant-each_count
invariant-each_count g l = length l.counts ≡ length l.fn.counts

abbrev pub invariant-loop-mark : goal.invariant-loop-mark
invariant-loop-mark g l = record {
  len : length l.shards.items ≡ length l.fn.shards.items;
  sweeping : Sweeping (λ x. x.hash) l.marks l.fn.shards.items l.shards.items l.counts;
  left : LeftByMarks (map_of l.fn.shards.items) (map_of l.shards.items) (take l.mark-index l.marks);
}

abbrev pub invariant-each_shard : goal.invariant-each_shard
invariant-each_shard g l = record {
  len : length l.shards.items ≡ length l.fn.shards.items;
  same : map_of l.shards.items ≡ map_of l.initial.shards.items;
  filled : AreFilled l.fn.shards.items → AreFilledTo (λ x. x.hash) l.marks l.shards.items l.counts l.mark-index;
}

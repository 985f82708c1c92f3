use Rattle.std.proofs.Common.{◌≡◌, length, take}
use Rattle.foyer_block_index.specs.Shards.{map_of, AreFilled}
use Rattle.foyer_block_index.proofs.Filling.{Sweeping, AreFilledTo}
use Rattle.foyer_block_index.proofs.Removals.{LeftByAddresses}
use Rattle.foyer_block_index.proofs.shards.remove_addresses.Given as goal

abbrev pub invariant-loop-entry : goal.invariant-loop-entry
invariant-loop-entry g l = record {
  len : length l.shards.items ≡ length l.fn.shards.items;
  sweeping : Sweeping (λ x. x.hash) l.addresses l.fn.shards.items l.shards.items l.counts;
  left : LeftByAddresses (map_of l.fn.shards.items) (map_of l.shards.items) (take l.entry-index l.addresses);
}

abbrev pub invariant-each_shard : goal.invariant-each_shard
invariant-each_shard g l = record {
  len : length l.shards.items ≡ length l.fn.shards.items;
  same : map_of l.shards.items ≡ map_of l.initial.shards.items;
  filled : AreFilled l.fn.shards.items → AreFilledTo (λ x. x.hash) l.addresses l.shards.items l.counts l.entry-index;
}

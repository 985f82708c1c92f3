use Rattle.std.proofs.Common.{◌≡◌, ◌+◌, ◌≤◌, take, vec_len, vec_capacity}
use Rattle.foyer_block_index.proofs.shard.lengthen.Given as goal

abbrev pub invariant-loop : goal.invariant-loop
invariant-loop g l = record {
  front : take (vec_len l.fn.entries) l.entries.items ≡ l.fn.entries.items;
  len : vec_len l.entries ≡ vec_len l.fn.entries + l.counter;
  capacity : vec_capacity l.fn.entries ≤ vec_capacity l.entries;
}

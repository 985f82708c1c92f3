use Rattle.std.proofs.Common.{◌≡◌, ◌+◌, take, drop}
use Rattle.foyer_block_index.proofs.Merges.{Merging}
use Rattle.foyer_block_index.proofs.shard.merge_places.Given as goal

-- what was merged stands behind the first `old + new`
abbrev pub invariant-from_the_back : goal.invariant-from_the_back
invariant-from_the_back l = record {
  front : take l.old l.entries ≡ take l.old l.fn.entries;
  merging : Merging (take l.len l.fn.entries) l.news (drop (l.old + l.new) l.entries) l.old l.new;
}

abbrev pub decreases-from_the_back : goal.decreases-from_the_back
decreases-from_the_back l = l.old + l.new

use Rattle.std.proofs.Common.{◌≡◌, ◌<◌, ℕ, length, take, slice_index}
use Rattle.foyer_block_index.specs.Index.{belonging}
use Rattle.foyer_block_index.proofs.shards.count.Given as goal

abbrev pub invariant-loop-entry : goal.invariant-loop-entry
invariant-loop-entry l = record {
  len : length l.counts ≡ length l.fn.counts;
  counted : (s : ℕ) → s < length l.fn.counts → 0 < belonging (length l.fn.counts) s l.batch → slice_index l.counts s ≡ belonging (length l.fn.counts) s (take l.entry-index l.batch);
}

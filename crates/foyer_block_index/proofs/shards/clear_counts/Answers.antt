use Rattle.std.proofs.Common.{◌≡◌, ◌<◌, ◌%◌, get_or, length, length-set, ap, ◌∙◌, arith}
use Rattle.foyer_block_index.specs.declared.indexer.HashedEntryAddress.{HashedEntryAddress}
use Rattle.foyer_block_index.proofs.Batches.{cleared_more}
use Rattle.foyer_block_index.proofs.shards.clear_counts.Goals as goal

abbrev zero_entry : HashedEntryAddress
zero_entry = record { hash = 0; address = record { block = 0; offset = 0; len = 0; sequence = 0; filling = 0 } }

pub loop-entry-preserved : goal.loop-entry-preserved
loop-entry-preserved c =
    let within : c.loop-entry.entry-index < length c.args.batch.now = omega arith in
    let len : length c.loop-entry.counts ≡ length c.args.counts.now = c.loop-entry.invariant.len in
    let hash = (get_or c.args.batch.now c.loop-entry.entry-index zero_entry).hash in
    record {
      len = length-set c.loop-entry.counts _ _ ∙ len;
      cleared = cleared_more c.loop-entry.counts (length c.args.counts.now) (hash % length c.loop-entry.counts) c.args.batch.now c.loop-entry.entry-index zero_entry
          within (ap (λ n. hash % n) len) c.requires len c.loop-entry.invariant.cleared;
    }

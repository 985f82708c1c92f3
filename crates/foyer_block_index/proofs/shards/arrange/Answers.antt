use Rattle.std.proofs.Common.{◌%◌, rules}
use Rattle.std.proofs.lemmas.Fn.{always_returns_same}
use Rattle.foyer_block_index.specs.declared.indexer.HashedEntryAddress.{HashedEntryAddress}
use Rattle.foyer_block_index.proofs.Reordered.{as_before}
use Rattle.foyer_block_index.proofs.shards.arrange.Goals as goal

pub returns-clause-hashes : goal.returns-clause-hashes
returns-clause-hashes g c =
    as_before c.args.shards _ _ (c.sort_by_cached_key.ensures.stable (λ (e : HashedEntryAddress). e.hash % c.args.shards) (always_returns_same _ _ _ (λ a r f' k. search rules)))

use Rattle.std.proofs.Common.{rules}
use Rattle.foyer_block_index.proofs.indexer.Indexer.get.Goals as goal

pub returns-in-Some-Address : goal.returns-in-Some-Address
returns-in-Some-Address g c = search rules depth 1

pub returns-in-Some-Tombstone : goal.returns-in-Some-Tombstone
returns-in-Some-Tombstone g c = search rules depth 1

use Rattle.std.proofs.Common.{sym}
use Rattle.foyer_block_index.proofs.Entries.{held-lacking}
use Rattle.foyer_block_index.proofs.shard.Shard.get.Goals as goal

pub returns-in-None : goal.returns-in-None
returns-in-None g c = sym (held-lacking c.args.self.now.entries c.args.hash c.in-None.ensures)

use Rattle.std.proofs.Common.{sym}
use Rattle.std.proofs.Math.Nat.{add-mod}
use Rattle.foyer_block_tombstone.proofs.block.tombstone.log.slot_behind.Goals as goal

pub returns-in-None-clause-same : goal.returns-in-None-clause-same
returns-in-None-clause-same c = sym (add-mod c.args.slot c.args.count c.args.slots)

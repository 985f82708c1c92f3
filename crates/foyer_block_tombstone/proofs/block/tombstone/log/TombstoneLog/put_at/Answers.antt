use Rattle.std.proofs.Common.{refl}
use Rattle.foyer_block_tombstone.proofs.block.tombstone.log.TombstoneLog.put_at.Goals as goal

pub returns : goal.returns
returns g c = record {
  end = c.put-outcome.new.self;
  put = rw (← c.self.view_is) c.put-outcome.ensures;
  same = rw (← c.self-2.view_is, ← c.self.view_is) refl;
}

use Rattle.foyer_policy_keeper.proofs.PieceMaps.{own_removed}
use Rattle.foyer_policy_keeper.proofs.keeper.shard.Shard.release.Goals as goal

pub invariant_of-self : goal.invariant_of-self
invariant_of-self g c = own_removed g.K.PartialEq.eq c.self.inside.buckets.entries c.remove.new.buckets.entries c.self.inside.last _ _ c.remove.ensures c.self.invariant

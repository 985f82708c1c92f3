use Rattle.foyer_policy_keeper.proofs.PieceMaps.{own_lost}
use Rattle.foyer_policy_keeper.proofs.keeper.shard.Shard.remove_hash.Goals as goal

pub invariant_of-self : goal.invariant_of-self
invariant_of-self g c = own_lost g.K.PartialEq.eq c.self.inside.buckets.entries c.remove_all.new.buckets.entries c.self.inside.last _ c.remove_all.ensures c.self.invariant

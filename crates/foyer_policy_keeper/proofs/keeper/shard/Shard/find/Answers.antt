use Rattle.foyer_policy_keeper.proofs.PieceMaps.{own_found}
use Rattle.foyer_policy_keeper.proofs.keeper.shard.Shard.find.Goals as goal

pub returns-in-Some-clause-own : goal.returns-in-Some-clause-own
returns-in-Some-clause-own g c =
    own_found g.K.PartialEq.eq c.self.inside.buckets.entries c.self.inside.last c.args.hash c.args.key.now c.in-Some.bucket.now c.find.result
    c.self.invariant c.in-Some.ensures.value c.find.ensures

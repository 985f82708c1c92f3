use Rattle.std.proofs.Common.{IsSome, [], subst, refl}
use Rattle.foyer_policy_keeper.proofs.PieceMaps.{removed, pieces_written, pieces_gone}
use Rattle.foyer_policy_keeper.proofs.keeper.shard.remove.Goals as goal

pub returns-then-remove : goal.returns-then-remove
returns-then-remove g c =
    let written = (c.get_mut.follows.holds c.remove.new.self).3 (subst IsSome c.in-Some.ensures.value refl) in
    removed g.met.K.Eq.laws c.args.buckets.now.entries c.remove-then-remove.new.self.entries c.args.hash c.args.key.now
    c.in-Some.bucket.now [] c.in-Some.ensures.value c.if-remove.ensures
    (
    pieces_gone c.args.buckets.now.entries _ c.remove-then-remove.new.self.entries c.args.hash c.remove.new.self
    written.0 c.remove-then-remove.ensures.updates.0
    )

pub returns-else-remove : goal.returns-else-remove
returns-else-remove g c =
    let written = (c.get_mut.follows.holds c.remove.new.self).3 (subst IsSome c.in-Some.ensures.value refl) in
    removed g.met.K.Eq.laws c.args.buckets.now.entries (c.get_mut.follows.lender c.remove.new.self).entries c.args.hash
    c.args.key.now c.in-Some.bucket.now c.remove.new.self.pieces c.in-Some.ensures.value c.if-remove.ensures
    (
    pieces_written c.args.buckets.now.entries (c.get_mut.follows.lender c.remove.new.self).entries c.args.hash
    c.remove.new.self written.0
    )

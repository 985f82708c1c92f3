use Rattle.std.proofs.Common.{◌≡◌, ◌+◌, ◌≤◌, sym, ap, subst, ◌∙◌, arith}
use Rattle.std.proofs.Common.{rules}
use Rattle.foyer_policy_keeper.specs.PieceMap.{piece_at}
use Rattle.foyer_policy_keeper.proofs.PieceMaps.{own_same}
use Rattle.foyer_policy_keeper.proofs.keeper.shard.Shard.reserve.Goals as goal

pub invariant_of-self : goal.invariant_of-self
invariant_of-self g c =
    own_same g.K.PartialEq.eq c.self.inside.buckets.entries c.make_room.new.buckets.entries c.self.inside.last c.self.inside.last c.make_room.ensures.same (omega arith) c.self.invariant

pub invariant_of-self-2 : goal.invariant_of-self-2
invariant_of-self-2 g c =
    own_same g.K.PartialEq.eq c.self.inside.buckets.entries c.make_room.new.buckets.entries c.self.inside.last (c.self.inside.last + 1) c.make_room.ensures.same (omega arith) c.self.invariant

pub returns-in_err-make_room-clause-same : goal.returns-in_err-make_room-clause-same
returns-in_err-make_room-clause-same g c = λ h k. c.make_room.ensures.same h k ∙ ap (λ v. piece_at g.K.PartialEq.eq v.map h k) c.self.view_is

pub returns-clause-same : goal.returns-clause-same
returns-clause-same g c = λ h k. c.make_room.ensures.same h k ∙ ap (λ v. piece_at g.K.PartialEq.eq v.map h k) c.self.view_is

use Rattle.std.proofs.Common.{ℕ, false, inr, subst}
use Rattle.std.specs.Arc.{arc_value}
use Rattle.foyer_storage_store.specs.Storing.{IsEstimated, IsStored}
use Rattle.foyer_storage_store.proofs.store.Store.put.Goals as goal

-- What is enqueued is the piece of the key's own hash.
pub returns-clause-answered : goal.returns-clause-answered
returns-clause-answered g c =
    let engine = (arc_value c.args.self.now.shared).engine in
    inr (subst (λ p. (x : ℕ) × IsEstimated (g.V.Code.is_encodable p.value) (g.V.Code.encoding p.value) (g.K.Code.is_encodable p.key) (g.K.Code.encoding p.key) x
    × IsStored (g.N.Engine.may_judge engine p.hash x) (g.N.Engine.may_enqueue engine c.args.session.now c.enqueue.new.session p x)
    (g.N.Engine.may_delete engine c.args.session.now c.enqueue.new.session p.hash) false c.enqueue.result)
    c.in_ok-piece.ensures.ok c.enqueue.ensures.answered)

use Rattle.std.proofs.Common.{◌∙◌, sym, subst}
use Rattle.foyer_storage_workers.specs.Receiving.{EndsOrGoesOn}
use Rattle.foyer_storage_workers.proofs.TurnLemmas.{ends_as}
use Rattle.foyer_storage_workers.proofs.workers.receiving.receive_some.Goals as goal

pub returns-in-Some-clause-ends : goal.returns-in-Some-clause-ends
returns-in-Some-clause-ends g c =
    subst (EndsOrGoesOn c.args.flusher c.receive-reply.new.session) (sym c.end_of.ensures ∙ c.in-Some.is)
    (ends_as g.N.Noting.keeps c.receive-reply.result.1 c.loop-taken.is_busy c.args.flusher c.loop-taken.session c.receive-reply.new.session c.receive-reply.result.0 c.receive-reply.ensures.asks)

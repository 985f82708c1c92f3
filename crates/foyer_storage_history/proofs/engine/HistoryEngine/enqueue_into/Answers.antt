use Rattle.std.proofs.Common.{inl, ap}
use Rattle.foyer_core_laws.specs.Content.{meaning}
use Rattle.foyer_storage_engine.specs.Answering.{enqueued_as}
use Rattle.foyer_storage_history.proofs.HistoryLemmas.{answer_to}
use Rattle.foyer_storage_history.proofs.engine.HistoryEngine.enqueue_into.Goals as goal

pub returns-clause-answer : goal.returns-clause-answer
returns-clause-answer g c = inl (
  c.in_ok-piece.piece,
  ap (λ r. r.piece) c.in_ok-piece.ensures.number,
  answer_to (meaning g.K.Code.encoding g.V.Code.encoding g.K.Code.is_encodable g.V.Code.is_encodable g.K.Code.is_decodable g.V.Code.is_decodable g.P.Properties.age) g.D.Disk.byte_at enqueued_as c.args.session.now.told.witness.me.0 c.ask-reply.new.session.witness.me.0 c.args.session.now.told.session c.ask-reply.new.session.session _ c.ask-reply.result.0 c.ask-reply.result.1 c.enqueued_of.result
      c.ask-reply.ensures.told c.ask-reply.ensures.noted c.ask-reply.ensures.parts c.enqueued_of.ensures.answer,
)

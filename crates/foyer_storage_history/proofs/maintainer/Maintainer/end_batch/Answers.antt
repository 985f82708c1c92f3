use Rattle.foyer_core_laws.specs.Content.{meaning}
use Rattle.foyer_storage_history.proofs.HistoryLemmas.{end_answering}
use Rattle.foyer_storage_history.proofs.maintainer.Maintainer.end_batch.Goals as goal

pub returns-clause-answers : goal.returns-clause-answers
returns-clause-answers g c = λ is.
    end_answering (meaning g.K.Code.encoding g.V.Code.encoding g.K.Code.is_encodable g.V.Code.is_encodable g.K.Code.is_decodable g.V.Code.is_decodable g.P.Properties.age) g.D.Disk.byte_at c.args.self.now.told.witness.me.0 c.ask-reply.new.self.told.witness.me.0 c.args.flusher c.args.id c.ask-reply.result c.ask-reply.ensures.told (c.ended_of.ensures.answers is)

pub returns-clause-released : goal.returns-clause-released
returns-clause-released g c = record {
  reply = c.ask-reply.result;
  made = c.ask-reply.ensures.told;
  pieces = c.ended_of.ensures.released;
}

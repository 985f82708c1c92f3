use Rattle.foyer_core_laws.specs.Content.{meaning}
use Rattle.foyer_storage_history.proofs.HistoryLemmas.{answers_after, goes_on}
use Rattle.foyer_storage_history.proofs.maintainer.Maintainer.flush.Goals as goal

pub returns-clause-on : goal.returns-clause-on
returns-clause-on g c =
    goes_on (meaning g.K.Code.encoding g.V.Code.encoding g.K.Code.is_encodable g.V.Code.is_encodable g.K.Code.is_decodable g.V.Code.is_decodable g.P.Properties.age) g.D.Disk.byte_at c.args.self.now.told.witness.me.0 c.write_batch.new.self.told.witness.me.0 c.end_batch-end.new.self.told.witness.me.0
    (goes_on (meaning g.K.Code.encoding g.V.Code.encoding g.K.Code.is_encodable g.V.Code.is_encodable g.K.Code.is_decodable g.V.Code.is_decodable g.P.Properties.age) g.D.Disk.byte_at c.args.self.now.told.witness.me.0 c.ask.new.self.told.witness.me.0 c.write_batch.new.self.told.witness.me.0
    (goes_on (meaning g.K.Code.encoding g.V.Code.encoding g.K.Code.is_encodable g.V.Code.is_encodable g.K.Code.is_decodable g.V.Code.is_decodable g.P.Properties.age) g.D.Disk.byte_at c.args.self.now.told.witness.me.0 c.receive-is_busy.new.self.told.witness.me.0 c.ask.new.self.told.witness.me.0
    (c.receive-is_busy.ensures.on) c.ask.ensures.on) c.write_batch.ensures.on) c.end_batch-end.ensures.on

pub returns-clause-answers : goal.returns-clause-answers
returns-clause-answers g c = λ is.
    answers_after (meaning g.K.Code.encoding g.V.Code.encoding g.K.Code.is_encodable g.V.Code.is_encodable g.K.Code.is_decodable g.V.Code.is_decodable g.P.Properties.age) g.D.Disk.byte_at c.args.self.now.told.witness.me.0 c.write_batch.new.self.told.witness.me.0 c.end_batch-end.new.self.told.witness.me.0 c.args.flusher c.args.id
    (goes_on (meaning g.K.Code.encoding g.V.Code.encoding g.K.Code.is_encodable g.V.Code.is_encodable g.K.Code.is_decodable g.V.Code.is_decodable g.P.Properties.age) g.D.Disk.byte_at c.args.self.now.told.witness.me.0 c.ask.new.self.told.witness.me.0 c.write_batch.new.self.told.witness.me.0
    (goes_on (meaning g.K.Code.encoding g.V.Code.encoding g.K.Code.is_encodable g.V.Code.is_encodable g.K.Code.is_decodable g.V.Code.is_decodable g.P.Properties.age) g.D.Disk.byte_at c.args.self.now.told.witness.me.0 c.receive-is_busy.new.self.told.witness.me.0 c.ask.new.self.told.witness.me.0
    (c.receive-is_busy.ensures.on) c.ask.ensures.on) c.write_batch.ensures.on) (c.end_batch-end.ensures.answers (c.flushed_of.ensures is))

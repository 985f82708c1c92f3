use Rattle.foyer_core_laws.specs.Content.{meaning}
use Rattle.foyer_storage_history.proofs.HistoryLemmas.{answers_after}
use Rattle.foyer_storage_history.proofs.maintainer.Maintainer.flush_until.Goals as goal

pub returns-in-Answered-clause-answers : goal.returns-in-Answered-clause-answers
returns-in-Answered-clause-answers g c =
    answers_after (meaning g.K.Code.encoding g.V.Code.encoding g.K.Code.is_encodable g.V.Code.is_encodable g.K.Code.is_decodable g.V.Code.is_decodable g.P.Properties.age) g.D.Disk.byte_at c.args.self.now.told.witness.me.0 c.loop.self.told.witness.me.0 c.flush.new.self.told.witness.me.0 c.args.flusher c.args.id c.loop.invariant.0 (c.flush.ensures.answers c.in-Answered.is)

use Rattle.foyer_core_laws.specs.Content.{meaning}
use Rattle.foyer_storage_history.proofs.HistoryLemmas.{waited}
use Rattle.foyer_storage_history.proofs.maintainer.Maintainer.wait_for.Goals as goal

pub returns-clause-waited : goal.returns-clause-waited
returns-clause-waited g c =
    waited (meaning g.K.Code.encoding g.V.Code.encoding g.K.Code.is_encodable g.V.Code.is_encodable g.K.Code.is_decodable g.V.Code.is_decodable g.P.Properties.age) g.D.Disk.byte_at c.args.caller.now.witness.me.0 c.see.new.self.told.witness.me.0 c.ask.new.self.told.witness.me.0 c.flush_until.new.self.told.witness.me.0 c.show.new.caller.witness.me.0 c.args.flusher _ c.ask.result
    c.see.ensures.sees c.ask.ensures.told c.in-Done.is c.flush_until.ensures.answers c.show.ensures.shown

use Rattle.foyer_core_laws.specs.Content.{meaning}
use Rattle.foyer_storage_history.proofs.HistoryLemmas.{goes_on}
use Rattle.foyer_storage_history.proofs.maintainer.Maintainer.reclaim.Goals as goal

pub returns-clause-on : goal.returns-clause-on
returns-clause-on g c =
    goes_on (meaning g.K.Code.encoding g.V.Code.encoding g.K.Code.is_encodable g.V.Code.is_encodable g.K.Code.is_decodable g.V.Code.is_decodable g.P.Properties.age) g.D.Disk.byte_at c.args.self.now.told.witness.me.0 c.read_block.new.self.told.witness.me.0 c.clean_reclaimed.new.self.told.witness.me.0
    (goes_on (meaning g.K.Code.encoding g.V.Code.encoding g.K.Code.is_encodable g.V.Code.is_encodable g.K.Code.is_decodable g.V.Code.is_decodable g.P.Properties.age) g.D.Disk.byte_at c.args.self.now.told.witness.me.0 c.pick.new.self.told.witness.me.0 c.read_block.new.self.told.witness.me.0
    (c.pick.ensures.on) c.read_block.ensures.on) c.clean_reclaimed.ensures.on

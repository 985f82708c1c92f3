use Rattle.foyer_core_laws.specs.Content.{meaning}
use Rattle.foyer_storage_local.proofs.LocalRuns.{lies_more, waits_on}
use Rattle.foyer_storage_local.proofs.engine.LocalEngine.flush.Goals as goal

pub returns-clause-waited : goal.returns-clause-waited
returns-clause-waited g c =
    let m = meaning g.K.Code.encoding g.V.Code.encoding g.K.Code.is_encodable g.V.Code.is_encodable g.K.Code.is_decodable g.V.Code.is_decodable g.P.Properties.age in
    waits_on m g.D.Disk.is_known g.D.Disk.byte_at g.D.Disk.surely_lies g.D.Disk.faults c.args.self.now.core c.queue_wait.new.self.core c.flush_waiting.new.self.core c.args.self.now.disk c.queue_wait.new.self.disk c.flush_waiting.new.self.disk c.queue_wait.ensures.waited c.flush_waiting.ensures.waited

pub returns-clause-counts : goal.returns-clause-counts
returns-clause-counts g c = lies_more g.D.Disk.surely_lies g.D.Disk.faults c.args.self.now.disk c.queue_wait.new.self.disk c.flush_waiting.new.self.disk c.queue_wait.ensures.counts c.flush_waiting.ensures.counts

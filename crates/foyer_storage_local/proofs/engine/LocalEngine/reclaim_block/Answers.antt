use Rattle.foyer_core_laws.specs.Content.{meaning}
use Rattle.foyer_storage_local.proofs.LocalRuns.{waits_reclaimed}
use Rattle.foyer_storage_local.proofs.engine.LocalEngine.reclaim_block.Goals as goal

pub returns-clause-waited : goal.returns-clause-waited
returns-clause-waited g c =
    let m = meaning g.K.Code.encoding g.V.Code.encoding g.K.Code.is_encodable g.V.Code.is_encodable g.K.Code.is_decodable g.V.Code.is_decodable g.P.Properties.age in
    waits_reclaimed m g.D.Disk.is_known g.D.Disk.byte_at g.D.Disk.surely_lies g.D.Disk.faults c.reclaim_block.result c.args.self.now.core c.reclaim_block.new.core c.args.self.now.disk c.reclaim_block.new.disk
    (c.reclaim_block.ensures.lies, c.reclaim_block.ensures.counted) c.reclaim_block.ensures.known c.reclaim_block.ensures.honest

pub returns-clause-counts : goal.returns-clause-counts
returns-clause-counts g c = (c.reclaim_block.ensures.lies, c.reclaim_block.ensures.counted)

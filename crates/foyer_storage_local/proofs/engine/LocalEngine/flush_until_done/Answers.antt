use Rattle.std.proofs.Common.{refl, ◌∙◌}
use Rattle.foyer_core_laws.specs.Content.{meaning}
use Rattle.foyer_storage_local.proofs.LocalRuns.{lies_more, lies_none, waits_here, waits_on}
use Rattle.foyer_storage_local.proofs.engine.LocalEngine.flush_until_done.Goals as goal

pub loop-init : goal.loop-init
loop-init g c =
    let m = meaning g.K.Code.encoding g.V.Code.encoding g.K.Code.is_encodable g.V.Code.is_encodable g.K.Code.is_decodable g.V.Code.is_decodable g.P.Properties.age in
    (waits_here m g.D.Disk.is_known g.D.Disk.byte_at g.D.Disk.surely_lies g.D.Disk.faults c.args.self.now.core c.args.self.now.disk, refl, refl, refl, lies_none g.D.Disk.surely_lies g.D.Disk.faults c.args.self.now.disk)

pub returns-in_default-clause-waited : goal.returns-in_default-clause-waited
returns-in_default-clause-waited g c =
    let m = meaning g.K.Code.encoding g.V.Code.encoding g.K.Code.is_encodable g.V.Code.is_encodable g.K.Code.is_decodable g.V.Code.is_decodable g.P.Properties.age in
    waits_on m g.D.Disk.is_known g.D.Disk.byte_at g.D.Disk.surely_lies g.D.Disk.faults c.args.self.now.core c.loop.self.core c.flush_queued.new.self.core c.args.self.now.disk c.loop.self.disk c.flush_queued.new.self.disk c.loop.invariant.0 c.flush_queued.ensures.waited

pub returns-in_default-clause-lent : goal.returns-in_default-clause-lent
returns-in_default-clause-lent g c = (c.flush_queued.ensures.lent.0 ∙ c.loop.invariant.1, c.flush_queued.ensures.lent.1 ∙ c.loop.invariant.2)

pub returns-in_default-clause-hasher : goal.returns-in_default-clause-hasher
returns-in_default-clause-hasher g c = c.flush_queued.ensures.hasher ∙ c.loop.invariant.3

pub returns-in_default-clause-counts : goal.returns-in_default-clause-counts
returns-in_default-clause-counts g c = lies_more g.D.Disk.surely_lies g.D.Disk.faults c.args.self.now.disk c.loop.self.disk c.flush_queued.new.self.disk c.loop.invariant.4 c.flush_queued.ensures.counts

pub returns-in_default-2-clause-waited : goal.returns-in_default-2-clause-waited
returns-in_default-2-clause-waited g c =
    let m = meaning g.K.Code.encoding g.V.Code.encoding g.K.Code.is_encodable g.V.Code.is_encodable g.K.Code.is_decodable g.V.Code.is_decodable g.P.Properties.age in
    waits_on m g.D.Disk.is_known g.D.Disk.byte_at g.D.Disk.surely_lies g.D.Disk.faults c.args.self.now.core c.loop.self.core c.flush_queued.new.self.core c.args.self.now.disk c.loop.self.disk c.flush_queued.new.self.disk c.loop.invariant.0 c.flush_queued.ensures.waited

pub returns-in_default-2-clause-lent : goal.returns-in_default-2-clause-lent
returns-in_default-2-clause-lent g c = (c.flush_queued.ensures.lent.0 ∙ c.loop.invariant.1, c.flush_queued.ensures.lent.1 ∙ c.loop.invariant.2)

pub returns-in_default-2-clause-hasher : goal.returns-in_default-2-clause-hasher
returns-in_default-2-clause-hasher g c = c.flush_queued.ensures.hasher ∙ c.loop.invariant.3

pub returns-in_default-2-clause-counts : goal.returns-in_default-2-clause-counts
returns-in_default-2-clause-counts g c = lies_more g.D.Disk.surely_lies g.D.Disk.faults c.args.self.now.disk c.loop.self.disk c.flush_queued.new.self.disk c.loop.invariant.4 c.flush_queued.ensures.counts

pub loop-preserved : goal.loop-preserved
loop-preserved g c =
    let m = meaning g.K.Code.encoding g.V.Code.encoding g.K.Code.is_encodable g.V.Code.is_encodable g.K.Code.is_decodable g.V.Code.is_decodable g.P.Properties.age in (
      waits_on m g.D.Disk.is_known g.D.Disk.byte_at g.D.Disk.surely_lies g.D.Disk.faults c.args.self.now.core c.loop.self.core c.flush_queued.new.self.core c.args.self.now.disk c.loop.self.disk c.flush_queued.new.self.disk c.loop.invariant.0 c.flush_queued.ensures.waited,
      c.flush_queued.ensures.lent.0 ∙ c.loop.invariant.1,
      c.flush_queued.ensures.lent.1 ∙ c.loop.invariant.2,
      c.flush_queued.ensures.hasher ∙ c.loop.invariant.3,
      lies_more g.D.Disk.surely_lies g.D.Disk.faults c.args.self.now.disk c.loop.self.disk c.flush_queued.new.self.disk c.loop.invariant.4 c.flush_queued.ensures.counts,
    )

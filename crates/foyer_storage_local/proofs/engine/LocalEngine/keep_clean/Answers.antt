use Rattle.std.proofs.Common.{refl, ◌∙◌}
use Rattle.foyer_core_laws.specs.Content.{meaning}
use Rattle.foyer_storage_local.proofs.LocalRuns.{lies_more, lies_none, waits_here, waits_on}
use Rattle.foyer_storage_local.proofs.engine.LocalEngine.keep_clean.Goals as goal

pub loop-init : goal.loop-init
loop-init g c =
    let m = meaning g.K.Code.encoding g.V.Code.encoding g.K.Code.is_encodable g.V.Code.is_encodable g.K.Code.is_decodable g.V.Code.is_decodable g.P.Properties.age in
    (waits_here m g.D.Disk.is_known g.D.Disk.byte_at g.D.Disk.surely_lies g.D.Disk.faults c.args.self.now.core c.args.self.now.disk, refl, refl, refl, lies_none g.D.Disk.surely_lies g.D.Disk.faults c.args.self.now.disk)

pub returns-in_default : goal.returns-in_default
returns-in_default g c =
    let m = meaning g.K.Code.encoding g.V.Code.encoding g.K.Code.is_encodable g.V.Code.is_encodable g.K.Code.is_decodable g.V.Code.is_decodable g.P.Properties.age in
    record {
      waited = waits_on m g.D.Disk.is_known g.D.Disk.byte_at g.D.Disk.surely_lies g.D.Disk.faults c.args.self.now.core c.loop.self.core c.reclaim.new.self.core c.args.self.now.disk c.loop.self.disk c.reclaim.new.self.disk c.loop.invariant.0 c.reclaim.ensures.waited;
      lent = (c.reclaim.ensures.lent ∙ c.loop.invariant.1, c.reclaim.ensures.io ∙ c.loop.invariant.2);
      hasher = c.reclaim.ensures.hasher ∙ c.loop.invariant.3;
      counts = lies_more g.D.Disk.surely_lies g.D.Disk.faults c.args.self.now.disk c.loop.self.disk c.reclaim.new.self.disk c.loop.invariant.4 c.reclaim.ensures.counts;
    }

pub returns-in_default-2 : goal.returns-in_default-2
returns-in_default-2 g c =
    let m = meaning g.K.Code.encoding g.V.Code.encoding g.K.Code.is_encodable g.V.Code.is_encodable g.K.Code.is_decodable g.V.Code.is_decodable g.P.Properties.age in
    record {
      waited = waits_on m g.D.Disk.is_known g.D.Disk.byte_at g.D.Disk.surely_lies g.D.Disk.faults c.args.self.now.core c.loop.self.core c.reclaim.new.self.core c.args.self.now.disk c.loop.self.disk c.reclaim.new.self.disk c.loop.invariant.0 c.reclaim.ensures.waited;
      lent = (c.reclaim.ensures.lent ∙ c.loop.invariant.1, c.reclaim.ensures.io ∙ c.loop.invariant.2);
      hasher = c.reclaim.ensures.hasher ∙ c.loop.invariant.3;
      counts = lies_more g.D.Disk.surely_lies g.D.Disk.faults c.args.self.now.disk c.loop.self.disk c.reclaim.new.self.disk c.loop.invariant.4 c.reclaim.ensures.counts;
    }

pub loop-preserved : goal.loop-preserved
loop-preserved g c =
    let m = meaning g.K.Code.encoding g.V.Code.encoding g.K.Code.is_encodable g.V.Code.is_encodable g.K.Code.is_decodable g.V.Code.is_decodable g.P.Properties.age in (
      waits_on m g.D.Disk.is_known g.D.Disk.byte_at g.D.Disk.surely_lies g.D.Disk.faults c.args.self.now.core c.loop.self.core c.reclaim.new.self.core c.args.self.now.disk c.loop.self.disk c.reclaim.new.self.disk c.loop.invariant.0 c.reclaim.ensures.waited,
      c.reclaim.ensures.lent ∙ c.loop.invariant.1,
      c.reclaim.ensures.io ∙ c.loop.invariant.2,
      c.reclaim.ensures.hasher ∙ c.loop.invariant.3,
      lies_more g.D.Disk.surely_lies g.D.Disk.faults c.args.self.now.disk c.loop.self.disk c.reclaim.new.self.disk c.loop.invariant.4 c.reclaim.ensures.counts,
    )

pub returns : goal.returns
returns g c = record { waited = c.loop.invariant.0; lent = (c.loop.invariant.1, c.loop.invariant.2); hasher = c.loop.invariant.3; counts = c.loop.invariant.4 }

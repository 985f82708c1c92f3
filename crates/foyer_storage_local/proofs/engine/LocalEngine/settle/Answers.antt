use Rattle.std.proofs.Common.{refl, ◌∙◌}
use Rattle.foyer_core_run.specs.AtRest.{LeavesAllIdle, Without}
use Rattle.foyer_core_run.proofs.RestLemmas.{any_none}
use Rattle.foyer_core_laws.specs.Content.{meaning}
use Rattle.foyer_storage_local.proofs.LocalRuns.{any_then, led_to_rest, lies_more, lies_none, waits_here, waits_on}
use Rattle.foyer_storage_local.proofs.engine.LocalEngine.settle.Goals as goal

pub loop-init : goal.loop-init
loop-init g c =
    let m = meaning g.K.Code.encoding g.V.Code.encoding g.K.Code.is_encodable g.V.Code.is_encodable g.K.Code.is_decodable g.V.Code.is_decodable g.P.Properties.age in
    (waits_here m g.D.Disk.is_known g.D.Disk.byte_at g.D.Disk.surely_lies g.D.Disk.faults c.args.self.now.core c.args.self.now.disk, any_none m c.args.self.now.core, refl, refl, refl, lies_none g.D.Disk.surely_lies g.D.Disk.faults c.args.self.now.disk)

pub returns-in_err-flush_all-clause-waited : goal.returns-in_err-flush_all-clause-waited
returns-in_err-flush_all-clause-waited g c =
    let m = meaning g.K.Code.encoding g.V.Code.encoding g.K.Code.is_encodable g.V.Code.is_encodable g.K.Code.is_decodable g.V.Code.is_decodable g.P.Properties.age in
    waits_on m g.D.Disk.is_known g.D.Disk.byte_at g.D.Disk.surely_lies g.D.Disk.faults c.args.self.now.core c.loop.self.core c.flush_all.new.self.core c.args.self.now.disk c.loop.self.disk c.flush_all.new.self.disk c.loop.invariant.0 c.flush_all.ensures.waited

pub returns-in_err-flush_all-clause-lent : goal.returns-in_err-flush_all-clause-lent
returns-in_err-flush_all-clause-lent g c = (c.flush_all.ensures.lent ∙ c.loop.invariant.2, c.flush_all.ensures.io ∙ c.loop.invariant.3)

pub returns-then-is_at_rest-clause-leads : goal.returns-then-is_at_rest-clause-leads
returns-then-is_at_rest-clause-leads g c =
    let m = meaning g.K.Code.encoding g.V.Code.encoding g.K.Code.is_encodable g.V.Code.is_encodable g.K.Code.is_decodable g.V.Code.is_decodable g.P.Properties.age in
    led_to_rest m c.args.self.now.core c.flush_all.new.self.core
    (any_then m (Without c.loop.self.env.reinsertion LeavesAllIdle) c.args.self.now.core c.loop.self.core c.flush_all.new.self.core c.loop.invariant.1 c.in_ok-flush_all.ensures.leads)
    (c.is_at_rest.ensures c.if-is_at_rest.true)

pub returns-then-is_at_rest-clause-waited : goal.returns-then-is_at_rest-clause-waited
returns-then-is_at_rest-clause-waited g c =
    let m = meaning g.K.Code.encoding g.V.Code.encoding g.K.Code.is_encodable g.V.Code.is_encodable g.K.Code.is_decodable g.V.Code.is_decodable g.P.Properties.age in
    waits_on m g.D.Disk.is_known g.D.Disk.byte_at g.D.Disk.surely_lies g.D.Disk.faults c.args.self.now.core c.loop.self.core c.flush_all.new.self.core c.args.self.now.disk c.loop.self.disk c.flush_all.new.self.disk c.loop.invariant.0 c.flush_all.ensures.waited

pub loop-preserved : goal.loop-preserved
loop-preserved g c =
    let m = meaning g.K.Code.encoding g.V.Code.encoding g.K.Code.is_encodable g.V.Code.is_encodable g.K.Code.is_decodable g.V.Code.is_decodable g.P.Properties.age in (
      waits_on m g.D.Disk.is_known g.D.Disk.byte_at g.D.Disk.surely_lies g.D.Disk.faults c.args.self.now.core c.loop.self.core c.flush_all.new.self.core c.args.self.now.disk c.loop.self.disk c.flush_all.new.self.disk c.loop.invariant.0 c.flush_all.ensures.waited,
      any_then m (Without c.loop.self.env.reinsertion LeavesAllIdle) c.args.self.now.core c.loop.self.core c.flush_all.new.self.core c.loop.invariant.1 c.in_ok-flush_all.ensures.leads,
      c.flush_all.ensures.lent ∙ c.loop.invariant.2,
      c.flush_all.ensures.io ∙ c.loop.invariant.3,
      c.flush_all.ensures.hasher ∙ c.loop.invariant.4,
      lies_more g.D.Disk.surely_lies g.D.Disk.faults c.args.self.now.disk c.loop.self.disk c.flush_all.new.self.disk c.loop.invariant.5 c.flush_all.ensures.counts,
    )

pub returns-clause-waited : goal.returns-clause-waited
returns-clause-waited g c = c.loop.invariant.0

pub returns-then-is_at_rest-clause-lent : goal.returns-then-is_at_rest-clause-lent
returns-then-is_at_rest-clause-lent g c = (c.flush_all.ensures.lent ∙ c.loop.invariant.2, c.flush_all.ensures.io ∙ c.loop.invariant.3)

pub returns-clause-lent : goal.returns-clause-lent
returns-clause-lent g c = (c.loop.invariant.2, c.loop.invariant.3)

pub returns-clause-hasher : goal.returns-clause-hasher
returns-clause-hasher g c = c.loop.invariant.4

pub returns-in_err-flush_all-clause-counts : goal.returns-in_err-flush_all-clause-counts
returns-in_err-flush_all-clause-counts g c = lies_more g.D.Disk.surely_lies g.D.Disk.faults c.args.self.now.disk c.loop.self.disk c.flush_all.new.self.disk c.loop.invariant.5 c.flush_all.ensures.counts

pub returns-then-is_at_rest-clause-counts : goal.returns-then-is_at_rest-clause-counts
returns-then-is_at_rest-clause-counts g c = lies_more g.D.Disk.surely_lies g.D.Disk.faults c.args.self.now.disk c.loop.self.disk c.flush_all.new.self.disk c.loop.invariant.5 c.flush_all.ensures.counts

pub returns-clause-counts : goal.returns-clause-counts
returns-clause-counts g c = c.loop.invariant.5

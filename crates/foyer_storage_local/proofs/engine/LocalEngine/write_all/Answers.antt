use Rattle.std.proofs.Common.{refl, ◌∙◌}
use Rattle.foyer_core_run.specs.AtRest.{KeepsOthersIdle}
use Rattle.foyer_core_run.proofs.RestLemmas.{leads_none}
use Rattle.foyer_core_laws.specs.Content.{meaning}
use Rattle.foyer_storage_local.proofs.LocalRuns.{lies_more, lies_none, others_more, waits_here, waits_on}
use Rattle.foyer_storage_local.proofs.engine.LocalEngine.write_all.Goals as goal

pub loop-init : goal.loop-init
loop-init g c =
    let m = meaning g.K.Code.encoding g.V.Code.encoding g.K.Code.is_encodable g.V.Code.is_encodable g.K.Code.is_decodable g.V.Code.is_decodable g.P.Properties.age in (
      waits_here m g.D.Disk.is_known g.D.Disk.byte_at g.D.Disk.surely_lies g.D.Disk.faults c.args.self.now.core c.args.self.now.disk,
      leads_none m (KeepsOthersIdle c.args.self.now.env.reinsertion c.args.flusher) c.args.self.now.core (λ it none f ne idle. idle),
      refl,
      refl,
      refl,
      lies_none g.D.Disk.surely_lies g.D.Disk.faults c.args.self.now.disk,
    )

pub returns-in_err-write_next-clause-waited : goal.returns-in_err-write_next-clause-waited
returns-in_err-write_next-clause-waited g c =
    let m = meaning g.K.Code.encoding g.V.Code.encoding g.K.Code.is_encodable g.V.Code.is_encodable g.K.Code.is_decodable g.V.Code.is_decodable g.P.Properties.age in
    waits_on m g.D.Disk.is_known g.D.Disk.byte_at g.D.Disk.surely_lies g.D.Disk.faults c.args.self.now.core c.loop.self.core c.write_next.new.self.core c.args.self.now.disk c.loop.self.disk c.write_next.new.self.disk c.loop.invariant.0 c.write_next.ensures.waited

pub returns-then-not-branch-clause-leads : goal.returns-then-not-branch-clause-leads
returns-then-not-branch-clause-leads g c =
    let m = meaning g.K.Code.encoding g.V.Code.encoding g.K.Code.is_encodable g.V.Code.is_encodable g.K.Code.is_decodable g.V.Code.is_decodable g.P.Properties.age in
    others_more m c.args.self.now.env.reinsertion c.loop.self.env.reinsertion c.loop.invariant.2 c.args.flusher c.args.self.now.core c.loop.self.core c.write_next.new.self.core c.loop.invariant.1 c.write_next.ensures.leads

pub returns-then-not-branch-clause-waited : goal.returns-then-not-branch-clause-waited
returns-then-not-branch-clause-waited g c =
    let m = meaning g.K.Code.encoding g.V.Code.encoding g.K.Code.is_encodable g.V.Code.is_encodable g.K.Code.is_decodable g.V.Code.is_decodable g.P.Properties.age in
    waits_on m g.D.Disk.is_known g.D.Disk.byte_at g.D.Disk.surely_lies g.D.Disk.faults c.args.self.now.core c.loop.self.core c.write_next.new.self.core c.args.self.now.disk c.loop.self.disk c.write_next.new.self.disk c.loop.invariant.0 c.write_next.ensures.waited

pub loop-preserved : goal.loop-preserved
loop-preserved g c =
    let m = meaning g.K.Code.encoding g.V.Code.encoding g.K.Code.is_encodable g.V.Code.is_encodable g.K.Code.is_decodable g.V.Code.is_decodable g.P.Properties.age in (
      waits_on m g.D.Disk.is_known g.D.Disk.byte_at g.D.Disk.surely_lies g.D.Disk.faults c.args.self.now.core c.loop.self.core c.write_next.new.self.core c.args.self.now.disk c.loop.self.disk c.write_next.new.self.disk c.loop.invariant.0 c.write_next.ensures.waited,
      others_more m c.args.self.now.env.reinsertion c.loop.self.env.reinsertion c.loop.invariant.2 c.args.flusher c.args.self.now.core c.loop.self.core c.write_next.new.self.core c.loop.invariant.1 c.write_next.ensures.leads,
      c.write_next.ensures.lent ∙ c.loop.invariant.2,
      c.write_next.ensures.io ∙ c.loop.invariant.3,
      c.write_next.ensures.hasher ∙ c.loop.invariant.4,
      lies_more g.D.Disk.surely_lies g.D.Disk.faults c.args.self.now.disk c.loop.self.disk c.write_next.new.self.disk c.loop.invariant.5 c.write_next.ensures.counts,
    )

pub returns-clause-waited : goal.returns-clause-waited
returns-clause-waited g c = c.loop.invariant.0

pub returns-clause-lent : goal.returns-clause-lent
returns-clause-lent g c = c.loop.invariant.2

pub returns-clause-io : goal.returns-clause-io
returns-clause-io g c = c.loop.invariant.3

pub returns-clause-hasher : goal.returns-clause-hasher
returns-clause-hasher g c = c.loop.invariant.4

pub returns-in_err-write_next-clause-counts : goal.returns-in_err-write_next-clause-counts
returns-in_err-write_next-clause-counts g c = lies_more g.D.Disk.surely_lies g.D.Disk.faults c.args.self.now.disk c.loop.self.disk c.write_next.new.self.disk c.loop.invariant.5 c.write_next.ensures.counts

pub returns-then-not-branch-clause-counts : goal.returns-then-not-branch-clause-counts
returns-then-not-branch-clause-counts g c = lies_more g.D.Disk.surely_lies g.D.Disk.faults c.args.self.now.disk c.loop.self.disk c.write_next.new.self.disk c.loop.invariant.5 c.write_next.ensures.counts

pub returns-clause-counts : goal.returns-clause-counts
returns-clause-counts g c = c.loop.invariant.5

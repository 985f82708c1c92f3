use Rattle.std.proofs.Common.{refl, ◌∙◌}
use Rattle.foyer_core_run.specs.Waiting.{AllSteps, IsWaiting}
use Rattle.foyer_core_laws.specs.Content.{meaning}
use Rattle.foyer_storage_local.proofs.LocalRuns.{leads_by, lies_more, lies_none, rests, waits_here, waits_on}
use Rattle.foyer_storage_local.proofs.engine.LocalEngine.wait.Goals as goal

pub loop-init : goal.loop-init
loop-init g c =
    let m = meaning g.K.Code.encoding g.V.Code.encoding g.K.Code.is_encodable g.V.Code.is_encodable g.K.Code.is_decodable g.V.Code.is_decodable g.P.Properties.age in
    (waits_here m g.D.Disk.is_known g.D.Disk.byte_at g.D.Disk.surely_lies g.D.Disk.faults c.args.self.now.core c.args.self.now.disk, refl, refl, refl, lies_none g.D.Disk.surely_lies g.D.Disk.faults c.args.self.now.disk)

pub returns-in_err-settle-clause-honest : goal.returns-in_err-settle-clause-honest
returns-in_err-settle-clause-honest g c =
    let m = meaning g.K.Code.encoding g.V.Code.encoding g.K.Code.is_encodable g.V.Code.is_encodable g.K.Code.is_decodable g.V.Code.is_decodable g.P.Properties.age in
    let waits = waits_on m g.D.Disk.is_known g.D.Disk.byte_at g.D.Disk.surely_lies g.D.Disk.faults c.args.self.now.core c.loop.self.core c.settle.new.self.core c.args.self.now.disk c.loop.self.disk c.settle.new.self.disk c.loop.invariant.0 c.settle.ensures.waited in
    λ known. (waits.1 known).1

pub returns-in_err-settle-clause-waited : goal.returns-in_err-settle-clause-waited
returns-in_err-settle-clause-waited g c =
    let m = meaning g.K.Code.encoding g.V.Code.encoding g.K.Code.is_encodable g.V.Code.is_encodable g.K.Code.is_decodable g.V.Code.is_decodable g.P.Properties.age in
    let waits = waits_on m g.D.Disk.is_known g.D.Disk.byte_at g.D.Disk.surely_lies g.D.Disk.faults c.args.self.now.core c.loop.self.core c.settle.new.self.core c.args.self.now.disk c.loop.self.disk c.settle.new.self.disk c.loop.invariant.0 c.settle.ensures.waited in
    leads_by m g.D.Disk.is_known g.D.Disk.byte_at g.D.Disk.surely_lies g.D.Disk.faults (AllSteps IsWaiting) c.args.self.now.core c.args.self.now.disk c.settle.new.self.core c.settle.new.self.disk waits

pub returns-in_err-settle-clause-lent : goal.returns-in_err-settle-clause-lent
returns-in_err-settle-clause-lent g c = (c.settle.ensures.lent.0 ∙ c.loop.invariant.1, c.settle.ensures.lent.1 ∙ c.loop.invariant.2)

pub returns-then-is_at_rest-clause-rest : goal.returns-then-is_at_rest-clause-rest
returns-then-is_at_rest-clause-rest g c =
    let m = meaning g.K.Code.encoding g.V.Code.encoding g.K.Code.is_encodable g.V.Code.is_encodable g.K.Code.is_decodable g.V.Code.is_decodable g.P.Properties.age in
    rests m c.args.self.now.core c.keep_clean.new.self.core (c.is_at_rest.ensures c.if-is_at_rest.true)

pub returns-then-is_at_rest-clause-honest : goal.returns-then-is_at_rest-clause-honest
returns-then-is_at_rest-clause-honest g c =
    let m = meaning g.K.Code.encoding g.V.Code.encoding g.K.Code.is_encodable g.V.Code.is_encodable g.K.Code.is_decodable g.V.Code.is_decodable g.P.Properties.age in
    let settled = waits_on m g.D.Disk.is_known g.D.Disk.byte_at g.D.Disk.surely_lies g.D.Disk.faults c.args.self.now.core c.loop.self.core c.settle.new.self.core c.args.self.now.disk c.loop.self.disk c.settle.new.self.disk c.loop.invariant.0 c.settle.ensures.waited in
    let waits = waits_on m g.D.Disk.is_known g.D.Disk.byte_at g.D.Disk.surely_lies g.D.Disk.faults c.args.self.now.core c.settle.new.self.core c.keep_clean.new.self.core c.args.self.now.disk c.settle.new.self.disk c.keep_clean.new.self.disk settled c.keep_clean.ensures.waited in
    λ known. (waits.1 known).1

pub returns-then-is_at_rest-clause-waited : goal.returns-then-is_at_rest-clause-waited
returns-then-is_at_rest-clause-waited g c =
    let m = meaning g.K.Code.encoding g.V.Code.encoding g.K.Code.is_encodable g.V.Code.is_encodable g.K.Code.is_decodable g.V.Code.is_decodable g.P.Properties.age in
    let settled = waits_on m g.D.Disk.is_known g.D.Disk.byte_at g.D.Disk.surely_lies g.D.Disk.faults c.args.self.now.core c.loop.self.core c.settle.new.self.core c.args.self.now.disk c.loop.self.disk c.settle.new.self.disk c.loop.invariant.0 c.settle.ensures.waited in
    let waits = waits_on m g.D.Disk.is_known g.D.Disk.byte_at g.D.Disk.surely_lies g.D.Disk.faults c.args.self.now.core c.settle.new.self.core c.keep_clean.new.self.core c.args.self.now.disk c.settle.new.self.disk c.keep_clean.new.self.disk settled c.keep_clean.ensures.waited in
    leads_by m g.D.Disk.is_known g.D.Disk.byte_at g.D.Disk.surely_lies g.D.Disk.faults (AllSteps IsWaiting) c.args.self.now.core c.args.self.now.disk c.keep_clean.new.self.core c.keep_clean.new.self.disk waits

pub loop-preserved : goal.loop-preserved
loop-preserved g c =
    let m = meaning g.K.Code.encoding g.V.Code.encoding g.K.Code.is_encodable g.V.Code.is_encodable g.K.Code.is_decodable g.V.Code.is_decodable g.P.Properties.age in
    let settled = waits_on m g.D.Disk.is_known g.D.Disk.byte_at g.D.Disk.surely_lies g.D.Disk.faults c.args.self.now.core c.loop.self.core c.settle.new.self.core c.args.self.now.disk c.loop.self.disk c.settle.new.self.disk c.loop.invariant.0 c.settle.ensures.waited in (
      waits_on m g.D.Disk.is_known g.D.Disk.byte_at g.D.Disk.surely_lies g.D.Disk.faults c.args.self.now.core c.settle.new.self.core c.keep_clean.new.self.core c.args.self.now.disk c.settle.new.self.disk c.keep_clean.new.self.disk settled c.keep_clean.ensures.waited,
      c.keep_clean.ensures.lent.0 ∙ c.settle.ensures.lent.0 ∙ c.loop.invariant.1,
      c.keep_clean.ensures.lent.1 ∙ c.settle.ensures.lent.1 ∙ c.loop.invariant.2,
      c.keep_clean.ensures.hasher ∙ c.settle.ensures.hasher ∙ c.loop.invariant.3,
      lies_more g.D.Disk.surely_lies g.D.Disk.faults c.args.self.now.disk c.settle.new.self.disk c.keep_clean.new.self.disk (lies_more g.D.Disk.surely_lies g.D.Disk.faults c.args.self.now.disk c.loop.self.disk c.settle.new.self.disk c.loop.invariant.4 c.settle.ensures.counts) c.keep_clean.ensures.counts,
    )

pub returns-clause-honest : goal.returns-clause-honest
returns-clause-honest g c = λ known. ((c.loop.invariant.0).1 known).1

pub returns-clause-waited : goal.returns-clause-waited
returns-clause-waited g c =
    let m = meaning g.K.Code.encoding g.V.Code.encoding g.K.Code.is_encodable g.V.Code.is_encodable g.K.Code.is_decodable g.V.Code.is_decodable g.P.Properties.age in
    leads_by m g.D.Disk.is_known g.D.Disk.byte_at g.D.Disk.surely_lies g.D.Disk.faults (AllSteps IsWaiting) c.args.self.now.core c.args.self.now.disk c.loop.self.core c.loop.self.disk c.loop.invariant.0

pub returns-then-is_at_rest-clause-lent : goal.returns-then-is_at_rest-clause-lent
returns-then-is_at_rest-clause-lent g c = (
  c.keep_clean.ensures.lent.0 ∙ c.settle.ensures.lent.0 ∙ c.loop.invariant.1,
  c.keep_clean.ensures.lent.1 ∙ c.settle.ensures.lent.1 ∙ c.loop.invariant.2,
)

pub returns-clause-lent : goal.returns-clause-lent
returns-clause-lent g c = (c.loop.invariant.1, c.loop.invariant.2)

pub returns-clause-hasher : goal.returns-clause-hasher
returns-clause-hasher g c = c.loop.invariant.3

pub returns-in_err-settle-clause-lies : goal.returns-in_err-settle-clause-lies
returns-in_err-settle-clause-lies g c = (lies_more g.D.Disk.surely_lies g.D.Disk.faults c.args.self.now.disk c.loop.self.disk c.settle.new.self.disk c.loop.invariant.4 c.settle.ensures.counts).0

pub returns-then-is_at_rest-clause-lies : goal.returns-then-is_at_rest-clause-lies
returns-then-is_at_rest-clause-lies g c = (lies_more g.D.Disk.surely_lies g.D.Disk.faults c.args.self.now.disk c.settle.new.self.disk c.keep_clean.new.self.disk (lies_more g.D.Disk.surely_lies g.D.Disk.faults c.args.self.now.disk c.loop.self.disk c.settle.new.self.disk c.loop.invariant.4 c.settle.ensures.counts) c.keep_clean.ensures.counts).0

pub returns-clause-lies : goal.returns-clause-lies
returns-clause-lies g c = (c.loop.invariant.4).0

pub returns-in_err-settle-clause-counted : goal.returns-in_err-settle-clause-counted
returns-in_err-settle-clause-counted g c = (lies_more g.D.Disk.surely_lies g.D.Disk.faults c.args.self.now.disk c.loop.self.disk c.settle.new.self.disk c.loop.invariant.4 c.settle.ensures.counts).1

pub returns-then-is_at_rest-clause-counted : goal.returns-then-is_at_rest-clause-counted
returns-then-is_at_rest-clause-counted g c = (lies_more g.D.Disk.surely_lies g.D.Disk.faults c.args.self.now.disk c.settle.new.self.disk c.keep_clean.new.self.disk (lies_more g.D.Disk.surely_lies g.D.Disk.faults c.args.self.now.disk c.loop.self.disk c.settle.new.self.disk c.loop.invariant.4 c.settle.ensures.counts) c.keep_clean.ensures.counts).1

pub returns-clause-counted : goal.returns-clause-counted
returns-clause-counted g c = (c.loop.invariant.4).1

use Rattle.std.proofs.Common.{◌≡◌, ◌+◌, refl, sym, ap, subst, ◌∙◌, arith}
use Rattle.foyer_core_run.specs.AtRest.{Leads, LeavesIdle, LeavesIdleBelow}
use Rattle.foyer_core_run.proofs.IdleLemmas.{still_idle}
use Rattle.foyer_storage_local.proofs.LocalRuns.{left_alone, lies_more, lies_none, waits_here, waits_on}
use Rattle.foyer_core_run.proofs.RestLemmas.{all_idle, flusher_more, leads_none}
use Rattle.foyer_core_laws.specs.Content.{meaning}
use Rattle.foyer_storage_local.proofs.engine.LocalEngine.flush_all.Goals as goal

pub loop-flusher-init : goal.loop-flusher-init
loop-flusher-init g c =
    let m = meaning g.K.Code.encoding g.V.Code.encoding g.K.Code.is_encodable g.V.Code.is_encodable g.K.Code.is_decodable g.V.Code.is_decodable g.P.Properties.age in (
      waits_here m g.D.Disk.is_known g.D.Disk.byte_at g.D.Disk.surely_lies g.D.Disk.faults c.args.self.now.core c.args.self.now.disk,
      leads_none m (LeavesIdleBelow c.args.self.now.env.reinsertion 0) c.args.self.now.core (λ it none f below. absurd (omega (arith, below))),
      refl,
      refl,
      refl,
      lies_none g.D.Disk.surely_lies g.D.Disk.faults c.args.self.now.disk,
    )

pub returns-in_err-flush-clause-waited : goal.returns-in_err-flush-clause-waited
returns-in_err-flush-clause-waited g c =
    let m = meaning g.K.Code.encoding g.V.Code.encoding g.K.Code.is_encodable g.V.Code.is_encodable g.K.Code.is_decodable g.V.Code.is_decodable g.P.Properties.age in
    waits_on m g.D.Disk.is_known g.D.Disk.byte_at g.D.Disk.surely_lies g.D.Disk.faults c.args.self.now.core c.loop-flusher.self.core c.flush.new.self.core c.args.self.now.disk c.loop-flusher.self.disk c.flush.new.self.disk c.loop-flusher.invariant.0 (c.flush.ensures.waited)

pub loop-flusher-preserved : goal.loop-flusher-preserved
loop-flusher-preserved g c =
    let m = meaning g.K.Code.encoding g.V.Code.encoding g.K.Code.is_encodable g.V.Code.is_encodable g.K.Code.is_decodable g.V.Code.is_decodable g.P.Properties.age in (
      waits_on m g.D.Disk.is_known g.D.Disk.byte_at g.D.Disk.surely_lies g.D.Disk.faults c.args.self.now.core c.loop-flusher.self.core c.flush.new.self.core c.args.self.now.disk c.loop-flusher.self.disk c.flush.new.self.disk c.loop-flusher.invariant.0 (c.flush.ensures.waited),
      flusher_more m c.loop-flusher.flusher c.args.self.now.core c.loop-flusher.self.core c.flush.new.self.core c.args.self.now.env.reinsertion (c.loop-flusher.flusher + 1) refl c.loop-flusher.invariant.1
          (subst (λ k. Leads m (LeavesIdle k c.loop-flusher.flusher) c.loop-flusher.self.core c.flush.new.self.core) c.loop-flusher.invariant.2 c.in_ok-flush.ensures.leads),
      c.flush.ensures.lent ∙ c.loop-flusher.invariant.2,
      c.flush.ensures.io ∙ c.loop-flusher.invariant.3,
      c.flush.ensures.hasher ∙ c.loop-flusher.invariant.4,
      lies_more g.D.Disk.surely_lies g.D.Disk.faults c.args.self.now.disk c.loop-flusher.self.disk c.flush.new.self.disk c.loop-flusher.invariant.5 c.flush.ensures.counts,
    )

pub loop-flusher-preserved-then-is_idle : goal.loop-flusher-preserved-then-is_idle
loop-flusher-preserved-then-is_idle g c =
    let m = meaning g.K.Code.encoding g.V.Code.encoding g.K.Code.is_encodable g.V.Code.is_encodable g.K.Code.is_decodable g.V.Code.is_decodable g.P.Properties.age in (
      c.loop-flusher.invariant.0,
      flusher_more m c.loop-flusher.flusher c.args.self.now.core c.loop-flusher.self.core c.loop-flusher.self.core c.args.self.now.env.reinsertion (c.loop-flusher.flusher + 1) refl c.loop-flusher.invariant.1
          (left_alone m c.args.self.now.env.reinsertion c.loop-flusher.flusher c.loop-flusher.self.core (still_idle m c.loop-flusher.self.core c.loop-flusher.flusher (λ found lt at. sym (c.is_idle.ensures.there found lt at) ∙ c.if-is_idle.true))),
      c.loop-flusher.invariant.2,
      c.loop-flusher.invariant.3,
      c.loop-flusher.invariant.4,
      c.loop-flusher.invariant.5,
    )

pub returns-clause-leads : goal.returns-clause-leads
returns-clause-leads g c =
    let m = meaning g.K.Code.encoding g.V.Code.encoding g.K.Code.is_encodable g.V.Code.is_encodable g.K.Code.is_decodable g.V.Code.is_decodable g.P.Properties.age in
    let counted : c.settings-flusher-end.result.flushers ≡ c.args.self.now.core.settings.flushers = ap (λ s. s.flushers) c.settings-flusher-end.ensures in
    let all : c.loop-flusher.flusher ≡ c.args.self.now.core.settings.flushers = omega (arith, counted, c.loop-flusher-test.false, c.loop-flusher.auto.flusher-end) in
    all_idle m c.args.self.now.env.reinsertion c.args.self.now.core c.loop-flusher.self.core c.loop-flusher.flusher all c.loop-flusher.invariant.1

pub returns-clause-waited : goal.returns-clause-waited
returns-clause-waited g c =
    c.loop-flusher.invariant.0

pub returns-clause-lent : goal.returns-clause-lent
returns-clause-lent g c = c.loop-flusher.invariant.2

pub returns-clause-io : goal.returns-clause-io
returns-clause-io g c = c.loop-flusher.invariant.3

pub returns-clause-hasher : goal.returns-clause-hasher
returns-clause-hasher g c = c.loop-flusher.invariant.4

pub returns-in_err-flush-clause-counts : goal.returns-in_err-flush-clause-counts
returns-in_err-flush-clause-counts g c = lies_more g.D.Disk.surely_lies g.D.Disk.faults c.args.self.now.disk c.loop-flusher.self.disk c.flush.new.self.disk c.loop-flusher.invariant.5 c.flush.ensures.counts

pub returns-clause-counts : goal.returns-clause-counts
returns-clause-counts g c = c.loop-flusher.invariant.5

use Rattle.std.proofs.Common.{◌≡◌, ◌<◌, refl, ap, subst, ◌∙◌, arith}
use Rattle.foyer_core_laws.specs.Content.{meaning}
use Rattle.foyer_core_model.specs.Numbers.{page}
use Rattle.foyer_core_steps.specs.Refines.{Refines}
use Rattle.foyer_core_steps.specs.declared.step.Step.TheVariants as step
use Rattle.foyer_core_run.specs.Causes.{HasCome}
use Rattle.foyer_core_run.proofs.CauseLemmas.{come_before, come_behind}
use Rattle.foyer_core_run.proofs.DestroyRuns.{clears_all, clears_first, clears_more, clears_nothing}
use Rattle.foyer_storage_local.specs.EntryCalls.{IsCleanFault}
use Rattle.foyer_storage_local.proofs.LocalAnswers.{fault_more}
use Rattle.foyer_storage_local.proofs.LocalRuns.{lies_more, lies_none}
use Rattle.foyer_storage_local.proofs.engine.LocalEngine.clear_blocks.Goals as goal

pub returns-in_default : goal.returns-in_default
returns-in_default g c =
    let m = meaning g.K.Code.encoding g.V.Code.encoding g.K.Code.is_encodable g.V.Code.is_encodable g.K.Code.is_decodable g.V.Code.is_decodable g.P.Properties.age in
    record {
      clears = λ known. tt;
      kept = clears_nothing m c.apply.result c.args.self.now.core c.apply.new.self (g.D.Disk.byte_at c.args.self.now.disk) c.apply.ensures.meets;
      known = λ known. known;
      fault = tt;
      lent = c.apply.ensures.lent;
      hasher = refl;
      counts = lies_none g.D.Disk.surely_lies g.D.Disk.faults c.args.self.now.disk;
    }

pub each_block-init : goal.each_block-init
each_block-init g c =
    let m = meaning g.K.Code.encoding g.V.Code.encoding g.K.Code.is_encodable g.V.Code.is_encodable g.K.Code.is_decodable g.V.Code.is_decodable g.P.Properties.age in
    record {
      clears = λ known. clears_first m (HasCome g.D.Disk.surely_lies g.D.Disk.faults c.args.self.now.disk c.args.self.now.disk) c.args.self.now.core c.apply.new.self (g.D.Disk.byte_at c.args.self.now.disk)
          (subst (λ r. Refines m step.DestroyClear r c.args.self.now.core c.apply.new.self) c.in-Cleared.is c.apply.ensures.meets);
      known = λ known. known;
      fault = tt;
      lent = c.apply.ensures.lent;
      hasher = refl;
      counts = lies_none g.D.Disk.surely_lies g.D.Disk.faults c.args.self.now.disk;
    }

pub each_block-preserved : goal.each_block-preserved
each_block-preserved g c =
    let m = meaning g.K.Code.encoding g.V.Code.encoding g.K.Code.is_encodable g.V.Code.is_encodable g.K.Code.is_decodable g.V.Code.is_decodable g.P.Properties.age in
    let lies = g.D.Disk.surely_lies in
    let faults = g.D.Disk.faults in
    let may = g.D.Disk.may_answer in
    let same : c.settings-blocks.result.blocks ≡ c.args.self.now.core.settings.blocks = ap (λ s. s.blocks) c.settings-blocks.ensures in
    let there : c.each_block.block < c.args.self.now.core.settings.blocks = omega (arith, c.each_block-test.true, same) in
    record {
      clears = λ known. clears_more m (HasCome lies faults c.args.self.now.disk c.clean-reply.new.self.disk) (HasCome lies faults c.args.self.now.disk c.each_block.self.disk)
          (HasCome lies faults c.each_block.self.disk c.clean-reply.new.self.disk)
          (come_before lies faults c.args.self.now.disk c.each_block.self.disk c.clean-reply.new.self.disk (c.each_block.invariant.counts).1 (c.clean-reply.ensures.counts).1)
          (come_behind lies faults c.args.self.now.disk c.each_block.self.disk c.clean-reply.new.self.disk (c.each_block.invariant.counts).1 (c.clean-reply.ensures.counts).1 (c.each_block.invariant.counts).0)
          c.each_block.block c.each_block.last c.clean-reply.result.0 c.args.self.now.core c.each_block.self.core c.clean-reply.new.self.core
          (g.D.Disk.byte_at c.args.self.now.disk) (g.D.Disk.byte_at c.each_block.self.disk) (g.D.Disk.byte_at c.clean-reply.new.self.disk) there
          (c.each_block.invariant.clears known) (c.clean-reply.ensures.cleans (c.each_block.invariant.known known));
      known = λ known. c.clean-reply.ensures.known (c.each_block.invariant.known known);
      fault = fault_more c.each_block.first c.clean-reply.result.1 (IsCleanFault lies faults may c.args.self.now.disk) (may c.each_block.self.disk c.each_block.block 0 page)
          (λ e answers. record { disk = c.each_block.self.disk; block = c.each_block.block; keeps = c.each_block.invariant.counts; answers = answers })
          c.each_block.invariant.fault c.clean-reply.ensures.fault;
      lent = (c.clean-reply.ensures.lent.0 ∙ c.each_block.invariant.lent.0, c.clean-reply.ensures.lent.1 ∙ c.each_block.invariant.lent.1);
      hasher = c.clean-reply.ensures.hasher ∙ c.each_block.invariant.hasher;
      counts = lies_more lies faults c.args.self.now.disk c.each_block.self.disk c.clean-reply.new.self.disk c.each_block.invariant.counts c.clean-reply.ensures.counts;
    }

pub returns-clause-clears : goal.returns-clause-clears
returns-clause-clears g c = λ known.
    let m = meaning g.K.Code.encoding g.V.Code.encoding g.K.Code.is_encodable g.V.Code.is_encodable g.K.Code.is_decodable g.V.Code.is_decodable g.P.Properties.age in
    let same : c.settings-blocks.result.blocks ≡ c.args.self.now.core.settings.blocks = ap (λ s. s.blocks) c.settings-blocks.ensures in
    let all : c.each_block.block ≡ c.args.self.now.core.settings.blocks = omega (arith, same, c.each_block-test.false, c.each_block.auto.block-end) in
    clears_all m (HasCome g.D.Disk.surely_lies g.D.Disk.faults c.args.self.now.disk c.each_block.self.disk) c.each_block.block c.args.self.now.core.settings.blocks c.each_block.last c.args.self.now.core c.each_block.self.core (g.D.Disk.byte_at c.args.self.now.disk) (g.D.Disk.byte_at c.each_block.self.disk) all
    (c.each_block.invariant.clears known)

pub returns-clause-known : goal.returns-clause-known
returns-clause-known g c = c.each_block.invariant.known

pub returns-clause-fault : goal.returns-clause-fault
returns-clause-fault g c = c.each_block.invariant.fault

pub returns-clause-lent : goal.returns-clause-lent
returns-clause-lent g c = c.each_block.invariant.lent

pub returns-clause-hasher : goal.returns-clause-hasher
returns-clause-hasher g c = c.each_block.invariant.hasher

pub returns-clause-counts : goal.returns-clause-counts
returns-clause-counts g c = c.each_block.invariant.counts

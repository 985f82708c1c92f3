use Rattle.std.proofs.Common.{◌≡◌, ◌<◌, ap, subst, ◌∙◌, arith}
use Rattle.foyer_core_laws.specs.Content.{meaning}
use Rattle.foyer_core_steps.specs.Refines.{Refines}
use Rattle.foyer_core_steps.specs.declared.step.Step.TheVariants as step
use Rattle.foyer_core_run.specs.Causes.{HasCome}
use Rattle.foyer_core_run.specs.Destroys.{IsClearing}
use Rattle.foyer_core_run.proofs.CauseLemmas.{cause_drives, come_before, come_behind}
use Rattle.foyer_core_run.proofs.DestroyRuns.{clears_all, clears_first, clears_more, clears_nothing}
use Rattle.foyer_core_run.proofs.destroys.clear_blocks.Goals as goal

pub returns-in_default : goal.returns-in_default
returns-in_default g c =
    let m = meaning g.K.Code.encoding g.V.Code.encoding g.K.Code.is_encodable g.V.Code.is_encodable g.K.Code.is_decodable g.V.Code.is_decodable g.P.Properties.age in
    record {
      clears = λ known. tt;
      honest = λ known. tt;
      kept = clears_nothing m c.apply.result c.args.core.now c.apply.new.self (g.D.Disk.byte_at c.args.disk.now) c.apply.ensures.meets;
      known = λ known. known;
      lies = λ b o n h. h;
      counted = omega arith;
      lent = c.apply.ensures.lent;
    }

pub each_block-init : goal.each_block-init
each_block-init g c =
    let m = meaning g.K.Code.encoding g.V.Code.encoding g.K.Code.is_encodable g.V.Code.is_encodable g.K.Code.is_decodable g.V.Code.is_decodable g.P.Properties.age in
    record {
      lent = c.apply.ensures.lent;
      known = λ known. known;
      lies = λ b o n h. h;
      counted = omega arith;
      clears = λ known. clears_first m (HasCome g.D.Disk.surely_lies g.D.Disk.faults c.args.disk.now c.args.disk.now) c.args.core.now c.apply.new.self (g.D.Disk.byte_at c.args.disk.now)
          (subst (λ r. Refines m step.DestroyClear r c.args.core.now c.apply.new.self) c.in-Cleared.is c.apply.ensures.meets);
    }

pub each_block-preserved : goal.each_block-preserved
each_block-preserved g c =
    let m = meaning g.K.Code.encoding g.V.Code.encoding g.K.Code.is_encodable g.V.Code.is_encodable g.K.Code.is_decodable g.V.Code.is_decodable g.P.Properties.age in
    let same : c.settings-blocks.result.blocks ≡ c.args.core.now.settings.blocks = ap (λ s. s.blocks) c.settings-blocks.ensures in
    let lies = g.D.Disk.surely_lies in
    let faults = g.D.Disk.faults in
    let there : c.each_block.block < c.args.core.now.settings.blocks = omega (arith, c.each_block-test.true, same) in
    record {
      lent = (c.clean-last.ensures.lent.0 ∙ c.each_block.invariant.lent.0, c.clean-last.ensures.lent.1 ∙ c.each_block.invariant.lent.1);
      known = λ known. c.clean-last.ensures.known (c.each_block.invariant.known known);
      lies = λ b o n h. c.clean-last.ensures.lies b o n (c.each_block.invariant.lies b o n h);
      counted = omega (arith, c.each_block.invariant.counted, c.clean-last.ensures.counted);
      clears = λ known. clears_more m (HasCome lies faults c.args.disk.now c.clean-last.new.disk) (HasCome lies faults c.args.disk.now c.each_block.disk) (HasCome lies faults c.each_block.disk c.clean-last.new.disk)
          (come_before lies faults c.args.disk.now c.each_block.disk c.clean-last.new.disk c.each_block.invariant.counted c.clean-last.ensures.counted)
          (come_behind lies faults c.args.disk.now c.each_block.disk c.clean-last.new.disk c.each_block.invariant.counted c.clean-last.ensures.counted c.each_block.invariant.lies)
          c.each_block.block c.each_block.last c.clean-last.result c.args.core.now c.each_block.core c.clean-last.new.core
          (g.D.Disk.byte_at c.args.disk.now) (g.D.Disk.byte_at c.each_block.disk) (g.D.Disk.byte_at c.clean-last.new.disk) there
          (c.each_block.invariant.clears known) (c.clean-last.ensures.cleans (c.each_block.invariant.known known));
    }

pub returns-clause-honest : goal.returns-clause-honest
returns-clause-honest g c = λ known.
    let m = meaning g.K.Code.encoding g.V.Code.encoding g.K.Code.is_encodable g.V.Code.is_encodable g.K.Code.is_decodable g.V.Code.is_decodable g.P.Properties.age in
    let same : c.settings-blocks.result.blocks ≡ c.args.core.now.settings.blocks = ap (λ s. s.blocks) c.settings-blocks.ensures in
    let all : c.each_block.block ≡ c.args.core.now.settings.blocks = omega (arith, same, c.each_block-test.false, c.each_block.auto.block-end) in
    clears_all m (HasCome g.D.Disk.surely_lies g.D.Disk.faults c.args.disk.now c.each_block.disk) c.each_block.block c.args.core.now.settings.blocks c.each_block.last c.args.core.now c.each_block.core (g.D.Disk.byte_at c.args.disk.now) (g.D.Disk.byte_at c.each_block.disk) all
    (c.each_block.invariant.clears known)

pub returns-clause-clears : goal.returns-clause-clears
returns-clause-clears g c = λ known.
    let m = meaning g.K.Code.encoding g.V.Code.encoding g.K.Code.is_encodable g.V.Code.is_encodable g.K.Code.is_decodable g.V.Code.is_decodable g.P.Properties.age in
    cause_drives m (HasCome g.D.Disk.surely_lies g.D.Disk.faults c.args.disk.now c.each_block.disk) (IsClearing m c.args.core.now.settings.blocks c.each_block.last) c.args.core.now c.each_block.core
    (g.D.Disk.byte_at c.args.disk.now) (g.D.Disk.byte_at c.each_block.disk) (returns-clause-honest g c known)

pub returns-clause-known : goal.returns-clause-known
returns-clause-known g c = c.each_block.invariant.known

pub returns-clause-lent : goal.returns-clause-lent
returns-clause-lent g c = c.each_block.invariant.lent

pub returns-clause-lies : goal.returns-clause-lies
returns-clause-lies g c = c.each_block.invariant.lies

pub returns-clause-counted : goal.returns-clause-counted
returns-clause-counted g c = c.each_block.invariant.counted

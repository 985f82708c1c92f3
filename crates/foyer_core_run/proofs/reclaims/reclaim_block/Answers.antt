use Rattle.std.proofs.Common.{◌≡◌, refl, sym, ap, subst, ◌∙◌, arith}
use Rattle.foyer_core_laws.specs.Content.{meaning}
use Rattle.foyer_core_steps.specs.Asked.{went_well}
use Rattle.foyer_core_steps.specs.Refines.{Refines}
use Rattle.foyer_core_steps.specs.declared.step.Step.TheVariants as step
use Rattle.foyer_core_run.specs.AtRest.{KeepsIdle, Without}
use Rattle.foyer_core_model.specs.Numbers.{page}
use Rattle.foyer_core_run.specs.Causes.{DrivesForCause, HasCome}
use Rattle.foyer_core_run.specs.Reclaims.{IsReclaim}
use Rattle.foyer_core_access.specs.declared.reclaims.Part.{Part}
use Rattle.foyer_core_run.proofs.CauseLemmas.{cause_drives, come_behind}
use Rattle.foyer_core_run.proofs.FaultLists.{unsure_lying}
use Rattle.foyer_core_run.proofs.HonestLemmas.{unsure_behind}
use Rattle.foyer_core_run.proofs.ReclaimIdle.{begin_over, cleaned_over, forget_over, idle_kept, idle_more, over_behind, unread_picked}
use Rattle.foyer_core_run.proofs.ReclaimRuns.{IsCleanDone, clean_done, reclaims_kept, reclaims_none, reclaims_whole}
use Rattle.foyer_core_run.proofs.reclaims.reclaim_block.Goals as goal

pub returns-in_default : goal.returns-in_default
returns-in_default g c =
    let m = meaning g.K.Code.encoding g.V.Code.encoding g.K.Code.is_encodable g.V.Code.is_encodable g.K.Code.is_decodable g.V.Code.is_decodable g.P.Properties.age in
    let bytes = g.D.Disk.byte_at c.args.disk.now in record {
      reclaims = λ known.
          cause_drives m (λ b o n. ⊥) (IsReclaim m c.apply.result) c.args.core.now c.apply.new.self bytes bytes
          (reclaims_none m (λ b o n. ⊥) c.apply.result c.args.core.now c.apply.new.self bytes c.apply.ensures.meets);
      honest = λ known.
          reclaims_none m (HasCome g.D.Disk.surely_lies g.D.Disk.faults c.args.disk.now c.args.disk.now) c.apply.result c.args.core.now c.apply.new.self bytes c.apply.ensures.meets;
      ends = begin_over m c.apply.result c.args.core.now c.apply.new.self c.in_default.not-Picked c.apply.ensures.meets;
      leads = idle_kept m c.args.env.now.reinsertion step.ReclaimBegin c.apply.result c.args.core.now c.apply.new.self tt c.apply.ensures.meets;
      lent = c.apply.ensures.lent;
      known = λ known. known;
      lies = λ b o n h. h;
      counted = omega arith;
    }

pub returns-in_default-apply : goal.returns-in_default-apply
returns-in_default-apply g c =
    let m = meaning g.K.Code.encoding g.V.Code.encoding g.K.Code.is_encodable g.V.Code.is_encodable g.K.Code.is_decodable g.V.Code.is_decodable g.P.Properties.age in
    let bytes = g.D.Disk.byte_at c.args.disk.now in
    let b = c.in-Picked.block in
    let first : Part = record { offset = 0; len = c.settings.result.blob_index_size } in
    let begun = c.apply.new.self in
    let read = c.read_block.new.core in
    let begins = subst (λ r. Refines m step.ReclaimBegin r c.args.core.now begun) c.in-Picked.is c.apply.ensures.meets in
    let size : c.settings.result.blob_index_size ≡ begun.settings.blob_index_size = ap (λ k. k.blob_index_size) c.settings.ensures in
    let filter = c.args.env.now.reinsertion in
    let led = unread_picked m filter c.apply.new.env.reinsertion b c.in-Picked.answers c.in-Picked.probation c.args.core.now c.apply.new.self read c.apply.ensures.lent.0
    (subst (λ r. Refines m step.ReclaimBegin r c.args.core.now c.apply.new.self) c.in-Picked.is c.apply.ensures.meets) c.read_block.ensures.leads in
    let came = HasCome g.D.Disk.surely_lies g.D.Disk.faults c.args.disk.now c.read_block.new.disk in
    let drives = λ (known : g.D.Disk.is_known c.args.disk.now).
    subst (λ z. DrivesForCause came (IsReclaim m c.apply-2.result) m c.args.core.now c.apply-2.new.self bytes z) (sym c.read_block.ensures.same)
    (reclaims_kept m came b c.in-Picked.answers c.in-Picked.probation first refl c.args.core.now begun read size bytes begins (c.read_block.ensures.reads known)
    c.apply-2.result c.apply-2.new.self c.apply-2.ensures.meets) in
    record {
      reclaims = λ known.
          cause_drives m came (IsReclaim m c.apply-2.result) c.args.core.now c.apply-2.new.self bytes (g.D.Disk.byte_at c.read_block.new.disk) (drives known);
      honest = drives;
      ends = over_behind m (Without filter KeepsIdle) c.args.core.now read c.apply-2.result led (forget_over m b c.apply-2.result read c.apply-2.new.self c.in_default-apply.not-Clean c.apply-2.ensures.meets);
      leads = idle_more m filter c.args.core.now read c.apply-2.new.self led (idle_kept m filter (step.ReclaimForget b) c.apply-2.result read c.apply-2.new.self tt c.apply-2.ensures.meets);
      lent = (c.apply-2.ensures.lent.0 ∙ c.read_block.ensures.lent.0 ∙ c.apply.ensures.lent.0, c.apply-2.ensures.lent.1 ∙ c.read_block.ensures.lent.1 ∙ c.apply.ensures.lent.1);
      known = c.read_block.ensures.known;
      lies = c.read_block.ensures.lies;
      counted = c.read_block.ensures.counted;
    }

pub returns-clause-honest : goal.returns-clause-honest
returns-clause-honest g c = λ known.
    let m = meaning g.K.Code.encoding g.V.Code.encoding g.K.Code.is_encodable g.V.Code.is_encodable g.K.Code.is_decodable g.V.Code.is_decodable g.P.Properties.age in
    let bytes = g.D.Disk.byte_at c.args.disk.now in
    let b = c.in-Picked.block in
    let first : Part = record { offset = 0; len = c.settings.result.blob_index_size } in
    let begun = c.apply.new.self in
    let read = c.read_block.new.core in
    let begins = subst (λ r. Refines m step.ReclaimBegin r c.args.core.now begun) c.in-Picked.is c.apply.ensures.meets in
    let size : c.settings.result.blob_index_size ≡ begun.settings.blob_index_size = ap (λ k. k.blob_index_size) c.settings.ensures in
    let outcome = c.clean-cleaned.result in
    let after = g.D.Disk.byte_at c.clean-cleaned.new.disk in
    let still = c.read_block.ensures.known known in
    let lies = g.D.Disk.surely_lies in
    let faults = g.D.Disk.faults in
    let came = HasCome lies faults c.args.disk.now c.clean-cleaned.new.disk in
    reclaims_whole m came b c.in-Picked.answers c.in-Picked.probation first refl c.args.core.now begun read size bytes begins (c.read_block.ensures.reads known)
    c.in-Clean.field-0 outcome c.apply-3.result c.apply-2.new.self c.apply-3.new.self after
    (subst (λ r. Refines m (step.ReclaimForget b) r read c.apply-2.new.self) c.in-Clean.is c.apply-2.ensures.meets)
    (subst (λ z. IsCleanDone z after b (went_well outcome)) c.read_block.ensures.same
    (clean_done (g.D.Disk.byte_at c.read_block.new.disk) after b outcome (c.clean-cleaned.ensures.cleaned still) (c.clean-cleaned.ensures.torn still)))
    (unsure_behind outcome (come_behind lies faults c.args.disk.now c.read_block.new.disk c.clean-cleaned.new.disk c.read_block.ensures.counted c.clean-cleaned.ensures.counted c.read_block.ensures.lies) b 0 page
    (unsure_lying outcome (g.D.Disk.surely_has c.read_block.new.disk) lies faults c.read_block.new.disk c.clean-cleaned.new.disk b 0 page c.clean-cleaned.ensures.fails))
    c.apply-3.ensures.meets

pub returns-clause-reclaims : goal.returns-clause-reclaims
returns-clause-reclaims g c = λ known.
    let m = meaning g.K.Code.encoding g.V.Code.encoding g.K.Code.is_encodable g.V.Code.is_encodable g.K.Code.is_decodable g.V.Code.is_decodable g.P.Properties.age in
    cause_drives m (HasCome g.D.Disk.surely_lies g.D.Disk.faults c.args.disk.now c.clean-cleaned.new.disk) (IsReclaim m c.apply-3.result) c.args.core.now c.apply-3.new.self
    (g.D.Disk.byte_at c.args.disk.now) (g.D.Disk.byte_at c.clean-cleaned.new.disk) (returns-clause-honest g c known)

pub returns-clause-ends : goal.returns-clause-ends
returns-clause-ends g c =
    let m = meaning g.K.Code.encoding g.V.Code.encoding g.K.Code.is_encodable g.V.Code.is_encodable g.K.Code.is_decodable g.V.Code.is_decodable g.P.Properties.age in
    let b = c.in-Picked.block in
    let read = c.read_block.new.core in
    let filter = c.args.env.now.reinsertion in
    let led = unread_picked m filter c.apply.new.env.reinsertion b c.in-Picked.answers c.in-Picked.probation c.args.core.now c.apply.new.self read c.apply.ensures.lent.0
    (subst (λ r. Refines m step.ReclaimBegin r c.args.core.now c.apply.new.self) c.in-Picked.is c.apply.ensures.meets) c.read_block.ensures.leads in
    over_behind m (Without filter KeepsIdle) c.args.core.now c.apply-2.new.self c.apply-3.result
    (idle_more m filter c.args.core.now read c.apply-2.new.self led (idle_kept m filter (step.ReclaimForget b) c.apply-2.result read c.apply-2.new.self tt c.apply-2.ensures.meets))
    (cleaned_over m b c.clean-cleaned.result c.apply-3.result c.apply-2.new.self c.apply-3.new.self c.apply-3.ensures.meets)

pub returns-clause-leads : goal.returns-clause-leads
returns-clause-leads g c =
    let m = meaning g.K.Code.encoding g.V.Code.encoding g.K.Code.is_encodable g.V.Code.is_encodable g.K.Code.is_decodable g.V.Code.is_decodable g.P.Properties.age in
    let b = c.in-Picked.block in
    let read = c.read_block.new.core in
    let filter = c.args.env.now.reinsertion in
    let led = unread_picked m filter c.apply.new.env.reinsertion b c.in-Picked.answers c.in-Picked.probation c.args.core.now c.apply.new.self read c.apply.ensures.lent.0
    (subst (λ r. Refines m step.ReclaimBegin r c.args.core.now c.apply.new.self) c.in-Picked.is c.apply.ensures.meets) c.read_block.ensures.leads in
    idle_more m filter c.args.core.now c.apply-2.new.self c.apply-3.new.self
    (idle_more m filter c.args.core.now read c.apply-2.new.self led (idle_kept m filter (step.ReclaimForget b) c.apply-2.result read c.apply-2.new.self tt c.apply-2.ensures.meets))
    (idle_kept m filter (step.ReclaimCleaned b c.clean-cleaned.result) c.apply-3.result c.apply-2.new.self c.apply-3.new.self tt c.apply-3.ensures.meets)

pub returns-clause-lent : goal.returns-clause-lent
returns-clause-lent g c = (
  c.apply-3.ensures.lent.0 ∙ c.apply-2.ensures.lent.0 ∙ c.read_block.ensures.lent.0 ∙ c.apply.ensures.lent.0,
  c.apply-3.ensures.lent.1 ∙ c.apply-2.ensures.lent.1 ∙ c.read_block.ensures.lent.1 ∙ c.apply.ensures.lent.1,
)

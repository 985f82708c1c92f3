use Rattle.std.proofs.Common.{Err, Some, refl, sym, subst}
use Rattle.foyer_device_page.specs.declared.error.Error.TheVariants as error
use Rattle.foyer_core_laws.specs.Content.{meaning}
use Rattle.foyer_core_steps.specs.Refines.{Refines}
use Rattle.foyer_core_steps.specs.declared.step.Step.TheVariants as step
use Rattle.foyer_core_run.specs.Reclaims.{Reads}
use Rattle.foyer_core_run.proofs.ReclaimIdle.{unread_kept, unread_more}
use Rattle.foyer_core_run.proofs.ReclaimRuns.{part_come, reads_once, reads_twice}
use Rattle.foyer_core_run.proofs.reclaims.read_part.Goals as goal

pub returns-in-Refused-clause-reads : goal.returns-in-Refused-clause-reads
returns-in-Refused-clause-reads g c = λ known.
    let m = meaning g.K.Code.encoding g.V.Code.encoding g.K.Code.is_encodable g.V.Code.is_encodable g.K.Code.is_decodable g.V.Code.is_decodable g.P.Properties.age in
    let bytes = g.D.Disk.byte_at c.args.disk.now in
    let outcome = c.read_bytes-outcome.result in
    subst (λ next. Reads m c.args.block (Some c.args.part) next c.args.core.now c.apply-reply.new.self bytes) (sym c.next_part.ensures)
    (reads_twice m c.args.block c.args.part outcome error.Memory c.in-Refused.field-0 c.in-Refused.field-1 c.apply-reply.result c.args.core.now c.apply-brought.new.self c.apply-reply.new.self bytes
    (part_come bytes c.args.block c.args.part outcome (c.read_bytes-outcome.ensures.read known) c.read_bytes-outcome.ensures.len)
    (subst (λ r. Refines m (step.ReclaimRead c.args.block outcome) r c.args.core.now c.apply-brought.new.self) c.in-Refused.is c.apply-brought.ensures.meets)
    c.apply-reply.ensures.meets)

pub returns-in-Refused-clause-leads : goal.returns-in-Refused-clause-leads
returns-in-Refused-clause-leads g c =
    let m = meaning g.K.Code.encoding g.V.Code.encoding g.K.Code.is_encodable g.V.Code.is_encodable g.K.Code.is_decodable g.V.Code.is_decodable g.P.Properties.age in
    let b = c.args.block in
    let outcome = c.read_bytes-outcome.result in
    unread_more m c.args.env.now.reinsertion c.apply-brought.new.env.reinsertion b c.args.core.now c.apply-brought.new.self c.apply-reply.new.self c.apply-brought.ensures.lent.0
    (unread_kept m g.C.StorageFilterCondition.may_answer c.args.env.now.reinsertion c.args.env.now.io b outcome c.apply-brought.result c.args.core.now c.apply-brought.new.self
    (c.apply-brought.ensures.judged b outcome refl) c.apply-brought.ensures.meets)
    (unread_kept m g.C.StorageFilterCondition.may_answer c.apply-brought.new.env.reinsertion c.apply-brought.new.env.io b (Err error.Memory) c.apply-reply.result c.apply-brought.new.self c.apply-reply.new.self
    (c.apply-reply.ensures.judged b (Err error.Memory) refl) c.apply-reply.ensures.meets)

pub returns : goal.returns
returns g c =
    let m = meaning g.K.Code.encoding g.V.Code.encoding g.K.Code.is_encodable g.V.Code.is_encodable g.K.Code.is_decodable g.V.Code.is_decodable g.P.Properties.age in
    let bytes = g.D.Disk.byte_at c.args.disk.now in
    let outcome = c.read_bytes-outcome.result in record {
      reads = λ known.
          subst (λ next. Reads m c.args.block (Some c.args.part) next c.args.core.now c.apply-brought.new.self bytes) (sym c.next_part-2.ensures)
          (reads_once m c.args.block c.args.part outcome c.apply-brought.result c.args.core.now c.apply-brought.new.self bytes
          (part_come bytes c.args.block c.args.part outcome (c.read_bytes-outcome.ensures.read known) c.read_bytes-outcome.ensures.len)
          c.apply-brought.ensures.meets);
      leads = unread_kept m g.C.StorageFilterCondition.may_answer c.args.env.now.reinsertion c.args.env.now.io c.args.block outcome c.apply-brought.result c.args.core.now c.apply-brought.new.self
          (c.apply-brought.ensures.judged c.args.block outcome refl) c.apply-brought.ensures.meets;
      lent = c.apply-brought.ensures.lent;
      known = c.read_bytes-outcome.ensures.known;
      lies = c.read_bytes-outcome.ensures.lies;
      counted = c.read_bytes-outcome.ensures.counted;
      same = c.read_bytes-outcome.ensures.same;
    }

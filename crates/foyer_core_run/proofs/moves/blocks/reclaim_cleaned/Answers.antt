use Rattle.std.proofs.Common.{false, not, sym, ap, ◌∙◌}
use Rattle.std.specs.Prelude.{slice_get}
use Rattle.foyer_core_laws.specs.Content.{meaning}
use Rattle.foyer_core_model.specs.Numbers.{page}
use Rattle.foyer_core_steps.specs.Asked.{went_well}
use Rattle.foyer_core_run.specs.Causes.{HasCome}
use Rattle.foyer_core_run.specs.Running.{is_set}
use Rattle.foyer_core_run.proofs.CleanLemmas.{reclaimed_moves, reclaimed_passes}
use Rattle.foyer_core_run.proofs.FaultLists.{or_none, unsure_lying}
use Rattle.foyer_core_run.proofs.ReclaimRuns.{clean_done}
use Rattle.foyer_core_run.proofs.moves.blocks.reclaim_cleaned.Goals as goal

pub returns-then-not-is_clean_due-clause-moved : goal.returns-then-not-is_clean_due-clause-moved
returns-then-not-is_clean_due-clause-moved g c = λ known s sound from w running.
    let m = meaning g.K.Code.encoding g.V.Code.encoding g.K.Code.is_encodable g.V.Code.is_encodable g.K.Code.is_decodable g.V.Code.is_decodable g.P.Properties.age in
    let kept = c.args.kept.now in (
      false,
      sym (or_none kept.has_failed),
      reclaimed_passes m s sound (HasCome g.D.Disk.surely_lies g.D.Disk.faults c.args.disk.now c.args.disk.now) from c.args.block kept.tickets.items kept.issued.items kept.scans.items kept.cleans.items kept.replies.items c.args.core.now
          (g.D.Disk.byte_at c.args.disk.now) w running
          (ap (λ xs. is_set (slice_get xs c.args.block)) (sym c.as_slice.ensures.value) ∙ sym c.is_clean_due.ensures ∙ c.if-not-is_clean_due.true),
    )

pub returns-clause-moved : goal.returns-clause-moved
returns-clause-moved g c = λ known s sound from w running.
    let m = meaning g.K.Code.encoding g.V.Code.encoding g.K.Code.is_encodable g.V.Code.is_encodable g.K.Code.is_decodable g.V.Code.is_decodable g.P.Properties.age in
    let kept = c.args.kept.now in
    let b = c.args.block in
    let bytes = g.D.Disk.byte_at c.args.disk.now in
    let after = g.D.Disk.byte_at c.clean-cleaned.new.disk in
    let outcome = c.clean-cleaned.result in (
      not (went_well outcome),
      c.note_outcome.ensures,
      reclaimed_moves m s sound (HasCome g.D.Disk.surely_lies g.D.Disk.faults c.args.disk.now c.clean-cleaned.new.disk) from b outcome c.apply-reply.result kept.tickets.items c.note_ticket.new.tickets.items kept.issued.items kept.scans.items kept.cleans.items c.set_due.new.list.items
          kept.replies.items c.push_reserved.new.self.items c.args.core.now c.apply-reply.new.self bytes after w running
          (ap (λ xs. is_set (slice_get xs b)) (sym c.as_slice.ensures.value) ∙ sym c.is_clean_due.ensures ∙ c.if-not-is_clean_due.false)
          (clean_done bytes after b outcome (c.clean-cleaned.ensures.cleaned known) (c.clean-cleaned.ensures.torn known))
          (unsure_lying outcome (g.D.Disk.surely_has c.args.disk.now) g.D.Disk.surely_lies g.D.Disk.faults c.args.disk.now c.clean-cleaned.new.disk b 0 page c.clean-cleaned.ensures.fails)
          (c.apply-reply.ensures.meets s sound w.core running.stands)
          c.note_ticket.ensures.noted c.set_due.ensures.set c.push_reserved.ensures.items,
    )

use Rattle.std.proofs.Common.{false, ◌||◌, sym, ap, subst, ◌∙◌}
use Rattle.std.specs.Prelude.{slice_get, slice_set}
use Rattle.foyer_core_laws.specs.Content.{meaning}
use Rattle.foyer_core_steps.specs.Asked.{came_of}
use Rattle.foyer_core_run.specs.Causes.{HasCome, is_fault}
use Rattle.foyer_core_run.specs.Running.{IsMoved, at}
use Rattle.foyer_core_run.specs.declared.moves.Asked.TheVariants as asks
use Rattle.foyer_core_run.proofs.FaultLists.{fault_read, or_none}
use Rattle.foyer_core_run.proofs.ReclaimRuns.{part_come}
use Rattle.foyer_core_run.proofs.ScanLemmas.{scan_moves, scan_passes}
use Rattle.foyer_core_run.proofs.moves.blocks.reclaim_read.Goals as goal

pub returns-in_default-clause-moved : goal.returns-in_default-clause-moved
returns-in_default-clause-moved g c = λ known s sound from w running.
    let m = meaning g.K.Code.encoding g.V.Code.encoding g.K.Code.is_encodable g.V.Code.is_encodable g.K.Code.is_decodable g.V.Code.is_decodable g.P.Properties.age in
    let kept = c.args.kept.now in (
      false,
      sym (or_none kept.has_failed),
      scan_passes m s sound (HasCome g.D.Disk.surely_lies g.D.Disk.faults c.args.disk.now c.args.disk.now) from c.args.block kept.tickets.items kept.issued.items kept.scans.items kept.cleans.items kept.replies.items c.args.core.now
          (g.D.Disk.byte_at c.args.disk.now) w running
          (ap (λ xs. at (slice_get xs c.args.block)) (sym c.as_slice.ensures.value) ∙ sym c.get_due.ensures ∙ c.in_default.is),
    )

pub returns-clause-moved : goal.returns-clause-moved
returns-clause-moved g c = λ known s sound from w running.
    let m = meaning g.K.Code.encoding g.V.Code.encoding g.K.Code.is_encodable g.V.Code.is_encodable g.K.Code.is_decodable g.V.Code.is_decodable g.P.Properties.age in
    let kept = c.args.kept.now in
    let b = c.args.block in
    let bytes = g.D.Disk.byte_at c.args.disk.now in
    let outcome = c.read_bytes-came.result in
    let answer = c.apply-reply.result in
    let sure = HasCome g.D.Disk.surely_lies g.D.Disk.faults c.args.disk.now c.read_bytes-came.new.disk in
    let failed = is_fault (came_of outcome) in (
      failed,
      c.note_outcome.ensures ∙ ap (λ t. kept.has_failed || t) (sym (fault_read outcome)),
      subst (λ new. IsMoved m s sound sure failed from (asks.ReclaimRead b) kept.replies.items c.note_ticket.new.tickets.items kept.issued.items c.set_due.new.list.items kept.cleans.items c.push_reserved.new.self.items c.apply-reply.new.self new w)
          (sym c.read_bytes-came.ensures.same)
          (scan_moves m s sound sure from b c.in-Some.part outcome answer kept.tickets.items c.note_ticket.new.tickets.items kept.issued.items kept.scans.items c.set_due.new.list.items kept.cleans.items
          kept.replies.items c.push_reserved.new.self.items c.args.core.now c.apply-reply.new.self bytes w running
          (ap (λ xs. at (slice_get xs b)) (sym c.as_slice.ensures.value) ∙ sym c.get_due.ensures ∙ c.in-Some.is)
          (part_come bytes b c.in-Some.part outcome (c.read_bytes-came.ensures.read known) c.read_bytes-came.ensures.len)
          (c.apply-reply.ensures.meets s sound w.core running.stands)
          c.note_ticket.ensures.noted
          (c.set_due.ensures.set ∙ ap (slice_set kept.scans.items b) c.next_part.ensures)
          c.push_reserved.ensures.items),
    )

use Rattle.std.proofs.Common.{false, not, inl, inr, sym, ap, ◌∙◌}
use Rattle.std.specs.Prelude.{Some, length, slice_get, slice_set}
use Rattle.foyer_core_steps.specs.Issuing.{written_bytes}
use Rattle.foyer_core_laws.specs.Content.{meaning}
use Rattle.foyer_core_steps.proofs.FlushTurns.{went_is}
use Rattle.foyer_core_steps.specs.Asked.{went_well}
use Rattle.foyer_core_run.specs.Causes.{HasCome}
use Rattle.foyer_core_run.specs.Running.{at, write_at}
use Rattle.foyer_core_run.proofs.FaultLists.{or_none, unsure_lying}
use Rattle.foyer_core_run.proofs.WriteLemmas.{done_is, next_issued, none_left, none_noted, noted, write_moves, write_passes}
use Rattle.foyer_core_run.proofs.moves.writes.flush_wrote.Goals as goal

pub returns-in_default-clause-moved : goal.returns-in_default-clause-moved
returns-in_default-clause-moved g c = λ known s sound from w running.
    let m = meaning g.K.Code.encoding g.V.Code.encoding g.K.Code.is_encodable g.V.Code.is_encodable g.K.Code.is_decodable g.V.Code.is_decodable g.P.Properties.age in
    let f = c.args.flusher in
    let tickets = c.args.kept.now.tickets.items in
    let issued = c.args.kept.now.issued.items in
    let said = c.args.kept.now.replies.items in
    let bytes = g.D.Disk.byte_at c.args.disk.now in (
      false,
      sym (or_none c.args.kept.now.has_failed),
      write_passes m s sound (HasCome g.D.Disk.surely_lies g.D.Disk.faults c.args.disk.now c.args.disk.now) from f tickets issued c.args.kept.now.scans.items c.args.kept.now.cleans.items said c.args.core.now bytes w running
          (none_noted m s sound (from.block_writes f) said (at (slice_get issued f)) (w.block_writes f) (running.writes f)
          (ap (λ xs. at (slice_get xs f)) (sym c.as_slice.ensures.value) ∙ sym c.get_due.ensures ∙ c.in_default.is)),
    )

pub returns-in_default-next_write-clause-moved : goal.returns-in_default-next_write-clause-moved
returns-in_default-next_write-clause-moved g c = λ known s sound from w running.
    let m = meaning g.K.Code.encoding g.V.Code.encoding g.K.Code.is_encodable g.V.Code.is_encodable g.K.Code.is_decodable g.V.Code.is_decodable g.P.Properties.age in
    let f = c.args.flusher in
    let tickets = c.args.kept.now.tickets.items in
    let issued = c.args.kept.now.issued.items in
    let said = c.args.kept.now.replies.items in
    let bytes = g.D.Disk.byte_at c.args.disk.now in
    let x = c.in-Some.issued in (
      false,
      sym (or_none c.args.kept.now.has_failed),
      write_passes m s sound (HasCome g.D.Disk.surely_lies g.D.Disk.faults c.args.disk.now c.args.disk.now) from f tickets issued c.args.kept.now.scans.items c.args.kept.now.cleans.items said c.args.core.now bytes w running
          (inl (none_left m s sound said x (w.block_writes f)
          (noted m s sound (from.block_writes f) said (at (slice_get issued f)) x (w.block_writes f) (running.writes f)
          (ap (λ xs. at (slice_get xs f)) (sym c.as_slice.ensures.value) ∙ sym c.get_due.ensures ∙ c.in-Some.is))
          (ap (λ xs. write_at (slice_get xs x.reply) x.next) (sym c.as_slice-2.ensures.value) ∙ c.in_default-next_write.ensures.write))),
    )

pub returns-then-wants_next_write-clause-moved : goal.returns-then-wants_next_write-clause-moved
returns-then-wants_next_write-clause-moved g c = λ known s sound from w running.
    let m = meaning g.K.Code.encoding g.V.Code.encoding g.K.Code.is_encodable g.V.Code.is_encodable g.K.Code.is_decodable g.V.Code.is_decodable g.P.Properties.age in
    let f = c.args.flusher in
    let tickets = c.args.kept.now.tickets.items in
    let issued = c.args.kept.now.issued.items in
    let said = c.args.kept.now.replies.items in
    let bytes = g.D.Disk.byte_at c.args.disk.now in
    let outcome = c.do_write-wrote.result in
    let x = c.in-Some.issued in
    let write = c.in-Some-next_write.write.now in
    let ok = c.is_ok-went_well.ensures.value ∙ went_is outcome in (
      not (went_well outcome),
      c.note_outcome.ensures,
      write_moves m s sound (HasCome g.D.Disk.surely_lies g.D.Disk.faults c.args.disk.now c.do_write-wrote.new.disk) from f x write outcome c.apply-reply.result tickets c.note_ticket.new.tickets.items issued c.set_due-then-wants_next_write.new.list.items c.args.kept.now.scans.items c.args.kept.now.cleans.items said c.push_reserved.new.self.items
          c.args.core.now c.apply-reply.new.self bytes (g.D.Disk.byte_at c.do_write-wrote.new.disk) w running
          (ap (λ xs. at (slice_get xs f)) (sym c.as_slice.ensures.value) ∙ sym c.get_due.ensures ∙ c.in-Some.is)
          (ap (λ xs. write_at (slice_get xs x.reply) x.next) (sym c.as_slice-2.ensures.value) ∙ c.in-Some-next_write.ensures.write)
          (done_is bytes (g.D.Disk.byte_at c.do_write-wrote.new.disk) x.block write outcome (c.do_write-wrote.ensures.wrote known) (c.do_write-wrote.ensures.torn known))
          (unsure_lying outcome (g.D.Disk.surely_has c.args.disk.now) g.D.Disk.surely_lies g.D.Disk.faults c.args.disk.now c.do_write-wrote.new.disk x.block write.offset (length (written_bytes write.bytes)) c.do_write-wrote.ensures.fails)
          (c.apply-reply.ensures.meets s sound w.core running.stands) c.note_ticket.ensures.noted c.push_reserved.ensures.items
          (inl (
            sym ok ∙ c.if-wants_next_write.ensures.0,
            c.if-wants_next_write.ensures.1,
            c.set_due-then-wants_next_write.ensures.set ∙ ap (λ xs. slice_set xs f (Some (next_issued x))) c.set_due.ensures.set,
          )),
    )

pub returns-clause-moved : goal.returns-clause-moved
returns-clause-moved g c = λ known s sound from w running.
    let m = meaning g.K.Code.encoding g.V.Code.encoding g.K.Code.is_encodable g.V.Code.is_encodable g.K.Code.is_decodable g.V.Code.is_decodable g.P.Properties.age in
    let f = c.args.flusher in
    let tickets = c.args.kept.now.tickets.items in
    let issued = c.args.kept.now.issued.items in
    let said = c.args.kept.now.replies.items in
    let bytes = g.D.Disk.byte_at c.args.disk.now in
    let outcome = c.do_write-wrote.result in
    let x = c.in-Some.issued in
    let write = c.in-Some-next_write.write.now in
    let ok = c.is_ok-went_well.ensures.value ∙ went_is outcome in (
      not (went_well outcome),
      c.note_outcome.ensures,
      write_moves m s sound (HasCome g.D.Disk.surely_lies g.D.Disk.faults c.args.disk.now c.do_write-wrote.new.disk) from f x write outcome c.apply-reply.result tickets c.note_ticket.new.tickets.items issued c.set_due.new.list.items c.args.kept.now.scans.items c.args.kept.now.cleans.items said c.push_reserved-2.new.self.items
          c.args.core.now c.apply-reply.new.self bytes (g.D.Disk.byte_at c.do_write-wrote.new.disk) w running
          (ap (λ xs. at (slice_get xs f)) (sym c.as_slice.ensures.value) ∙ sym c.get_due.ensures ∙ c.in-Some.is)
          (ap (λ xs. write_at (slice_get xs x.reply) x.next) (sym c.as_slice-2.ensures.value) ∙ c.in-Some-next_write.ensures.write)
          (done_is bytes (g.D.Disk.byte_at c.do_write-wrote.new.disk) x.block write outcome (c.do_write-wrote.ensures.wrote known) (c.do_write-wrote.ensures.torn known))
          (unsure_lying outcome (g.D.Disk.surely_has c.args.disk.now) g.D.Disk.surely_lies g.D.Disk.faults c.args.disk.now c.do_write-wrote.new.disk x.block write.offset (length (written_bytes write.bytes)) c.do_write-wrote.ensures.fails)
          (c.apply-reply.ensures.meets s sound w.core running.stands) c.note_ticket.ensures.noted c.push_reserved-2.ensures.items
          (inr ((elim c.if-wants_next_write.ensures [ inl failed ↦ inl (sym ok ∙ failed) | inr last ↦ inr last ]), c.set_due.ensures.set)),
    )

use Rattle.std.proofs.Common.{false, ◌||◌, sym, ap, subst, ◌∙◌}
use Rattle.std.specs.Prelude.{slice_get}
use Rattle.foyer_core_laws.specs.Content.{meaning}
use Rattle.foyer_core_steps.specs.Asked.{came_of}
use Rattle.foyer_core_run.specs.Causes.{HasCome, is_fault}
use Rattle.foyer_core_run.specs.Running.{IsMoved, at, ticket_in, with_ticket}
use Rattle.foyer_core_run.specs.declared.moves.Asked.TheVariants as asks
use Rattle.foyer_core_run.proofs.FaultLists.{fault_read, or_none, unsure_lying}
use Rattle.foyer_core_run.proofs.LoadLemmas.{come_is, load_moves, load_passes}
use Rattle.foyer_core_run.proofs.moves.loads.load_end.Goals as goal

pub returns-in_default-clause-moved : goal.returns-in_default-clause-moved
returns-in_default-clause-moved g c = λ known s sound from w running.
    let m = meaning g.K.Code.encoding g.V.Code.encoding g.K.Code.is_encodable g.V.Code.is_encodable g.K.Code.is_decodable g.V.Code.is_decodable g.P.Properties.age in (
      false,
      sym (or_none c.args.kept.now.has_failed),
      load_passes m s sound (HasCome g.D.Disk.surely_lies g.D.Disk.faults c.args.disk.now c.args.disk.now) from c.args.n c.args.kept.now.tickets.items c.args.kept.now.issued.items c.args.kept.now.scans.items c.args.kept.now.cleans.items c.args.kept.now.replies.items c.args.core.now
          (g.D.Disk.byte_at c.args.disk.now) w running
          (ap (λ xs. at (slice_get xs c.args.n)) (sym c.as_slice.ensures.value) ∙ sym c.get_due.ensures ∙ c.in_default.is),
    )

pub returns-clause-moved : goal.returns-clause-moved
returns-clause-moved g c = λ known s sound from w running.
    let m = meaning g.K.Code.encoding g.V.Code.encoding g.K.Code.is_encodable g.V.Code.is_encodable g.K.Code.is_decodable g.V.Code.is_decodable g.P.Properties.age in
    let bytes = g.D.Disk.byte_at c.args.disk.now in
    let came = HasCome g.D.Disk.surely_lies g.D.Disk.faults c.args.disk.now c.do_read.new.disk in
    let failed = is_fault (came_of c.in_ok-came.came) in (
      failed,
      c.note_outcome.ensures ∙ ap (λ t. c.args.kept.now.has_failed || t) (sym (fault_read c.in_ok-came.came)),
      subst (λ new. IsMoved m s sound came failed from (asks.LoadEnd c.args.n) c.args.kept.now.replies.items c.note_ticket.new.tickets.items c.args.kept.now.issued.items c.args.kept.now.scans.items c.args.kept.now.cleans.items c.push_reserved.new.self.items c.apply-answer.new.self new w)
          (sym c.in_ok-came.ensures.same)
          (load_moves m s sound came from c.args.n c.in-Some.ticket c.in_ok-came.came c.apply-answer.result c.args.kept.now.tickets.items c.note_ticket.new.tickets.items c.args.kept.now.issued.items c.args.kept.now.scans.items c.args.kept.now.cleans.items
          c.args.kept.now.replies.items c.push_reserved.new.self.items c.args.core.now c.apply-answer.new.self bytes w running
          (ap (λ xs. at (slice_get xs c.args.n)) (sym c.as_slice.ensures.value) ∙ sym c.get_due.ensures ∙ c.in-Some.is)
          (come_is bytes c.in-Some.ticket c.in_ok-came.came (c.in_ok-came.ensures.read known) c.in_ok-came.ensures.len)
          (unsure_lying c.in_ok-came.came (g.D.Disk.surely_has c.args.disk.now) g.D.Disk.surely_lies g.D.Disk.faults c.args.disk.now c.do_read.new.disk
          c.in-Some.ticket.address.block c.in-Some.ticket.address.offset c.in-Some.ticket.address.len c.in_ok-came.ensures.fails)
          (c.apply-answer.ensures.meets s sound w.core running.stands)
          (c.note_ticket.ensures.noted ∙ ap (with_ticket (ticket_in c.apply-answer.result)) c.set_due.ensures.set)
          c.push_reserved.ensures.items),
    )

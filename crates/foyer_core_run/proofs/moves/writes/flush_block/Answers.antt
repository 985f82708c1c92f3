use Rattle.std.proofs.Common.{arith, false, inl, inr, refl, sym, ap, ◌∙◌}
use Rattle.std.specs.Prelude.{Some, length, slice_set, ◌≡◌}
use Rattle.foyer_core_laws.specs.Content.{meaning}
use Rattle.foyer_core_run.specs.Causes.{HasComeAnywhere}
use Rattle.foyer_core_run.proofs.FaultLists.{or_none}
use Rattle.foyer_core_run.proofs.BlockLemmas.{block_moves, first_issued}
use Rattle.foyer_core_run.proofs.moves.writes.flush_block.Goals as goal

pub returns-in_default-clause-moved : goal.returns-in_default-clause-moved
returns-in_default-clause-moved g c = λ bytes s sound from w running.
    let m = meaning g.K.Code.encoding g.V.Code.encoding g.K.Code.is_encodable g.V.Code.is_encodable g.K.Code.is_decodable g.V.Code.is_decodable g.P.Properties.age in (
      false,
      sym (or_none c.args.kept.now.has_failed),
      block_moves m s sound HasComeAnywhere from c.args.flusher c.apply-reply.result c.args.kept.now.tickets.items c.note_ticket.new.tickets.items
          c.args.kept.now.issued.items c.args.kept.now.issued.items c.args.kept.now.scans.items c.args.kept.now.cleans.items c.args.kept.now.replies.items c.push_reserved.new.self.items
          c.args.core.now c.apply-reply.new.self bytes w running (c.apply-reply.ensures.meets s sound w.core running.stands)
          c.note_ticket.ensures.noted c.push_reserved.ensures.items (inl (sym c.issued_block.ensures ∙ c.in_default.is, refl)),
    )

pub returns-clause-moved : goal.returns-clause-moved
returns-clause-moved g c = λ bytes s sound from w running.
    let m = meaning g.K.Code.encoding g.V.Code.encoding g.K.Code.is_encodable g.V.Code.is_encodable g.K.Code.is_decodable g.V.Code.is_decodable g.P.Properties.age in
    let issued = c.args.kept.now.issued.items in
    let counted : c.len.result ≡ length c.args.kept.now.replies.items = omega (arith, c.len.ensures, c.args.kept.now.replies.ok) in (
      false,
      sym (or_none c.args.kept.now.has_failed),
      block_moves m s sound HasComeAnywhere from c.args.flusher c.apply-reply.result c.args.kept.now.tickets.items c.note_ticket.new.tickets.items
          issued c.set_due.new.list.items c.args.kept.now.scans.items c.args.kept.now.cleans.items c.args.kept.now.replies.items c.push_reserved-2.new.self.items
          c.args.core.now c.apply-reply.new.self bytes w running (c.apply-reply.ensures.meets s sound w.core running.stands)
          c.note_ticket.ensures.noted c.push_reserved-2.ensures.items
          (inr (
            c.in-Some.block,
            sym c.issued_block.ensures ∙ c.in-Some.is,
            c.set_due.ensures.set ∙ ap (λ n. slice_set issued c.args.flusher (Some (first_issued c.in-Some.block n))) counted,
          )),
    )

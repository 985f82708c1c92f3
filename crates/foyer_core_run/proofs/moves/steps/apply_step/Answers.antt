use Rattle.std.proofs.Common.{false, sym, ap, ◌∙◌}
use Rattle.foyer_core_laws.specs.Content.{meaning}
use Rattle.foyer_core_run.specs.Running.{cleans_noted, issuing_in, scans_noted}
use Rattle.foyer_core_run.specs.Causes.{HasComeAnywhere}
use Rattle.foyer_core_run.proofs.FaultLists.{or_none}
use Rattle.foyer_core_run.proofs.StepLemmas.{encodings_of, step_moves}
use Rattle.foyer_core_run.proofs.moves.steps.apply_step.Goals as goal

pub returns-clause-moved : goal.returns-clause-moved
returns-clause-moved g c = λ bytes s sound from w running.
    let m = meaning g.K.Code.encoding g.V.Code.encoding g.K.Code.is_encodable g.V.Code.is_encodable g.K.Code.is_decodable g.V.Code.is_decodable g.P.Properties.age in
    let encodes = encodings_of g.K.Code.encoding g.V.Code.encoding g.K.Code.is_encodable g.V.Code.is_encodable g.K.Code.is_decodable g.V.Code.is_decodable g.P.Properties.age g.met.K.Code.is_encoded g.met.V.Code.is_encoded in
    let met = c.apply-reply.ensures.meets s sound w.core running.stands in
    let scans = c.args.kept.now.scans.items in
    let cleans = c.args.kept.now.cleans.items in
    let answer = c.apply-reply.result in (
      false,
      sym (or_none c.args.kept.now.has_failed),
      step_moves m s sound encodes HasComeAnywhere from c.args.step answer c.args.kept.now.tickets.items c.note_ticket.new.tickets.items c.args.kept.now.issued.items scans c.note_scan.new.scans.items
          cleans c.note_cleans.new.cleans.items c.args.kept.now.replies.items c.push_reserved.new.self.items c.args.core.now c.apply-reply.new.self bytes w running c.requires.free
          c.apply-reply.ensures.back met c.note_ticket.ensures.noted
          (c.note_scan.ensures.noted ∙ ap (λ k. scans_noted k c.settings.result.blob_index_size answer scans) c.issued_by-issuing.ensures
          ∙ ap (λ z. scans_noted (issuing_in c.args.step) z.blob_index_size answer scans) (c.settings.ensures ∙ met.stands.sizes))
          (c.note_cleans.ensures.noted ∙ ap (λ k. cleans_noted k answer cleans) c.issued_by-issuing.ensures) c.push_reserved.ensures.items,
    )

use Rattle.std.proofs.Common.{◌≡◌, ap, sym, ◌∙◌}
use Rattle.std.specs.Option.{is_some}
use Rattle.foyer_core_steps.specs.Content.{meaning}
use Rattle.foyer_core_steps.specs.declared.step.Step.TheVariants as steps
use Rattle.foyer_core_shared.specs.Noted.{and_note}
use Rattle.foyer_core_shared.specs.Behind.{kept_notes}
use Rattle.foyer_core_shared.specs.Briefs.{len_of}
use Rattle.foyer_core_shared.specs.declared.brief.StepBrief.TheVariants as asked
use Rattle.foyer_core_shared.specs.Kinds.{kind_of}
use Rattle.foyer_core_tally.specs.Tally.{grown}
use Rattle.foyer_core_shared.proofs.HistoryLemmas.{goes_on, noted_on, replied, some_note}
use Rattle.foyer_core_shared.proofs.locked.Locked.end_judged.Goals as goal

pub invariant_of-self-2 : goal.invariant_of-self-2
invariant_of-self-2 g c =
    let old = c.self.inside.0.0 in
    let brief : c.of_load-asked.result ≡ asked.LoadEnd c.args.judged.ticket (len_of c.args.judged.outcome) =
    c.of_load-asked.ensures ∙ (λ i. asked.LoadEnd (c.ticket.ensures i) (len_of (c.outcome.ensures i))) in (
      noted_on (meaning g.K.Code.encoding g.V.Code.encoding g.K.Code.is_encodable g.V.Code.is_encodable g.K.Code.is_decodable g.V.Code.is_decodable g.P.Properties.age)
          (steps.LoadEnd c.args.judged.ticket c.args.judged.outcome) c.apply_judged-reply.result.0 old.core c.apply_judged-reply.new.self (kept_notes old.notes) (kept_notes c.note.new.notes) old.calls c.note-2.new.self
          c.apply_judged-reply.ensures.meets
          (c.note.ensures ∙ (λ i. and_note (record { step = brief i; reply = c.of.ensures i }) (c.reserve.ensures.same i)))
          (c.note-2.ensures.book ∙ ap (λ k. grown k old.calls) (c.kind.ensures ∙ (λ i. kind_of (record { step = brief i; reply = c.of.ensures i })))) c.self.invariant.0,
      ap is_some c.note.ensures ∙ some_note _ (kept_notes c.reserve.new.notes) ∙ ap is_some c.reserve.ensures.same ∙ c.self.invariant.1,
    )

pub returns-clause-history : goal.returns-clause-history
returns-clause-history g c = λ run legal.
    goes_on (meaning g.K.Code.encoding g.V.Code.encoding g.K.Code.is_encodable g.V.Code.is_encodable g.K.Code.is_decodable g.V.Code.is_decodable g.P.Properties.age)
    run (record { step = steps.LoadEnd c.args.judged.ticket c.args.judged.outcome; reply = c.apply_judged-reply.result.0 }) _ c.self.inside.0.0.core c.apply_judged-reply.new.self (ap (λ l. l.noted.core) (sym c.self.view_is)) c.apply_judged-reply.ensures.meets legal

pub returns-clause-replied : goal.returns-clause-replied
returns-clause-replied g c =
    replied (meaning g.K.Code.encoding g.V.Code.encoding g.K.Code.is_encodable g.V.Code.is_encodable g.K.Code.is_decodable g.V.Code.is_decodable g.P.Properties.age)
    (steps.LoadEnd c.args.judged.ticket c.args.judged.outcome) c.apply_judged-reply.result.0 c.self.inside.0.0.core c.apply_judged-reply.new.self (kept_notes c.self.inside.0.0.notes) c.self.inside.0.0.calls c.self.invariant.0 c.apply_judged-reply.ensures.meets

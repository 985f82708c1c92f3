use Rattle.std.proofs.Common.{ap, sym, ◌∙◌}
use Rattle.std.specs.Option.{is_some}
use Rattle.foyer_core_steps.specs.Content.{meaning}
use Rattle.foyer_core_shared.specs.Noted.{and_note}
use Rattle.foyer_core_shared.specs.Behind.{kept_notes}
use Rattle.foyer_core_shared.specs.Kinds.{kind_of}
use Rattle.foyer_core_tally.specs.Tally.{grown}
use Rattle.foyer_core_shared.proofs.HistoryLemmas.{goes_on, noted_on, replied, some_note}
use Rattle.foyer_core_shared.proofs.locked.Locked.step.Goals as goal

pub invariant_of-self-2 : goal.invariant_of-self-2
invariant_of-self-2 g c =
    let old = c.self.inside.0.0 in (
      noted_on (meaning g.K.Code.encoding g.V.Code.encoding g.K.Code.is_encodable g.V.Code.is_encodable g.K.Code.is_decodable g.V.Code.is_decodable g.P.Properties.age)
          c.args.step c.apply-reply.result old.core c.apply-reply.new.self (kept_notes old.notes) (kept_notes c.note.new.notes) old.calls c.note-2.new.self
          c.apply-reply.ensures.meets
          (c.note.ensures ∙ (λ i. and_note (record { step = c.of-asked.ensures i; reply = c.of.ensures i }) (c.reserve.ensures.same i)))
          (c.note-2.ensures.book ∙ ap (λ k. grown k old.calls) (c.kind.ensures ∙ (λ i. kind_of (record { step = c.of-asked.ensures i; reply = c.of.ensures i })))) c.self.invariant.0,
      ap is_some c.note.ensures ∙ some_note _ (kept_notes c.reserve.new.notes) ∙ ap is_some c.reserve.ensures.same ∙ c.self.invariant.1,
    )

pub returns-clause-history : goal.returns-clause-history
returns-clause-history g c = λ run legal.
    goes_on (meaning g.K.Code.encoding g.V.Code.encoding g.K.Code.is_encodable g.V.Code.is_encodable g.K.Code.is_decodable g.V.Code.is_decodable g.P.Properties.age)
    run (record { step = c.args.step; reply = c.apply-reply.result }) _ c.self.inside.0.0.core c.apply-reply.new.self (ap (λ l. l.noted.core) (sym c.self.view_is)) c.apply-reply.ensures.meets legal

pub returns-clause-replied : goal.returns-clause-replied
returns-clause-replied g c =
    replied (meaning g.K.Code.encoding g.V.Code.encoding g.K.Code.is_encodable g.V.Code.is_encodable g.K.Code.is_decodable g.V.Code.is_decodable g.P.Properties.age)
    c.args.step c.apply-reply.result c.self.inside.0.0.core c.apply-reply.new.self (kept_notes c.self.inside.0.0.notes) c.self.inside.0.0.calls c.self.invariant.0 c.apply-reply.ensures.meets

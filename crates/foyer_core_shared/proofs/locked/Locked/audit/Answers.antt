use Rattle.std.proofs.Common.{sym, ap, ◌∙◌}
use Rattle.foyer_core_steps.specs.Content.{meaning}
use Rattle.foyer_core_shared.specs.Behind.{kept_notes}
use Rattle.foyer_core_shared.proofs.HistoryLemmas.{noted_tallies}
use Rattle.foyer_core_shared.proofs.locked.Locked.audit.Goals as goal

pub returns-clause-notes : goal.returns-clause-notes
returns-clause-notes g c =
    let old = c.self.inside.0.0 in
    λ notes is.
    noted_tallies (meaning g.K.Code.encoding g.V.Code.encoding g.K.Code.is_encodable g.V.Code.is_encodable g.K.Code.is_decodable g.V.Code.is_decodable g.P.Properties.age)
    old.core (kept_notes old.notes) old.calls c.self.invariant.0 notes is
    ∙ c.audit.ensures.whole ∙ ap (λ h. h.amounts) (sym c.audit.ensures.share)

use Rattle.std.proofs.Common.{ℕ, inl, inr, sym, subst}
use Rattle.foyer_core_laws.specs.Content.{meaning}
use Rattle.foyer_core_run.specs.Stopped.{IsReopenedRun}
use Rattle.foyer_core_run.proofs.StoppedRuns.{reopened}
use Rattle.foyer_core_run.proofs.stopped.run_and_reopen.Goals as goal

pub returns-in-Err-clause-refused : goal.returns-in-Err-clause-refused
returns-in-Err-clause-refused g c = elim c.in-Err.ensures.refused [
  | inl memory ↦ inl memory
  | inr (inl config) ↦ inr (inl config)
  | inr (inr (inl recover)) ↦ inr (inr (inr (inl recover)))
  | inr (inr (inr end)) ↦ inr (inr (inr (inr end)))
]

pub returns-in-Ok-clause-keeps : goal.returns-in-Ok-clause-keeps
returns-in-Ok-clause-keeps g c = λ sound.
    let m = meaning g.K.Code.encoding g.V.Code.encoding g.K.Code.is_encodable g.V.Code.is_encodable g.K.Code.is_decodable g.V.Code.is_decodable g.P.Properties.age in
    let s = c.args.settings in
    subst (λ (bytes : ℕ → ℕ → ℕ). IsReopenedRun m s sound c.in_ok-kept.kept.has_failed c.args.mode c.args.moves.items c.in_ok-kept.kept.replies.items c.in-Ok.core bytes) (sym c.reopen.ensures.same)
    (reopened m s sound c.in_ok-kept.kept.has_failed c.args.mode c.args.moves.items c.in_ok-kept.kept.replies.items c.in-Ok.core _ c.in-Ok.ensures.opened (c.in_ok-kept.ensures.runs sound))

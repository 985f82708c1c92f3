use Rattle.std.proofs.Common.{inl, inr, refl}
use Rattle.foyer_core_run.proofs.OpenedRuns.{err_weakens}
use Rattle.foyer_storage_local.proofs.engine.LocalEngine+K+V+P+H+A+D+NoLog+E+C.with_disk.Goals as goal

pub returns-clause-refused : goal.returns-clause-refused
returns-clause-refused g c = err_weakens c.with_log.result _ _ (λ e is. elim is [
  | inl memory ↦ inl memory
  | inr (inl config) ↦ inr (inl config)
  | inr (inr (inl recover)) ↦ inr (inr (inl recover))
  | inr (inr (inr end)) ↦ inr (inr (inr (end.0, λ none. end.1 none refl)))
]) c.with_log.ensures.refused

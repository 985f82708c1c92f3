use Rattle.std.proofs.Common.{◌≡◌, [], inl, inr, refl, subst, rules}
use Rattle.foyer_io_disk.specs.Disk.{IsWithin, SurelyCame}
use Rattle.foyer_block_recover.proofs.OpeningLemmas.{ok_weakens}
use Rattle.foyer_core_run.proofs.OpenedRuns.{err_weakens, opened_with_fewer}
use Rattle.foyer_core_run.proofs.stopped.reopen.Goals as goal

pub returns-clause-refused : goal.returns-clause-refused
returns-clause-refused g c = err_weakens c.open.result _ _ (λ e is. elim is [
  | inl memory ↦ inl memory
  | inr (inl config) ↦ inr (inl config)
  | inr (inr (inl recover)) ↦ inr (inr (inl recover.0))
  | inr (inr (inr end)) ↦ inr (inr (inr (end.0, λ none. end.1 none refl)))
]) c.open.ensures.refused

pub returns-clause-opened : goal.returns-clause-opened
returns-clause-opened g c =
    let d = c.args.disk.now in
    let s = c.args.settings in
    let blocks : s.blocks ≡ d.blocks = search rules in
    let size : s.block_size ≡ d.block_size = search rules in
    ok_weakens c.open.result _ _
    (λ core from. opened_with_fewer s _ (SurelyCame (IsWithin d.blocks d.block_size) (IsWithin d.blocks d.block_size) 0 0) (IsWithin s.blocks s.block_size) c.args.mode [] _ core
    (λ b o n within. inl (subst (λ k. IsWithin k d.block_size b o n) blocks (subst (λ k. IsWithin s.blocks k b o n) size within))) from)
    c.open.ensures.opened

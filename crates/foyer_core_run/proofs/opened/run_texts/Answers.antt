use Rattle.std.proofs.Common.{rules, refl, sym, inl, inr}
use Rattle.foyer_block_recover.proofs.OpeningLemmas.{ok_weakens}
use Rattle.foyer_core_laws.specs.Sizes.{AreValid}
use Rattle.foyer_core_run.specs.Texts.{of_texts}
use Rattle.foyer_core_run.proofs.OpenedRuns.{err_weakens, none_refuses, lawful_empty}
use Rattle.foyer_core_run.proofs.opened.run_texts.Goals as goal

pub returns-clause-lawful : goal.returns-clause-lawful
returns-clause-lawful g c =
    let s = c.args.settings in
    let m = of_texts g.P.Properties.age in
    ok_weakens c.open_and_run.result _ _
    (λ replies from sound.
    lawful_empty m s sound (λ b o. 0) _ _ c.args.moves.items replies.items (from sound (λ b o. 0) (λ b o. sym (c.in_ok-disk.ensures.zeros b o))))
    (c.open_and_run.ensures.lawful tt)

pub returns-in_err-disk-clause-refused : goal.returns-in_err-disk-clause-refused
returns-in_err-disk-clause-refused g c = search rules depth 1

pub returns-clause-refused : goal.returns-clause-refused
returns-clause-refused g c = err_weakens c.open_and_run.result _ _ (λ e is. elim (none_refuses {Bad = AreValid c.args.settings → ⊥} (λ some. some refl refl) e is) [ inl memory ↦ inl memory | inr config ↦ inr (inl config) ]) c.open_and_run.ensures.refused

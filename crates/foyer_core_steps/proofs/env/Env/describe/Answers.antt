use Rattle.std.proofs.Common.{List, ℕ, subst, arith}
use Rattle.std.specs.Prelude.{OnOk}
use Rattle.foyer_block_manager.specs.Shown.{AreChanged}
use Rattle.foyer_core_steps.proofs.ShowingLemmas.{on_success, changed_back}
use Rattle.foyer_core_steps.proofs.env.Env.describe.Goals as goal

pub returns-clause-begun : goal.returns-clause-begun
returns-clause-begun g c =
    let pickers = c.args.self.now.pickers in
    on_success c.init_all.result _ _
    (changed_back (λ p q. g.E.EvictionPicker.begins p c.args.self.now.own.items c.args.block_size q) pickers.len pickers.items c.deref_mut.result.now c.init_all.new.pickers
    c.deref_mut.ensures.value (omega (arith, pickers.ok.0)))
    (subst (λ (l : List ℕ). OnOk c.init_all.result (AreChanged (λ p q. g.E.EvictionPicker.begins p l c.args.block_size q) c.deref_mut.result.now c.init_all.new.pickers)) c.deref.ensures.value c.init_all.ensures.begun)

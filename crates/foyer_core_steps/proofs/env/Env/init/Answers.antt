use Rattle.std.proofs.Common.{List, ap, subst}
use Rattle.std.specs.Prelude.{OnOk}
use Rattle.foyer_core_model.specs.Ids.{ids}
use Rattle.foyer_block_manager.specs.Shown.{AreChanged}
use Rattle.foyer_core_steps.proofs.env.Env.init.Goals as goal

pub returns-clause-begun : goal.returns-clause-begun
returns-clause-begun g c =
    subst (λ (ps : List g.row.E.Denot). OnOk c.describe.result (AreChanged (λ p q. g.E.EvictionPicker.begins p (ids c.args.blocks) c.args.block_size q) ps c.describe.new.self.pickers.items))
    (ap (λ v. v.items) c.in_ok-list_blocks.ensures.pickers)
    (subst (λ l. OnOk c.describe.result (AreChanged (λ p q. g.E.EvictionPicker.begins p l c.args.block_size q) c.list_blocks.new.self.pickers.items c.describe.new.self.pickers.items))
    c.in_ok-list_blocks.ensures.ids c.describe.ensures.begun)

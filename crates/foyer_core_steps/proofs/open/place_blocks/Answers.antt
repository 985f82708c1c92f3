use Rattle.std.proofs.Common.{length, sym, subst, inl, inr, arith}
use Rattle.foyer_block_manager.specs.Shown.{evictable_below}
use Rattle.foyer_core_steps.proofs.ShowingLemmas.{all_back}
use Rattle.foyer_block_manager.specs.Initial.{CanBeClean}
use Rattle.foyer_block_manager.specs.Managed.{Managed}
use Rattle.foyer_core_steps.proofs.CleanLemmas.{can_be_clean, opened_manager}
use Rattle.foyer_core_steps.proofs.open.place_blocks.Goals as goal

pub returns-in-Err-clause-refused : goal.returns-in-Err-clause-refused
returns-in-Err-clause-refused g c =
    let n = c.args.settings.now.blocks in
    let clean = c.args.clean.now in
    let can : CanBeClean (c.in_ok-manager.manager).blocks clean =
    subst (λ (m : Managed). CanBeClean m.blocks clean) (sym c.in_ok-manager.ensures.made) (can_be_clean n clean c.requires.once c.requires.there) in
    elim c.in-Err.ensures.refused [
      | inl is ↦ is
      | inr not ↦ absurd (not.1 can)
    ]

pub returns-in-Ok-clause-placed : goal.returns-in-Ok-clause-placed
returns-in-Ok-clause-placed g c =
    opened_manager c.args.settings.now c.in_ok-manager.manager c.init-2.new.self c.args.clean.now c.in_ok-manager.ensures.made c.init-2.ensures.same
    c.in-Ok.ensures.clean

pub returns-in-Ok-clause-shown : goal.returns-in-Ok-clause-shown
returns-in-Ok-clause-shown g c =
    let pickers = c.init.new.self.pickers in
    let blocks = c.init-2.new.self.blocks in
    record {
      described = pickers.items;
      begun = c.in_ok-init.ensures.begun;
      shown = all_back g.E.EvictionPicker.learns (evictable_below blocks (length blocks)) pickers.len pickers.items c.deref_mut.result.now c.init-2.new.pickers
          c.deref_mut.ensures.value (omega (arith, pickers.ok.0)) c.in-Ok.ensures.shown;
    }

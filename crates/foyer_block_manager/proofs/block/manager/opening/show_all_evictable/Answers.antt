use Rattle.std.proofs.Common.{◌≡◌, ◌<◌, ◌+◌, ◌∙◌, List, Some, length, slice_get, refl, sym, ap, subst, arith}
use Rattle.std.proofs.lemmas.Option.{slice_get_read}
use Rattle.foyer_block_manager.specs.Managed.{is_evictable}
use Rattle.foyer_block_manager.specs.Shown.{AreShownAll, evictable_below}
use Rattle.foyer_block_manager.specs.declared.block.states.BlockState.{BlockState}
use Rattle.foyer_block_manager.proofs.ShownLemmas.{shown_evictable, unshown_evictable}
use Rattle.foyer_block_manager.proofs.block.manager.opening.show_all_evictable.Goals as goal
use Rattle.foyer_block_manager.proofs.block.manager.opening.show_all_evictable.Goals.{then-is_evictable, else-is_evictable}

pub each_block-preserved : goal.each_block-preserved
each_block-preserved g c =
    let blocks : List BlockState = c.args.blocks.now.items in
    let i = c.each_block.index in
    let x : BlockState = c.index.result.now in
    let lt : i < length blocks = omega arith in
    let at : slice_get blocks i ≡ Some x = slice_get_read blocks (length blocks) i x refl lt c.index.ensures in
    elim c.if-is_evictable.branch [
      | then-is_evictable w ↦ subst (λ (ps : List g.row.P.Denot). AreShownAll g.P.EvictionPicker.learns (evictable_below blocks (i + 1)) c.args.pickers.now ps) (sym w.pickers-is)
          (shown_evictable g.P.EvictionPicker.learns blocks i _ c.args.pickers.now c.each_block.pickers w.show_evictable.new.pickers (ap is_evictable at ∙ sym c.is_evictable.ensures ∙ w.if-is_evictable.true)
          c.each_block.invariant w.show_evictable.ensures)
      | else-is_evictable w ↦ subst (λ (ps : List g.row.P.Denot). AreShownAll g.P.EvictionPicker.learns (evictable_below blocks (i + 1)) c.args.pickers.now ps) (sym w.pickers-is)
          (unshown_evictable g.P.EvictionPicker.learns blocks i c.args.pickers.now c.each_block.pickers (ap is_evictable at ∙ sym c.is_evictable.ensures ∙ w.if-is_evictable.false) c.each_block.invariant)
    ]

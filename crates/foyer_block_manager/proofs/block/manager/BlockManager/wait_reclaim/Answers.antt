use Rattle.std.proofs.Common.{◌≤◌, ◌==◌, length, sym, ap, subst, ◌∙◌, arith}
use Rattle.foyer_block_manager.specs.Managed.{Managed}
use Rattle.foyer_block_manager.specs.BlockSets.{Stands, reclaim_count}
use Rattle.foyer_block_manager.proofs.StandsLemmas.{reclaimed_as}
use Rattle.foyer_block_manager.proofs.block.manager.BlockManager.wait_reclaim.Goals as goal

pub returns : goal.returns
returns g c = λ s st.
    let m = c.self.inside in
    let old : Managed = record { blocks = m.blocks.items; clean = m.clean.items; evictable = m.evictable.ids; waiting = m.waiting.items; ready = m.ready.items; reclaimers = m.reclaimers; clean_threshold = m.clean_threshold; block_size = m.block_size; is_cleaning = m.is_cleaning } in
    let stood : Stands old s = subst (λ (w : Managed). Stands w s) (sym c.self.view_is) st in
    let le : length m.blocks.items ≤ length m.blocks.items = omega arith in
    ap (λ n. n == 0) ((c.self.invariant).reclaiming_is ∙ sym (reclaimed_as (length m.blocks.items) old s le stood))
    ∙ ap (λ (w : Managed). reclaim_count (length w.blocks) s.block_set == 0) c.self.view_is

use Rattle.std.proofs.Common.{sym, subst, refl, List}
use Rattle.foyer_core_model.specs.State as model_state
use Rattle.std.specs.VecDeque.{deque_capacity}
use Rattle.std.proofs.Common.{vec_capacity}
use Rattle.foyer_block_manager.specs.Managed.{Managed, IsKept}
use Rattle.foyer_block_manager.specs.BlockSets.{Stands, without_stats}
use Rattle.foyer_block_manager.specs.Statistics.{no_statistics}
use Rattle.foyer_block_manager.specs.declared.block.states.BlockState.{BlockState}
use Rattle.foyer_block_manager.proofs.StatisticsLemmas.{kept_stats, stands_stats}
use Rattle.foyer_block_manager.proofs.block.manager.BlockManager.on_clean_finish.Goals as goal

pub invariant_of-self : goal.invariant_of-self
invariant_of-self g c =
    let m = c.self.inside in
    subst (λ (bs : List BlockState). IsKept bs m.clean.items m.waiting.items m.ready.items m.evictable m.usable m.reclaiming (deque_capacity m.clean) (vec_capacity m.waiting))
    (sym c.reset.ensures) (kept_stats no_statistics c.args.block c.self.invariant)

pub returns-clause-stats : goal.returns-clause-stats
returns-clause-stats g c = λ s st.
    let m = c.self.inside in
    let old : Managed = record { blocks = m.blocks.items; clean = m.clean.items; evictable = m.evictable.ids; waiting = m.waiting.items; ready = m.ready.items; reclaimers = m.reclaimers; clean_threshold = m.clean_threshold; block_size = m.block_size; is_cleaning = m.is_cleaning } in
    let stood : Stands old s = subst (λ (w : Managed). Stands w s) (sym c.self.view_is) st in
    subst (λ (bs : List BlockState). Stands (record old { blocks = bs }) (without_stats s c.args.block)) (sym c.reset.ensures)
    (stands_stats no_statistics old s c.args.block model_state.no_stats stood (λ it is. refl))

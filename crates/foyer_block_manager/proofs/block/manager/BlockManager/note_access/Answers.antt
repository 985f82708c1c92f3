use Rattle.std.proofs.Common.{sym, ap, subst, List}
use Rattle.foyer_core_model.specs.Numbers.{plus}
use Rattle.foyer_core_model.specs.State as model_state
use Rattle.std.specs.VecDeque.{deque_capacity}
use Rattle.std.proofs.Common.{vec_capacity}
use Rattle.foyer_block_manager.specs.Managed.{Managed, IsKept}
use Rattle.foyer_block_manager.specs.BlockSets.{Stands}
use Rattle.foyer_block_manager.specs.Statistics.{add_access, with_access}
use Rattle.foyer_block_manager.specs.declared.block.states.BlockState.{BlockState}
use Rattle.foyer_block_manager.proofs.StatisticsLemmas.{kept_stats, stands_stats}
use Rattle.foyer_block_manager.proofs.block.manager.BlockManager.note_access.Goals as goal

pub invariant_of-self : goal.invariant_of-self
invariant_of-self g c =
    let m = c.self.inside in
    subst (λ (bs : List BlockState). IsKept bs m.clean.items m.waiting.items m.ready.items m.evictable m.usable m.reclaiming (deque_capacity m.clean) (vec_capacity m.waiting))
    (sym c.add_access.ensures) (kept_stats add_access c.args.block c.self.invariant)

pub returns-clause-access : goal.returns-clause-access
returns-clause-access g c = λ s st.
    let m = c.self.inside in
    let old : Managed = record { blocks = m.blocks.items; clean = m.clean.items; evictable = m.evictable.ids; waiting = m.waiting.items; ready = m.ready.items; reclaimers = m.reclaimers; clean_threshold = m.clean_threshold; block_size = m.block_size; is_cleaning = m.is_cleaning } in
    let stood : Stands old s = subst (λ (w : Managed). Stands w s) (sym c.self.view_is) st in
    subst (λ (bs : List BlockState). Stands (record old { blocks = bs }) (with_access s c.args.block)) (sym c.add_access.ensures)
    (stands_stats add_access old s c.args.block (record (s.stats c.args.block) { access = plus (s.stats c.args.block).access 1 }) stood (λ it is. ap (λ (t : model_state.Stats). record t { access = plus t.access 1 }) (stood.blocks c.args.block it is).stats))

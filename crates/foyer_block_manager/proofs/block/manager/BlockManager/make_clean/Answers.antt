use Rattle.std.proofs.Common.{◌<◌, ◌^◌, length, slice_get, sym, ap, subst, ◌∙◌, arith}
use Rattle.std.specs.VecDeque.{deque_capacity}
use Rattle.foyer_block_manager.specs.Managed.{Managed, is_evictable}
use Rattle.foyer_block_manager.specs.BlockSets.{Stands}
use Rattle.foyer_block_manager.specs.declared.block.states.BlockState.{BlockState}
use Rattle.foyer_block_manager.specs.declared.block.states.BlockSet.TheVariants.{Clean}
use Rattle.foyer_block_manager.proofs.BlockStateLemmas.{set_there}
use Rattle.foyer_block_manager.proofs.InitialLemmas.{Readable, readable, evictable_block, kept_made_clean, stands_made_clean}
use Rattle.foyer_block_manager.proofs.ManagedLemmas.{few_usable, clean_fewer, clean_room_for}
use Rattle.foyer_block_manager.proofs.MarkLemmas.{not_clean}
use Rattle.foyer_block_manager.proofs.block.manager.BlockManager.make_clean.Goals as goal

pub index_mut-state-requires : goal.index_mut-state-requires
index_mut-state-requires g c =
    let m = c.self.inside in
    let old : Managed = record { blocks = m.blocks.items; clean = m.clean.items; evictable = m.evictable.ids; waiting = m.waiting.items; ready = m.ready.items; reclaimers = m.reclaimers; clean_threshold = m.clean_threshold; block_size = m.block_size; is_cleaning = m.is_cleaning } in
    let lt : c.args.id < length m.blocks.items = evictable_block c.args.self.now old c.args.id c.self.view_is c.requires in
    omega (arith, m.blocks.ok.0)

pub remove-requires : goal.remove-requires
remove-requires g c =
    let m = c.self.inside in
    let old : Managed = record { blocks = m.blocks.items; clean = m.clean.items; evictable = m.evictable.ids; waiting = m.waiting.items; ready = m.ready.items; reclaimers = m.reclaimers; clean_threshold = m.clean_threshold; block_size = m.block_size; is_cleaning = m.is_cleaning } in
    (c.self.invariant).evictable_is c.args.id ∙ ap (λ (w : Managed). is_evictable (slice_get w.blocks c.args.id)) c.self.view_is ∙ c.requires

pub one_more-self-inside-requires : goal.one_more-self-inside-requires
one_more-self-inside-requires g c =
    let m = c.self.inside in
    let old : Managed = record { blocks = m.blocks.items; clean = m.clean.items; evictable = m.evictable.ids; waiting = m.waiting.items; ready = m.ready.items; reclaimers = m.reclaimers; clean_threshold = m.clean_threshold; block_size = m.block_size; is_cleaning = m.is_cleaning } in
    let before : BlockState = c.index_mut-state.result.now in
    let r : Readable m.blocks.items c.args.id before = readable c.args.self.now old c.args.id before c.self.view_is c.requires c.index_mut-state.ensures.value in
    let few : length m.blocks.items < 2 ^ 32 = (c.self.invariant).few in
    few_usable c.self.invariant (length m.blocks.items)
    (clean_fewer c.self.invariant c.args.id before before r.was (not_clean before.block_set r.evictable)) (omega arith)

pub push_back_reserved-requires : goal.push_back_reserved-requires
push_back_reserved-requires g c =
    let m = c.self.inside in
    let old : Managed = record { blocks = m.blocks.items; clean = m.clean.items; evictable = m.evictable.ids; waiting = m.waiting.items; ready = m.ready.items; reclaimers = m.reclaimers; clean_threshold = m.clean_threshold; block_size = m.block_size; is_cleaning = m.is_cleaning } in
    let before : BlockState = c.index_mut-state.result.now in
    let r : Readable m.blocks.items c.args.id before = readable c.args.self.now old c.args.id before c.self.view_is c.requires c.index_mut-state.ensures.value in
    let less : length m.clean.items < deque_capacity m.clean = clean_room_for c.self.invariant c.args.id before before r.was (not_clean before.block_set r.evictable) in
    omega (arith, m.clean.ok.0)

pub invariant_of-self : goal.invariant_of-self
invariant_of-self g c =
    let m = c.self.inside in
    let old : Managed = record { blocks = m.blocks.items; clean = m.clean.items; evictable = m.evictable.ids; waiting = m.waiting.items; ready = m.ready.items; reclaimers = m.reclaimers; clean_threshold = m.clean_threshold; block_size = m.block_size; is_cleaning = m.is_cleaning } in
    let before : BlockState = c.index_mut-state.result.now in
    let r : Readable m.blocks.items c.args.id before = readable c.args.self.now old c.args.id before c.self.view_is c.requires c.index_mut-state.ensures.value in
    kept_made_clean c.self.invariant c.args.id before r.was r.evictable c.push_back_reserved.new.self.items c.remove.new.self c.one_more-self-inside.result
    (deque_capacity c.push_back_reserved.new.self) c.push_back_reserved.ensures.items c.remove.ensures.ids c.remove.ensures.bound c.one_more-self-inside.ensures
    c.push_back_reserved.ensures.capacity

pub returns-clause-others : goal.returns-clause-others
returns-clause-others g c = λ q ne.
    let m = c.self.inside in
    let old : Managed = record { blocks = m.blocks.items; clean = m.clean.items; evictable = m.evictable.ids; waiting = m.waiting.items; ready = m.ready.items; reclaimers = m.reclaimers; clean_threshold = m.clean_threshold; block_size = m.block_size; is_cleaning = m.is_cleaning } in
    set_there m.blocks.items c.args.id q (record (c.index_mut-state.result.now) { block_set = Clean }) ne ∙ ap (λ (w : Managed). slice_get w.blocks q) c.self.view_is

pub returns-clause-clean : goal.returns-clause-clean
returns-clause-clean g c = λ s st.
    let m = c.self.inside in
    let old : Managed = record { blocks = m.blocks.items; clean = m.clean.items; evictable = m.evictable.ids; waiting = m.waiting.items; ready = m.ready.items; reclaimers = m.reclaimers; clean_threshold = m.clean_threshold; block_size = m.block_size; is_cleaning = m.is_cleaning } in
    let stood : Stands old s = subst (λ (w : Managed). Stands w s) (sym c.self.view_is) st in
    let before : BlockState = c.index_mut-state.result.now in
    let r : Readable m.blocks.items c.args.id before = readable c.args.self.now old c.args.id before c.self.view_is c.requires c.index_mut-state.ensures.value in
    stands_made_clean old s c.args.id before c.push_back_reserved.new.self.items c.remove.new.self.ids stood r.was c.push_back_reserved.ensures.items

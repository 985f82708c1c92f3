use Rattle.std.proofs.Common.{◌≡◌, ◌<◌, ◌≤◌, ◌+◌, ◌-◌, ◌^◌, ℕ, true, false, Some, None, List, Option, length, slice_get, slice_set, slice_index_or, vec_capacity, refl, sym, ap, subst, ◌∙◌, arith}
use Rattle.std.proofs.lemmas.Option.{slice_get_read}
use Rattle.std.specs.VecDeque.{deque_capacity}
use Rattle.foyer_core_model.specs.Ids.{is_id_in, AreDistinct}
use Rattle.foyer_core_model.proofs.Ids.{distinct_front}
use Rattle.foyer_block_manager.specs.Managed.{Managed, IsReclaimed, is_evictable, is_reclaiming, is_clean_set, is_evictable_set, is_reclaiming_set, one_if}
use Rattle.foyer_block_manager.specs.BlockSets.{Stands}
use Rattle.foyer_block_manager.specs.declared.block.states.BlockState.{BlockState}
use Rattle.foyer_block_manager.specs.declared.block.states.BlockSet.TheVariants.{Clean, Writing, Reclaiming}
use Rattle.foyer_block_manager.proofs.BlockStateLemmas.{set_count, there_is, some_is}
use Rattle.foyer_block_manager.proofs.ManagedLemmas.{kept_waiting, kept_popped, waiter_there, some_reclaimed, few_usable, same_list, kept_unclean, kept_cleaned, clean_fewer, clean_room_for}
use Rattle.foyer_block_manager.proofs.StandsLemmas.{stands_given, stands_cleaned}
use Rattle.foyer_block_manager.proofs.block.manager.BlockManager.on_reclaim_finish.Goals as goal

-- the block is there, and is reclaimed
record Found (blocks : List BlockState) (b : ℕ) (it : BlockState) : Type 0 where
  there : b < length blocks
  was : slice_get blocks b ≡ Some it
  block_set : it.block_set ≡ Reclaiming

there : (v m : Managed) (b : ℕ) → m ≡ v → IsReclaimed v b → b < length m.blocks
there v m b view is = let r = subst (λ (w : Managed). IsReclaimed w b) (sym view) is in there_is m.blocks b r.0 r.1

found : (v m : Managed) (b : ℕ) (it : BlockState) → m ≡ v → IsReclaimed v b → it ≡ slice_index_or m.blocks b it → Found m.blocks b it
found v m b it view is reads =
    let r = subst (λ (w : Managed). IsReclaimed w b) (sym view) is in
    let lt : b < length m.blocks = there_is m.blocks b r.0 r.1 in
    let was : slice_get m.blocks b ≡ Some it = slice_get_read m.blocks (length m.blocks) b it refl lt reads in
    record { there = lt; was = was; block_set = ap (λ (x : BlockState). x.block_set) (some_is (sym was ∙ r.1)) ∙ r.2 }

pub index-requires : goal.index-requires
index-requires g c =
    let m = c.self.inside in
    let old : Managed = record { blocks = m.blocks.items; clean = m.clean.items; evictable = m.evictable.ids; waiting = m.waiting.items; ready = m.ready.items; reclaimers = m.reclaimers; clean_threshold = m.clean_threshold; block_size = m.block_size; is_cleaning = m.is_cleaning } in
    let lt : c.args.block < length m.blocks.items = there c.args.self.now old c.args.block c.self.view_is c.requires in
    omega (arith, m.blocks.ok.0)

pub overflow_sub-self : goal.overflow_sub-self
overflow_sub-self g c =
    let m = c.self.inside in
    let old : Managed = record { blocks = m.blocks.items; clean = m.clean.items; evictable = m.evictable.ids; waiting = m.waiting.items; ready = m.ready.items; reclaimers = m.reclaimers; clean_threshold = m.clean_threshold; block_size = m.block_size; is_cleaning = m.is_cleaning } in
    let f : Found m.blocks.items c.args.block c.index.result.now = found c.args.self.now old c.args.block c.index.result.now c.self.view_is c.requires c.index.ensures in
    let some : 0 < m.reclaiming = some_reclaimed c.self.invariant c.args.block c.index.result.now f.was f.block_set in
    omega arith

pub index_mut-requires : goal.index_mut-requires
index_mut-requires g c =
    let m = c.self.inside in
    let old : Managed = record { blocks = m.blocks.items; clean = m.clean.items; evictable = m.evictable.ids; waiting = m.waiting.items; ready = m.ready.items; reclaimers = m.reclaimers; clean_threshold = m.clean_threshold; block_size = m.block_size; is_cleaning = m.is_cleaning } in
    let lt : c.args.block < length m.blocks.items = there c.args.self.now old c.args.block c.self.view_is c.requires in
    omega (arith, m.blocks.ok.0)

pub index_mut-requires-in-Some : goal.index_mut-requires-in-Some
index_mut-requires-in-Some g c =
    let m = c.self.inside in
    let lt : c.in-Some.flusher < length m.ready.items = waiter_there c.self.invariant c.next_waiter.new.waiting.items c.in-Some.flusher c.in-Some.ensures.waiter.1 in
    omega (arith, m.ready.ok.0)

pub invariant_of-self : goal.invariant_of-self
invariant_of-self g c =
    let m = c.self.inside in
    let old : Managed = record { blocks = m.blocks.items; clean = m.clean.items; evictable = m.evictable.ids; waiting = m.waiting.items; ready = m.ready.items; reclaimers = m.reclaimers; clean_threshold = m.clean_threshold; block_size = m.block_size; is_cleaning = m.is_cleaning } in
    let f : Found m.blocks.items c.args.block c.index.result.now = found c.args.self.now old c.args.block c.index.result.now c.self.view_is c.requires c.index.ensures in
    let now : BlockState = record { block_set = Writing c.in-Some.flusher; filling = c.index.result.now.filling + 1; statistics = record { invalid = 0; access = 0; probation = false } } in
    let some : 0 < m.reclaiming = some_reclaimed c.self.invariant c.args.block c.index.result.now f.was f.block_set in
    let flag : one_if (is_reclaiming (Some c.index.result.now)) ≡ 1 = ap (λ p. one_if (is_reclaiming_set p)) f.block_set in
    let size : length (slice_set m.ready.items c.in-Some.flusher (Some c.args.block)) ≡ length m.ready.items = set_count m.ready.items c.in-Some.flusher (Some c.args.block) in
    kept_popped
    (kept_unclean c.self.invariant c.args.block c.index.result.now now f.was m.evictable (m.reclaiming - 1) (ap is_clean_set f.block_set) refl
    (same_list c.args.block false m.evictable.ids ((c.self.invariant).evictable_is c.args.block ∙ ap is_evictable f.was ∙ ap is_evictable_set f.block_set)) refl (omega arith))
    c.next_waiter.new.waiting.items c.in-Some.flusher (slice_set m.ready.items c.in-Some.flusher (Some c.args.block)) (vec_capacity c.next_waiter.new.waiting) c.in-Some.ensures.waiter.1 size c.next_waiter.ensures.room

pub returns-in-Some-clause-finished : goal.returns-in-Some-clause-finished
returns-in-Some-clause-finished g c = λ s st.
    let m = c.self.inside in
    let old : Managed = record { blocks = m.blocks.items; clean = m.clean.items; evictable = m.evictable.ids; waiting = m.waiting.items; ready = m.ready.items; reclaimers = m.reclaimers; clean_threshold = m.clean_threshold; block_size = m.block_size; is_cleaning = m.is_cleaning } in
    let stood : Stands old s = subst (λ (w : Managed). Stands w s) (sym c.self.view_is) st in
    let f : Found m.blocks.items c.args.block c.index.result.now = found c.args.self.now old c.args.block c.index.result.now c.self.view_is c.requires c.index.ensures in
    let lt : c.in-Some.flusher < length m.ready.items = waiter_there c.self.invariant c.next_waiter.new.waiting.items c.in-Some.flusher c.in-Some.ensures.waiter.1 in
    let once = distinct_front c.in-Some.flusher c.next_waiter.new.waiting.items (subst AreDistinct c.in-Some.ensures.waiter.1 (c.self.invariant).waiting_once) in
    stands_given old s c.args.block c.in-Some.flusher c.index.result.now c.next_waiter.new.waiting.items stood f.was c.in-Some.ensures.waiter.1 once.1 lt c.in-Some.ensures.waiter.0

pub index_mut-requires-2 : goal.index_mut-requires-2
index_mut-requires-2 g c =
    let m = c.self.inside in
    let old : Managed = record { blocks = m.blocks.items; clean = m.clean.items; evictable = m.evictable.ids; waiting = m.waiting.items; ready = m.ready.items; reclaimers = m.reclaimers; clean_threshold = m.clean_threshold; block_size = m.block_size; is_cleaning = m.is_cleaning } in
    let lt : c.args.block < length m.blocks.items = there c.args.self.now old c.args.block c.self.view_is c.requires in
    omega (arith, m.blocks.ok.0)

pub one_more-self-inside-requires : goal.one_more-self-inside-requires
one_more-self-inside-requires g c =
    let m = c.self.inside in
    let old : Managed = record { blocks = m.blocks.items; clean = m.clean.items; evictable = m.evictable.ids; waiting = m.waiting.items; ready = m.ready.items; reclaimers = m.reclaimers; clean_threshold = m.clean_threshold; block_size = m.block_size; is_cleaning = m.is_cleaning } in
    let f : Found m.blocks.items c.args.block c.index.result.now = found c.args.self.now old c.args.block c.index.result.now c.self.view_is c.requires c.index.ensures in
    let few : length m.blocks.items < 2 ^ 32 = (c.self.invariant).few in
    few_usable c.self.invariant (length m.blocks.items)
    (clean_fewer c.self.invariant c.args.block c.index.result.now c.index.result.now f.was (ap is_clean_set f.block_set)) (omega arith)

pub push_back_reserved-requires : goal.push_back_reserved-requires
push_back_reserved-requires g c =
    let m = c.self.inside in
    let old : Managed = record { blocks = m.blocks.items; clean = m.clean.items; evictable = m.evictable.ids; waiting = m.waiting.items; ready = m.ready.items; reclaimers = m.reclaimers; clean_threshold = m.clean_threshold; block_size = m.block_size; is_cleaning = m.is_cleaning } in
    let f : Found m.blocks.items c.args.block c.index.result.now = found c.args.self.now old c.args.block c.index.result.now c.self.view_is c.requires c.index.ensures in
    let less : length m.clean.items < deque_capacity m.clean = clean_room_for c.self.invariant c.args.block c.index.result.now c.index.result.now f.was (ap is_clean_set f.block_set) in
    omega (arith, m.clean.ok.0)

not_some : (r : Option ℕ) → ((x : ℕ) → r ≡ Some x → ⊥) → r ≡ None
not_some None _ = refl
not_some (Some x) out = absurd (out x refl)

pub invariant_of-self-2 : goal.invariant_of-self-2
invariant_of-self-2 g c =
    let m = c.self.inside in
    let old : Managed = record { blocks = m.blocks.items; clean = m.clean.items; evictable = m.evictable.ids; waiting = m.waiting.items; ready = m.ready.items; reclaimers = m.reclaimers; clean_threshold = m.clean_threshold; block_size = m.block_size; is_cleaning = m.is_cleaning } in
    let f : Found m.blocks.items c.args.block c.index.result.now = found c.args.self.now old c.args.block c.index.result.now c.self.view_is c.requires c.index.ensures in
    let now : BlockState = record { block_set = Clean; filling = c.index.result.now.filling; statistics = record { invalid = 0; access = 0; probation = false } } in
    let some : 0 < m.reclaiming = some_reclaimed c.self.invariant c.args.block c.index.result.now f.was f.block_set in
    let flag : one_if (is_reclaiming (Some c.index.result.now)) ≡ 1 = ap (λ p. one_if (is_reclaiming_set p)) f.block_set in
    let none : c.next_waiter.result ≡ None = not_some c.next_waiter.result c.in_default.not-Some in
    let waits = rw none at c.next_waiter.ensures.waiter in
    let kept = kept_cleaned c.self.invariant c.args.block c.index.result.now now f.was c.push_back_reserved.new.self.items c.one_more-self-inside.result (m.reclaiming - 1)
    (deque_capacity c.push_back_reserved.new.self) (ap is_clean_set f.block_set) refl (ap is_evictable_set f.block_set) refl c.push_back_reserved.ensures.items
    c.one_more-self-inside.ensures (omega arith) c.push_back_reserved.ensures.capacity in
    kept_waiting kept c.next_waiter.new.waiting.items m.ready.items (vec_capacity c.next_waiter.new.waiting)
    (subst AreDistinct (sym waits.1) (c.self.invariant).waiting_once)
    (λ x is. (c.self.invariant).waiting_there x (subst (λ l. is_id_in x l ≡ true) waits.1 is))
    (let le : length m.ready.items ≤ vec_capacity m.waiting = (c.self.invariant).waiting_fits in let same : vec_capacity c.next_waiter.new.waiting ≡ vec_capacity m.waiting = c.next_waiter.ensures.room in omega arith)

pub returns-clause-finished : goal.returns-clause-finished
returns-clause-finished g c = λ s st.
    let m = c.self.inside in
    let old : Managed = record { blocks = m.blocks.items; clean = m.clean.items; evictable = m.evictable.ids; waiting = m.waiting.items; ready = m.ready.items; reclaimers = m.reclaimers; clean_threshold = m.clean_threshold; block_size = m.block_size; is_cleaning = m.is_cleaning } in
    let stood : Stands old s = subst (λ (w : Managed). Stands w s) (sym c.self.view_is) st in
    let f : Found m.blocks.items c.args.block c.index.result.now = found c.args.self.now old c.args.block c.index.result.now c.self.view_is c.requires c.index.ensures in
    let none : c.next_waiter.result ≡ None = not_some c.next_waiter.result c.in_default.not-Some in
    let waits = rw none at c.next_waiter.ensures.waiter in
    stands_cleaned old s c.args.block c.index.result.now c.push_back_reserved.new.self.items c.next_waiter.new.waiting.items stood f.was waits.0 waits.1 c.push_back_reserved.ensures.items

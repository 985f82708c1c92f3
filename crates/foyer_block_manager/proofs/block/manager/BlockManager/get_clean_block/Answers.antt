use Rattle.std.proofs.Common.{◌≡◌, ◌<◌, ◌-◌, ℕ, Bool, true, false, Some, None, length, List, Option, slice_get, slice_set, slice_index_or, vec_capacity, if◌then◌else◌, inl, inr, refl, sym, ap, subst, ◌∙◌, arith}
use Rattle.std.specs.VecDeque.{deque_capacity}
use Rattle.std.proofs.lemmas.Option.{slice_get_read}
use Rattle.foyer_core_model.specs.Flush.{first_usable}
use Rattle.foyer_block_manager.specs.Managed.{Managed, IsTaken, IsFirstUsable, IsKept, filling_in}
use Rattle.foyer_block_manager.specs.BlockSets.{BlockSets, Stands, HandsOut}
use Rattle.foyer_block_manager.specs.declared.block.states.Block.{Block}
use Rattle.foyer_block_manager.proofs.BlockStateLemmas.{set_count, there_is}
use Rattle.foyer_block_manager.proofs.ManagedLemmas.{kept_served, kept_waits, kept_taken, taken_clean, waits_room, some_usable}
use Rattle.foyer_block_manager.proofs.StandsLemmas.{usable_as, clean_as, stands_ready, stands_waits, stands_taken}
use Rattle.foyer_block_manager.proofs.block.manager.BlockManager.get_clean_block.Goals as goal

-- a value by its fields
old_stands : (v m : Managed) (s : BlockSets) → m ≡ v → Stands v s → Stands m s
old_stands v m s view st = subst (λ (w : Managed). Stands w s) (sym view) st

no_ready : (ready : List (Option ℕ)) (s : ℕ → Option ℕ) (f : ℕ) (r x : Option ℕ) → ((g : ℕ) (r : Option ℕ) → slice_get ready g ≡ Some r → s g ≡ r)
    → f < length ready → r ≡ slice_index_or ready f r → r ≡ x → s f ≡ x
no_ready ready s f r x are lt reads is = are f r (slice_get_read ready (length ready) f r refl lt reads) ∙ is

not_some : (r : Option ℕ) → ((x : ℕ) → r ≡ Some x → ⊥) → r ≡ None
not_some None _ = refl
not_some (Some x) out = absurd (out x refl)

clean_is_none : (t : Bool) (a b : Option ℕ) → a ≡ b → (if t then None else b) ≡ None → (if t then None else a) ≡ None
clean_is_none true a b same is = refl
clean_is_none false a b same is = same ∙ is

-- the block that is handed out has this id
served : (s : BlockSets) (f b id : ℕ) (new : Managed) → id ≡ b → HandsOut s f (Some b) new → HandsOut s f (Some id) new
served s f b id new is handed = subst (λ (k : ℕ). HandsOut s f (Some k) new) (sym is) handed

pub invariant_of-self : goal.invariant_of-self
invariant_of-self g c =
    let m = c.self.inside in
    let size : length (slice_set m.ready.items c.args.flusher None) ≡ length m.ready.items = set_count m.ready.items c.args.flusher None in
    subst (λ w. IsKept m.blocks.items m.clean.items w (slice_set m.ready.items c.args.flusher None) m.evictable m.usable m.reclaiming (deque_capacity m.clean) (vec_capacity c.end_to_wait.new.waiting))
    (sym c.end_to_wait.ensures.waits)
    (kept_served c.self.invariant c.args.flusher (slice_set m.ready.items c.args.flusher None) (vec_capacity c.end_to_wait.new.waiting) size c.end_to_wait.ensures.room)

pub returns-in-Some-clause-handed : goal.returns-in-Some-clause-handed
returns-in-Some-clause-handed g c = λ s st.
    let m = c.self.inside in
    let old : Managed = record { blocks = m.blocks.items; clean = m.clean.items; evictable = m.evictable.ids; waiting = m.waiting.items; ready = m.ready.items; reclaimers = m.reclaimers; clean_threshold = m.clean_threshold; block_size = m.block_size; is_cleaning = m.is_cleaning } in
    let stood : Stands old s = old_stands c.args.self.now old s c.self.view_is st in
    let lt : c.args.flusher < length m.ready.items = subst (λ (w : Managed). c.args.flusher < length w.ready) (sym c.self.view_is) c.requires in
    served s c.args.flusher c.in-Some.block c.block_of.result.id (record old { waiting = c.end_to_wait.new.waiting.items; ready = slice_set m.ready.items c.args.flusher None }) (ap (λ (k : Block). k.id) c.block_of.ensures)
    (inl (
      no_ready m.ready.items s.ready c.args.flusher c.index.result.now (Some c.in-Some.block) stood.ready lt c.index.ensures c.in-Some.is,
      stands_ready old s c.args.flusher c.end_to_wait.new.waiting.items stood lt c.end_to_wait.ensures.waits,
    ))

pub begin_to_wait-requires : goal.begin_to_wait-requires
begin_to_wait-requires g c = λ not.
    let m = c.self.inside in
    let lt : c.args.flusher < length m.ready.items = subst (λ (w : Managed). c.args.flusher < length w.ready) (sym c.self.view_is) c.requires in
    let less : length m.waiting.items < vec_capacity m.waiting = waits_room c.self.invariant c.args.flusher lt not in
    omega (arith, m.waiting.ok.0)

pub invariant_of-self-in_default-next_clean : goal.invariant_of-self-in_default-next_clean
invariant_of-self-in_default-next_clean g c =
    let m = c.self.inside in
    let lt : c.args.flusher < length m.ready.items = subst (λ (w : Managed). c.args.flusher < length w.ready) (sym c.self.view_is) c.requires in
    subst (λ w. IsKept m.blocks.items m.clean.items w m.ready.items m.evictable m.usable m.reclaiming (deque_capacity m.clean) (vec_capacity c.begin_to_wait.new.waiting))
    (sym c.begin_to_wait.ensures.waits)
    (kept_waits c.self.invariant c.args.flusher (vec_capacity c.begin_to_wait.new.waiting) lt c.begin_to_wait.ensures.room)

pub returns-in_default-next_clean-clause-handed : goal.returns-in_default-next_clean-clause-handed
returns-in_default-next_clean-clause-handed g c = λ s st.
    let m = c.self.inside in
    let old : Managed = record { blocks = m.blocks.items; clean = m.clean.items; evictable = m.evictable.ids; waiting = m.waiting.items; ready = m.ready.items; reclaimers = m.reclaimers; clean_threshold = m.clean_threshold; block_size = m.block_size; is_cleaning = m.is_cleaning } in
    let stood : Stands old s = old_stands c.args.self.now old s c.self.view_is st in
    let lt : c.args.flusher < length m.ready.items = subst (λ (w : Managed). c.args.flusher < length w.ready) (sym c.self.view_is) c.requires in
    let none = rw c.in_default-next_clean.is at c.next_clean.ensures in (
      no_ready m.ready.items s.ready c.args.flusher c.index.result.now None stood.ready lt c.index.ensures (not_some c.index.result.now c.in_default.not-Some),
      ap (λ (t : Bool). if t then None else first_usable s.filling s.clean) stood.is_cleaning
          ∙ clean_is_none m.is_cleaning (first_usable s.filling s.clean) (first_usable (filling_in m.blocks.items) m.clean.items)
          (usable_as old s stood (c.self.invariant).clean_is) none,
      stands_waits old s c.args.flusher c.begin_to_wait.new.waiting.items stood c.begin_to_wait.ensures.waits,
    )

pub overflow_sub-self : goal.overflow_sub-self
overflow_sub-self g c =
    let some : 0 < c.self.inside.usable = some_usable c.self.invariant c.in-Some-next_clean.index c.in-Some-next_clean.ensures.1 in
    omega arith

pub invariant_of-self-2 : goal.invariant_of-self-2
invariant_of-self-2 g c =
    let m = c.self.inside in
    subst (λ w. IsKept c.hand_out-block.new.blocks.items c.hand_out-block.new.clean.items w m.ready.items m.evictable (m.usable - 1) m.reclaiming (deque_capacity c.hand_out-block.new.clean) (vec_capacity c.end_to_wait-2.new.waiting))
    (sym c.end_to_wait-2.ensures.waits)
    (kept_served (kept_taken c.self.invariant c.args.flusher c.hand_out-block.result c.hand_out-block.new.blocks.items c.hand_out-block.new.clean.items
    (deque_capacity c.hand_out-block.new.clean) c.hand_out-block.ensures.taken c.hand_out-block.ensures.room)
    c.args.flusher m.ready.items (vec_capacity c.end_to_wait-2.new.waiting) refl c.end_to_wait-2.ensures.room)

pub returns-clause-handed : goal.returns-clause-handed
returns-clause-handed g c = λ s st.
    let m = c.self.inside in
    let old : Managed = record { blocks = m.blocks.items; clean = m.clean.items; evictable = m.evictable.ids; waiting = m.waiting.items; ready = m.ready.items; reclaimers = m.reclaimers; clean_threshold = m.clean_threshold; block_size = m.block_size; is_cleaning = m.is_cleaning } in
    let stood : Stands old s = old_stands c.args.self.now old s c.self.view_is st in
    let lt : c.args.flusher < length m.ready.items = subst (λ (w : Managed). c.args.flusher < length w.ready) (sym c.self.view_is) c.requires in
    let taken : IsTaken c.args.flusher m.blocks.items m.clean.items c.hand_out-block.result c.hand_out-block.new.blocks.items c.hand_out-block.new.clean.items = c.hand_out-block.ensures.taken in
    let first : IsFirstUsable m.clean.items m.blocks.items taken.index = taken.first in
    let there : c.hand_out-block.result < length m.blocks.items = there_is m.blocks.items c.hand_out-block.result taken.before taken.was in
    let size : length c.hand_out-block.new.blocks.items ≡ length m.blocks.items = ap length taken.blocks_are ∙ set_count m.blocks.items c.hand_out-block.result _ in
    served s c.args.flusher c.hand_out-block.result c.block_of-2.result.id (record old { blocks = c.hand_out-block.new.blocks.items; clean = c.hand_out-block.new.clean.items; waiting = c.end_to_wait-2.new.waiting.items }) (ap (λ (k : Block). k.id) c.block_of-2.ensures)
    (inr (
      no_ready m.ready.items s.ready c.args.flusher c.index.result.now None stood.ready lt c.index.ensures (not_some c.index.result.now c.in_default.not-Some),
      ap (λ (t : Bool). if t then None else first_usable s.filling s.clean) (stood.is_cleaning ∙ c.in-Some-next_clean.ensures.0)
          ∙ usable_as old s stood (c.self.invariant).clean_is ∙ first.first ∙ ap Some (sym taken.is),
      clean_as old s c.hand_out-block.result taken.before stood taken.was
          (taken_clean c.self.invariant c.args.flusher c.hand_out-block.result c.hand_out-block.new.blocks.items c.hand_out-block.new.clean.items taken),
      omega arith,
      stands_taken old s c.args.flusher c.hand_out-block.result c.hand_out-block.new.blocks.items c.hand_out-block.new.clean.items c.end_to_wait-2.new.waiting.items
          stood (c.self.invariant).clean_once taken c.end_to_wait-2.ensures.waits,
    ))

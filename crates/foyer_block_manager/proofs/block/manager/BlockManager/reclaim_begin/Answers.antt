use Rattle.std.proofs.Common.{◌≡◌, ◌<◌, ◌≤◌, ◌+◌, ◌^◌, ℕ, true, Some, List, length, vec_capacity, slice_get, slice_set, refl, sym, ap, subst, ◌∙◌, arith}
use Rattle.foyer_core_model.specs.Numbers.{put}
use Rattle.foyer_core_model.specs.Reclaim as model_reclaim
use Rattle.foyer_core_model.specs.State as model_state
use Rattle.foyer_core_model.specs.Ids.{is_id_in}
use Rattle.std.specs.Prelude.{IfSome}
use Rattle.foyer_block_manager.specs.Drawing.{IsDrawn}
use Rattle.foyer_block_manager.specs.Managed.{Managed, IsKept, is_evictable, is_reclaiming, one_if, reclaim_count_in}
use Rattle.foyer_block_manager.specs.Pickers.{Info, picker_info, answers_of, answers_given, marks_given, pick_of}
use Rattle.foyer_block_manager.specs.Picks.{usable_in}
use Rattle.foyer_block_manager.specs.Shown.{AreShown}
use Rattle.std.specs.VecDeque.{deque_capacity}
use Rattle.foyer_block_manager.specs.BlockSets.{Stands}
use Rattle.foyer_block_manager.specs.declared.block.states.BlockState.{BlockState}
use Rattle.foyer_block_manager.specs.declared.block.states.BlockSet.TheVariants.{Reclaiming}
use Rattle.foyer_block_manager.proofs.BlockStateLemmas.{set_count, reclaimed_at_most}
use Rattle.foyer_block_manager.proofs.ManagedLemmas.{kept_unclean}
use Rattle.foyer_block_manager.proofs.MarkLemmas.{chosen_in, kept_marked, marked_count, not_clean, not_reclaiming, Chosen, chosen, chosen_there, stands_reclaimed, chosen_first}
use Rattle.foyer_block_manager.proofs.block.manager.BlockManager.reclaim_begin.Goals as goal

pub remove-requires : goal.remove-requires
remove-requires g c =
    let m = c.self.inside in
    chosen_in m.blocks.items c.info_of-info.result.blocks.now m.evictable.ids c.as_slice.result.now (answers_of g.P.EvictionPicker.answer g.P.EvictionPicker.marks c.args.pickers.now (picker_info c.info_of-info.result.blocks.now c.info_of-info.result.evictable.now c.info_of-info.result.clean)) c.in_ok-first_pick.first_pick c.choose-block.result c.info_of-info.ensures.0 c.as_slice.ensures (c.self.invariant).evictable_is c.in_ok-first_pick.ensures.picked c.choose-block.ensures.chosen

pub index_mut-requires : goal.index_mut-requires
index_mut-requires g c =
    let m = c.self.inside in
    let is : is_id_in c.choose-block.result m.evictable.ids ≡ true = chosen_in m.blocks.items c.info_of-info.result.blocks.now m.evictable.ids c.as_slice.result.now (answers_of g.P.EvictionPicker.answer g.P.EvictionPicker.marks c.args.pickers.now (picker_info c.info_of-info.result.blocks.now c.info_of-info.result.evictable.now c.info_of-info.result.clean)) c.in_ok-first_pick.first_pick c.choose-block.result c.info_of-info.ensures.0 c.as_slice.ensures (c.self.invariant).evictable_is c.in_ok-first_pick.ensures.picked c.choose-block.ensures.chosen in
    let lt : c.choose-block.result < length c.mark.new.blocks.items =
    chosen_there m.blocks.items c.mark.new.blocks.items c.deref.result.now c.choose-block.result c.mark.ensures (sym ((c.self.invariant).evictable_is c.choose-block.result) ∙ is) in
    omega (arith, c.mark.new.blocks.ok.0)

pub overflow_add-self : goal.overflow_add-self
overflow_add-self g c =
    let m = c.self.inside in
    let few : length m.blocks.items < 2 ^ 32 = (c.self.invariant).few in
    let ran : m.reclaiming ≡ reclaim_count_in (length m.blocks.items) m.blocks.items = (c.self.invariant).reclaiming_is in
    let most : reclaim_count_in (length m.blocks.items) m.blocks.items ≤ length m.blocks.items = reclaimed_at_most (length m.blocks.items) m.blocks.items in
    omega arith

pub invariant_of-self : goal.invariant_of-self
invariant_of-self g c =
    let m = c.self.inside in
    let is : is_id_in c.choose-block.result m.evictable.ids ≡ true = chosen_in m.blocks.items c.info_of-info.result.blocks.now m.evictable.ids c.as_slice.result.now (answers_of g.P.EvictionPicker.answer g.P.EvictionPicker.marks c.args.pickers.now (picker_info c.info_of-info.result.blocks.now c.info_of-info.result.evictable.now c.info_of-info.result.clean)) c.in_ok-first_pick.first_pick c.choose-block.result c.info_of-info.ensures.0 c.as_slice.ensures (c.self.invariant).evictable_is c.in_ok-first_pick.ensures.picked c.choose-block.ensures.chosen in
    let before : BlockState = c.index_mut.result.now in
    let f : Chosen c.mark.new.blocks.items c.choose-block.result before =
    chosen m.blocks.items c.mark.new.blocks.items c.deref.result.now c.choose-block.result before c.mark.ensures (sym ((c.self.invariant).evictable_is c.choose-block.result) ∙ is) c.index_mut.ensures.value in
    let kept = subst (λ bs. IsKept bs m.clean.items m.waiting.items m.ready.items m.evictable m.usable m.reclaiming (deque_capacity m.clean) (vec_capacity m.waiting)) (sym c.mark.ensures) (kept_marked c.deref.result.now c.self.invariant) in
    let flag : one_if (is_reclaiming (Some before)) ≡ 0 = not_reclaiming before.block_set f.block_set in
    kept_unclean kept c.choose-block.result before (record before { block_set = Reclaiming }) f.was c.remove.new.self (m.reclaiming + 1) (not_clean before.block_set f.block_set) refl
    c.remove.ensures.ids c.remove.ensures.bound (omega arith)

pub returns-clause-same : goal.returns-clause-same
returns-clause-same g c =
    let m = c.self.inside in
    let size : length (slice_set c.mark.new.blocks.items c.choose-block.result (record (c.index_mut.result.now) { block_set = Reclaiming })) ≡ length m.blocks.items =
    set_count c.mark.new.blocks.items c.choose-block.result (record (c.index_mut.result.now) { block_set = Reclaiming }) ∙ ap length c.mark.ensures ∙ marked_count c.deref.result.now m.blocks.items in
    record {
      blocks = size ∙ ap (λ (w : Managed). length w.blocks) c.self.view_is;
      flushers = ap (λ (w : Managed). length w.ready) c.self.view_is;
      reclaimers = ap (λ (w : Managed). w.reclaimers) c.self.view_is;
      clean_threshold = ap (λ (w : Managed). w.clean_threshold) c.self.view_is;
      block_size = ap (λ (w : Managed). w.block_size) c.self.view_is;
    }

-- what the pickers saw is what the manager has
saw : (v m : Managed) (B : List BlockState) (E : List ℕ) (C : ℕ) → m ≡ v → B ≡ m.blocks → E ≡ m.evictable → C ≡ usable_in m
    → picker_info B E C ≡ picker_info v.blocks v.evictable (usable_in v)
saw v m B E C view b e n =
    ap (λ x. picker_info x E C) b ∙ ap (λ x. picker_info m.blocks x C) e ∙ ap (λ x. picker_info m.blocks m.evictable x) n
    ∙ ap (λ (w : Managed). picker_info w.blocks w.evictable (usable_in w)) view

pub returns-clause-evictable : goal.returns-clause-evictable
returns-clause-evictable g c =
    let m = c.self.inside in
    subst (λ (w : Managed). is_id_in c.choose-block.result w.evictable ≡ true) c.self.view_is (chosen_in m.blocks.items c.info_of-info.result.blocks.now m.evictable.ids c.as_slice.result.now (answers_of g.P.EvictionPicker.answer g.P.EvictionPicker.marks c.args.pickers.now (picker_info c.info_of-info.result.blocks.now c.info_of-info.result.evictable.now c.info_of-info.result.clean)) c.in_ok-first_pick.first_pick c.choose-block.result c.info_of-info.ensures.0 c.as_slice.ensures (c.self.invariant).evictable_is c.in_ok-first_pick.ensures.picked c.choose-block.ensures.chosen)

pub returns-clause-there : goal.returns-clause-there
returns-clause-there g c =
    let m = c.self.inside in
    let is : is_id_in c.choose-block.result m.evictable.ids ≡ true = chosen_in m.blocks.items c.info_of-info.result.blocks.now m.evictable.ids c.as_slice.result.now (answers_of g.P.EvictionPicker.answer g.P.EvictionPicker.marks c.args.pickers.now (picker_info c.info_of-info.result.blocks.now c.info_of-info.result.evictable.now c.info_of-info.result.clean)) c.in_ok-first_pick.first_pick c.choose-block.result c.info_of-info.ensures.0 c.as_slice.ensures (c.self.invariant).evictable_is c.in_ok-first_pick.ensures.picked c.choose-block.ensures.chosen in
    subst (λ (w : Managed). is_evictable (slice_get w.blocks c.choose-block.result) ≡ true) c.self.view_is (sym ((c.self.invariant).evictable_is c.choose-block.result) ∙ is)

pub returns-clause-may : goal.returns-clause-may
returns-clause-may g c = λ s st. (c.may_reclaim.ensures.may s st).0 c.if-not-may_reclaim.false

pub returns-clause-answers : goal.returns-clause-answers
returns-clause-answers g c =
    let m = c.self.inside in
    let old : Managed = record { blocks = m.blocks.items; clean = m.clean.items; evictable = m.evictable.ids; waiting = m.waiting.items; ready = m.ready.items; reclaimers = m.reclaimers; clean_threshold = m.clean_threshold; block_size = m.block_size; is_cleaning = m.is_cleaning } in
    c.in_ok-first_pick.ensures.answers
    ∙ ap (λ (i : Info). answers_given i.blocks (answers_of g.P.EvictionPicker.answer g.P.EvictionPicker.marks c.args.pickers.now i))
    (saw c.args.self.now old c.info_of-info.result.blocks.now c.info_of-info.result.evictable.now c.info_of-info.result.clean c.self.view_is
    c.info_of-info.ensures.0 c.info_of-info.ensures.1 (c.info_of-info.ensures.2 ∙ (c.self.invariant).usable_is))

pub returns-clause-probation : goal.returns-clause-probation
returns-clause-probation g c =
    let m = c.self.inside in
    let old : Managed = record { blocks = m.blocks.items; clean = m.clean.items; evictable = m.evictable.ids; waiting = m.waiting.items; ready = m.ready.items; reclaimers = m.reclaimers; clean_threshold = m.clean_threshold; block_size = m.block_size; is_cleaning = m.is_cleaning } in
    c.in_ok-first_pick.ensures.probation
    ∙ ap (λ (i : Info). marks_given i.blocks (answers_of g.P.EvictionPicker.answer g.P.EvictionPicker.marks c.args.pickers.now i))
    (saw c.args.self.now old c.info_of-info.result.blocks.now c.info_of-info.result.evictable.now c.info_of-info.result.clean c.self.view_is
    c.info_of-info.ensures.0 c.info_of-info.ensures.1 (c.info_of-info.ensures.2 ∙ (c.self.invariant).usable_is))

pub returns-clause-after : goal.returns-clause-after
returns-clause-after g c = λ s st.
    let m = c.self.inside in
    let old : Managed = record { blocks = m.blocks.items; clean = m.clean.items; evictable = m.evictable.ids; waiting = m.waiting.items; ready = m.ready.items; reclaimers = m.reclaimers; clean_threshold = m.clean_threshold; block_size = m.block_size; is_cleaning = m.is_cleaning } in
    let stood : Stands old s = subst (λ (w : Managed). Stands w s) (sym c.self.view_is) st in
    let is : is_id_in c.choose-block.result m.evictable.ids ≡ true = chosen_in m.blocks.items c.info_of-info.result.blocks.now m.evictable.ids c.as_slice.result.now (answers_of g.P.EvictionPicker.answer g.P.EvictionPicker.marks c.args.pickers.now (picker_info c.info_of-info.result.blocks.now c.info_of-info.result.evictable.now c.info_of-info.result.clean)) c.in_ok-first_pick.first_pick c.choose-block.result c.info_of-info.ensures.0 c.as_slice.ensures (c.self.invariant).evictable_is c.in_ok-first_pick.ensures.picked c.choose-block.ensures.chosen in
    let before : BlockState = c.index_mut.result.now in
    let f : Chosen c.mark.new.blocks.items c.choose-block.result before =
    chosen m.blocks.items c.mark.new.blocks.items c.deref.result.now c.choose-block.result before c.mark.ensures (sym ((c.self.invariant).evictable_is c.choose-block.result) ∙ is) c.index_mut.ensures.value in
    subst (λ ids. Stands (record old { blocks = slice_set c.mark.new.blocks.items c.choose-block.result (record before { block_set = Reclaiming }); evictable = c.remove.new.self.ids })
    (record s { block_set = put s.block_set c.choose-block.result model_state.Reclaims; stats = model_reclaim.marked ids s.block_set s.stats })) c.deref.ensures.value
    (stands_reclaimed old s c.deref.result.now c.remove.new.self.ids c.mark.new.blocks.items c.choose-block.result before stood c.mark.ensures f.was)

pub returns-clause-first : goal.returns-clause-first
returns-clause-first g c = λ b picks.
    let m = c.self.inside in
    let old : Managed = record { blocks = m.blocks.items; clean = m.clean.items; evictable = m.evictable.ids; waiting = m.waiting.items; ready = m.ready.items; reclaimers = m.reclaimers; clean_threshold = m.clean_threshold; block_size = m.block_size; is_cleaning = m.is_cleaning } in
    chosen_first c.in_ok-first_pick.first_pick c.choose-block.result b (is_id_in c.choose-block.result c.as_slice.result.now ≡ true)
    (c.in_ok-first_pick.ensures.picked
    ∙ ap (λ (i : Info). pick_of i.blocks (answers_of g.P.EvictionPicker.answer g.P.EvictionPicker.marks c.args.pickers.now i))
    (saw c.args.self.now old c.info_of-info.result.blocks.now c.info_of-info.result.evictable.now c.info_of-info.result.clean c.self.view_is
    c.info_of-info.ensures.0 c.info_of-info.ensures.1 (c.info_of-info.ensures.2 ∙ (c.self.invariant).usable_is))
    ∙ picks) c.choose-block.ensures.chosen

-- what the pickers see is what the manager has then
pub returns-clause-shown : goal.returns-clause-shown
returns-clause-shown g c =
    let m = c.self.inside in
    let is : is_id_in c.choose-block.result m.evictable.ids ≡ true = chosen_in m.blocks.items c.info_of-info.result.blocks.now m.evictable.ids c.as_slice.result.now (answers_of g.P.EvictionPicker.answer g.P.EvictionPicker.marks c.args.pickers.now (picker_info c.info_of-info.result.blocks.now c.info_of-info.result.evictable.now c.info_of-info.result.clean)) c.in_ok-first_pick.first_pick c.choose-block.result c.info_of-info.ensures.0 c.as_slice.ensures (c.self.invariant).evictable_is c.in_ok-first_pick.ensures.picked c.choose-block.ensures.chosen in
    let before : BlockState = c.index_mut.result.now in
    let f : Chosen c.mark.new.blocks.items c.choose-block.result before =
    chosen m.blocks.items c.mark.new.blocks.items c.deref.result.now c.choose-block.result before c.mark.ensures (sym ((c.self.invariant).evictable_is c.choose-block.result) ∙ is) c.index_mut.ensures.value in
    let kept = subst (λ bs. IsKept bs m.clean.items m.waiting.items m.ready.items m.evictable m.usable m.reclaiming (deque_capacity m.clean) (vec_capacity m.waiting)) (sym c.mark.ensures) (kept_marked c.deref.result.now c.self.invariant) in
    let flag : one_if (is_reclaiming (Some before)) ≡ 0 = not_reclaiming before.block_set f.block_set in
    let now : BlockState = record before { block_set = Reclaiming } in
    let all = kept_unclean kept c.choose-block.result before (record before { block_set = Reclaiming }) f.was c.remove.new.self (m.reclaiming + 1) (not_clean before.block_set f.block_set) refl
    c.remove.ensures.ids c.remove.ensures.bound (omega arith) in
    let blocks = slice_set c.mark.new.blocks.items c.choose-block.result now in
    subst (λ (i : Info). AreShown g.P.EvictionPicker.forgets i c.choose-block.result c.args.pickers.now c.show_evict.new.pickers)
    (ap (λ x. picker_info x c.info_of-left.result.evictable.now c.info_of-left.result.clean) c.info_of-left.ensures.0 ∙ ap (λ x. picker_info blocks x c.info_of-left.result.clean) c.info_of-left.ensures.1
    ∙ ap (λ x. picker_info blocks c.remove.new.self.ids x) (c.info_of-left.ensures.2 ∙ all.usable_is))
    c.show_evict.ensures

-- without a pick the generator is asked, with one it isn't
pub returns-clause-drawn : goal.returns-clause-drawn
returns-clause-drawn g c = λ picks.
    let m = c.self.inside in
    let old : Managed = record { blocks = m.blocks.items; clean = m.clean.items; evictable = m.evictable.ids; waiting = m.waiting.items; ready = m.ready.items; reclaimers = m.reclaimers; clean_threshold = m.clean_threshold; block_size = m.block_size; is_cleaning = m.is_cleaning } in
    let before = g.G.Rng.stream c.args.generator.now in
    let after = g.G.Rng.stream c.choose-block.new.generator in
    subst (λ (w : Managed). IsDrawn w.evictable before c.choose-block.result after) c.self.view_is
    (subst (λ ids. IsDrawn ids before c.choose-block.result after) c.as_slice.ensures
    (c.choose-block.ensures.drawn (c.in_ok-first_pick.ensures.picked
    ∙ ap (λ (i : Info). pick_of i.blocks (answers_of g.P.EvictionPicker.answer g.P.EvictionPicker.marks c.args.pickers.now i))
    (saw c.args.self.now old c.info_of-info.result.blocks.now c.info_of-info.result.evictable.now c.info_of-info.result.clean c.self.view_is
    c.info_of-info.ensures.0 c.info_of-info.ensures.1 (c.info_of-info.ensures.2 ∙ (c.self.invariant).usable_is))
    ∙ picks)))

pub returns-clause-unasked : goal.returns-clause-unasked
returns-clause-unasked g c = λ b picks.
    let m = c.self.inside in
    let old : Managed = record { blocks = m.blocks.items; clean = m.clean.items; evictable = m.evictable.ids; waiting = m.waiting.items; ready = m.ready.items; reclaimers = m.reclaimers; clean_threshold = m.clean_threshold; block_size = m.block_size; is_cleaning = m.is_cleaning } in
    subst (λ o. IfSome o (λ x. c.choose-block.new.generator ≡ c.args.generator.now))
    (c.in_ok-first_pick.ensures.picked
    ∙ ap (λ (i : Info). pick_of i.blocks (answers_of g.P.EvictionPicker.answer g.P.EvictionPicker.marks c.args.pickers.now i))
    (saw c.args.self.now old c.info_of-info.result.blocks.now c.info_of-info.result.evictable.now c.info_of-info.result.clean c.self.view_is
    c.info_of-info.ensures.0 c.info_of-info.ensures.1 (c.info_of-info.ensures.2 ∙ (c.self.invariant).usable_is))
    ∙ picks) c.choose-block.ensures.unasked

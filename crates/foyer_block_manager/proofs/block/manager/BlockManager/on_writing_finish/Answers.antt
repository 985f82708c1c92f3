use Rattle.std.proofs.Common.{◌≡◌, ◌<◌, ℕ, Some, List, length, slice_get, slice_set, slice_index_or, refl, sym, ap, subst, ◌∙◌, arith}
use Rattle.std.proofs.lemmas.Option.{slice_get_read}
use Rattle.foyer_core_model.specs.Ids.{is_id_in}
use Rattle.foyer_block_manager.specs.Managed.{Managed, IsWritten, is_clean_set, is_reclaiming, is_reclaiming_set, one_if}
use Rattle.foyer_block_manager.specs.BlockSets.{Stands}
use Rattle.foyer_block_manager.specs.Pickers.{Info, picker_info}
use Rattle.foyer_block_manager.specs.Shown.{AreShown}
use Rattle.foyer_block_manager.specs.declared.block.states.BlockState.{BlockState}
use Rattle.foyer_block_manager.specs.declared.block.states.BlockSet.TheVariants.{Writing, Evictable}
use Rattle.foyer_block_manager.proofs.BlockStateLemmas.{set_there, there_is, some_is, append_test}
use Rattle.foyer_block_manager.proofs.ManagedLemmas.{kept_unclean}
use Rattle.foyer_block_manager.proofs.StandsLemmas.{stands_left}
use Rattle.foyer_block_manager.proofs.block.manager.BlockManager.on_writing_finish.Goals as goal

-- the block is there, and some flusher writes it
record Found (blocks : List BlockState) (b : ℕ) (it : BlockState) : Type 0 where
  there : b < length blocks
  was : slice_get blocks b ≡ Some it
  flusher : ℕ
  block_set : it.block_set ≡ Writing flusher

found : (v m : Managed) (b : ℕ) (it : BlockState) → m ≡ v → IsWritten v b → it ≡ slice_index_or m.blocks b it → Found m.blocks b it
found v m b it view is reads =
    let r = subst (λ (w : Managed). IsWritten w b) (sym view) is in
    let lt : b < length m.blocks = there_is m.blocks b r.0 r.2 in
    let was : slice_get m.blocks b ≡ Some it = slice_get_read m.blocks (length m.blocks) b it refl lt reads in
    record { there = lt; was = was; flusher = r.1; block_set = ap (λ (x : BlockState). x.block_set) (some_is (sym was ∙ r.2)) ∙ r.3 }

pub invariant_of-self : goal.invariant_of-self
invariant_of-self g c =
    let m = c.self.inside in
    let old : Managed = record { blocks = m.blocks.items; clean = m.clean.items; evictable = m.evictable.ids; waiting = m.waiting.items; ready = m.ready.items; reclaimers = m.reclaimers; clean_threshold = m.clean_threshold; block_size = m.block_size; is_cleaning = m.is_cleaning } in
    let before : BlockState = c.index_mut-state.result.now in
    let f : Found m.blocks.items c.args.block before = found c.args.self.now old c.args.block before c.self.view_is c.requires c.index_mut-state.ensures.value in
    let now : BlockState = record before { block_set = Evictable } in
    let flag : one_if (is_reclaiming (Some before)) ≡ 0 = ap (λ p. one_if (is_reclaiming_set p)) f.block_set in
    kept_unclean c.self.invariant c.args.block before now f.was c.insert.new.self m.reclaiming (ap is_clean_set f.block_set) refl
    (λ q. ap (is_id_in q) c.insert.ensures.ids ∙ append_test q c.args.block m.evictable.ids) c.insert.ensures.bound (omega arith)

pub returns-clause-left : goal.returns-clause-left
returns-clause-left g c = λ s st.
    let m = c.self.inside in
    let old : Managed = record { blocks = m.blocks.items; clean = m.clean.items; evictable = m.evictable.ids; waiting = m.waiting.items; ready = m.ready.items; reclaimers = m.reclaimers; clean_threshold = m.clean_threshold; block_size = m.block_size; is_cleaning = m.is_cleaning } in
    let stood : Stands old s = subst (λ (w : Managed). Stands w s) (sym c.self.view_is) st in
    let before : BlockState = c.index_mut-state.result.now in
    let f : Found m.blocks.items c.args.block before = found c.args.self.now old c.args.block before c.self.view_is c.requires c.index_mut-state.ensures.value in
    stands_left old s c.args.block before c.insert.new.self.ids stood f.was

-- what the pickers see is what the manager has then
pub returns-clause-shown : goal.returns-clause-shown
returns-clause-shown g c =
    let m = c.self.inside in
    let old : Managed = record { blocks = m.blocks.items; clean = m.clean.items; evictable = m.evictable.ids; waiting = m.waiting.items; ready = m.ready.items; reclaimers = m.reclaimers; clean_threshold = m.clean_threshold; block_size = m.block_size; is_cleaning = m.is_cleaning } in
    let before : BlockState = c.index_mut-state.result.now in
    let f : Found m.blocks.items c.args.block before = found c.args.self.now old c.args.block before c.self.view_is c.requires c.index_mut-state.ensures.value in
    let now : BlockState = record before { block_set = Evictable } in
    let flag : one_if (is_reclaiming (Some before)) ≡ 0 = ap (λ p. one_if (is_reclaiming_set p)) f.block_set in
    let kept = kept_unclean c.self.invariant c.args.block before now f.was c.insert.new.self m.reclaiming (ap is_clean_set f.block_set) refl
    (λ q. ap (is_id_in q) c.insert.ensures.ids ∙ append_test q c.args.block m.evictable.ids) c.insert.ensures.bound (omega arith) in
    let blocks = c.info_of-info.result.blocks.now in
    let evictable = c.info_of-info.result.evictable.now in
    let clean = c.info_of-info.result.clean in
    let n = m.usable in
    subst (λ (i : Info). AreShown g.P.EvictionPicker.learns i c.args.block c.args.pickers.now c.show_evictable.new.pickers)
    (ap (λ x. picker_info x evictable clean) c.info_of-info.ensures.0 ∙ ap (λ x. picker_info (slice_set m.blocks.items c.args.block now) x clean) c.info_of-info.ensures.1
    ∙ ap (λ x. picker_info (slice_set m.blocks.items c.args.block now) c.insert.new.self.ids x) (c.info_of-info.ensures.2 ∙ kept.usable_is))
    c.show_evictable.ensures

pub returns-clause-others : goal.returns-clause-others
returns-clause-others g c = λ q ne.
    let m = c.self.inside in
    let old : Managed = record { blocks = m.blocks.items; clean = m.clean.items; evictable = m.evictable.ids; waiting = m.waiting.items; ready = m.ready.items; reclaimers = m.reclaimers; clean_threshold = m.clean_threshold; block_size = m.block_size; is_cleaning = m.is_cleaning } in
    set_there m.blocks.items c.args.block q (record (c.index_mut-state.result.now) { block_set = Evictable }) ne ∙ ap (λ (w : Managed). slice_get w.blocks q) c.self.view_is

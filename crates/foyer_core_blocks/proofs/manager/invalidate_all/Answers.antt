use Rattle.std.proofs.Common.{◌≡◌, ℕ, ◌<◌, length, map, ◌∷◌, [], slice_index_or, refl, sym, ◌∙◌, subst}
use Rattle.std.proofs.lemmas.List.{at_drop_more, at_drop_all}
use Rattle.foyer_core_model.specs.Flush.{all_invalidated}
use Rattle.foyer_core_model.specs.State as model_state
use Rattle.foyer_block_manager.specs.BlockSets.{Stands}
use Rattle.foyer_core_blocks.specs.Addresses.{invalid_of}
use Rattle.foyer_core_blocks.specs.declared.manager.Invalidated.{Invalidated}
use Rattle.foyer_core_blocks.proofs.manager.invalidate_all.Goals as goal

pub each_stats-init : goal.each_stats-init
each_stats-init g c = record {
  same = record { blocks = refl; flushers = refl; reclaimers = refl; clean_threshold = refl; block_size = refl };
  counted = λ s st. (s.stats, st, refl);
}

pub each_stats-preserved : goal.each_stats-preserved
each_stats-preserved g c =
    let before = c.each_stats.invariant.same in
    let step = c.invalidate.ensures.same in
    record {
      same = record {
        blocks = step.blocks ∙ before.blocks;
        flushers = step.flushers ∙ before.flushers;
        reclaimers = step.reclaimers ∙ before.reclaimers;
        clean_threshold = step.clean_threshold ∙ before.clean_threshold;
        block_size = step.block_size ∙ before.block_size;
      };
      counted = λ s st.
          let xs = c.args.invalid.now in
          let i = c.each_stats.stats-index in
          let none : Invalidated = record { stats = record { block = 0; size = 0 }; filling = 0 } in
          let so = c.each_stats.invariant.counted s st in
          let lt : i < length xs = c.each_stats-test.true in (
            all_invalidated s.block_set s.filling (invalid_of (slice_index_or xs i none) ∷ []) so.0,
            c.invalidate.ensures.invalidated (record s { stats = so.0 }) so.1,
            sym (at_drop_more (λ l. all_invalidated s.block_set s.filling (map invalid_of l) so.0) xs i none lt) ∙ so.2,
          );
    }

pub returns-clause-invalidated : goal.returns-clause-invalidated
returns-clause-invalidated g c = λ s st.
    let xs = c.args.invalid.now in
    let so = c.each_stats.invariant.counted s st in
    let all : so.0 ≡ all_invalidated s.block_set s.filling (map invalid_of xs) s.stats =
    sym (at_drop_all (λ l. all_invalidated s.block_set s.filling (map invalid_of l) so.0) xs c.each_stats.stats-index c.each_stats-test.false) ∙ so.2 in
    subst (λ (now : ℕ → model_state.Stats). Stands c.each_stats.manager (record s { stats = now })) all so.1

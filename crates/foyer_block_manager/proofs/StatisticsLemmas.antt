-- Blocks and sets when the statistics of one block change.
use Rattle.std.proofs.Common.{◌≡◌, ℕ, ◌<◌, ◌^◌, List, length, Option, Some, None, slice_get, refl, sym, ap, ◌∙◌, arith}
use Rattle.foyer_core_model.specs.Numbers.{put}
use Rattle.foyer_core_model.specs.State as model_state
use Rattle.foyer_core_model.proofs.Basics.{put_same, put_other}
use Rattle.foyer_block_manager.specs.IdList.{IdList}
use Rattle.foyer_block_manager.specs.Managed.{Managed, IsKept, is_clean, is_evictable, is_reclaiming, filling_of, filling_in, reclaim_count_in}
use Rattle.foyer_block_manager.specs.BlockSets.{BlockSets, Stands, IsBlockAs}
use Rattle.foyer_block_manager.specs.Statistics.{with_statistics_at, with_stats}
use Rattle.foyer_block_manager.specs.declared.block.states.BlockState.{BlockState}
use Rattle.foyer_block_manager.specs.declared.block.states.BlockStatistics.{BlockStatistics}
use Rattle.foyer_block_manager.proofs.BlockStateLemmas.{set_count, there_is, fact_same, usable_count_same, reclaimed_same}
use Rattle.foyer_block_manager.proofs.StandsLemmas.{are_set, AreAs}

module _ (f : BlockStatistics → BlockStatistics) where
  -- a fact that doesn't depend on statistics stays
  stats_fact : {V : Type 0} (fact : Option BlockState → V) → ((it : BlockState) (t : BlockStatistics) → fact (Some (record it { statistics = t })) ≡ fact (Some it))
      → (b : ℕ) (blocks : List BlockState) (o : Option BlockState) → slice_get blocks b ≡ o → (q : ℕ)
      → fact (slice_get (with_statistics_at f o b blocks) q) ≡ fact (slice_get blocks q)
  stats_fact fact blind b blocks None e q = refl
  stats_fact fact blind b blocks (Some it) e q = fact_same fact blocks b it (record it { statistics = f it.statistics }) e (blind it (f it.statistics)) q

  pub stats_count : (b : ℕ) (blocks : List BlockState) (o : Option BlockState) → length (with_statistics_at f o b blocks) ≡ length blocks
  stats_count b blocks None = refl
  stats_count b blocks (Some it) = set_count blocks b (record it { statistics = f it.statistics })

  pub kept_stats : (b : ℕ) {blocks : List BlockState} {clean waiting : List ℕ} {ready : List (Option ℕ)} {evictable : IdList} {usable reclaiming clean_room waiting_room : ℕ}
      → IsKept blocks clean waiting ready evictable usable reclaiming clean_room waiting_room
      → IsKept (with_statistics_at f (slice_get blocks b) b blocks) clean waiting ready evictable usable reclaiming clean_room waiting_room
  kept_stats b {blocks} {clean} kept =
      let o : Option BlockState = slice_get blocks b in
      let size : length (with_statistics_at f o b blocks) ≡ length blocks = stats_count b blocks o in
      let few : length blocks < 2 ^ 32 = kept.few in
      let fits = kept.clean_fits in
      record {
        few = omega arith;
        bound = kept.bound ∙ sym size;
        clean_is = λ q. kept.clean_is q ∙ sym (stats_fact is_clean (λ it t. refl) b blocks o refl q);
        clean_once = kept.clean_once;
        clean_fits = omega arith;
        evictable_is = λ q. kept.evictable_is q ∙ sym (stats_fact is_evictable (λ it t. refl) b blocks o refl q);
        usable_is = kept.usable_is
            ∙ sym (usable_count_same (filling_in (with_statistics_at f o b blocks)) (filling_in blocks) clean (λ q is. stats_fact filling_of (λ it t. refl) b blocks o refl q));
        reclaiming_is = kept.reclaiming_is
            ∙ sym (reclaimed_same (length blocks) (with_statistics_at f o b blocks) blocks (λ q lt. stats_fact is_reclaiming (λ it t. refl) b blocks o refl q))
            ∙ ap (λ n. reclaim_count_in n (with_statistics_at f o b blocks)) (sym size);
        waiting_once = kept.waiting_once;
        waiting_there = kept.waiting_there;
        waiting_fits = kept.waiting_fits;
      }

  -- the statistics as the model has them
  abbrev Fits : BlockState → model_state.Stats → Type 0
  Fits it stats = stats ≡ record { invalid = (f it.statistics).invalid; access = (f it.statistics).access; probation = (f it.statistics).probation }

  stats_as : (blocks : List BlockState) (s : BlockSets) (b : ℕ) (stats : model_state.Stats) → AreAs blocks s.block_set s.filling s.stats → (o : Option BlockState) → slice_get blocks b ≡ o
      → ((it : BlockState) → o ≡ Some it → Fits it stats) → AreAs (with_statistics_at f o b blocks) s.block_set s.filling (put s.stats b stats)
  stats_as blocks s b stats are None e fit = λ q it is.
      let k : IsBlockAs it (s.block_set q) (s.filling q) (s.stats q) = are q it is in
      let ne : q ≡ b → ⊥ = λ same. let clash : Some it ≡ None = sym is ∙ ap (slice_get blocks) same ∙ e in cc in
      record { block_set = k.block_set; filling = k.filling; stats = put_other s.stats b stats q ne ∙ k.stats }
  stats_as blocks s b stats are (Some it) e fit =
      let k : IsBlockAs it (s.block_set b) (s.filling b) (s.stats b) = are b it e in
      are_set blocks s.block_set s.filling s.stats are b (record it { statistics = f it.statistics }) s.block_set s.filling (put s.stats b stats) (there_is blocks b it e)
      (record { block_set = k.block_set; filling = k.filling; stats = put_same s.stats b stats ∙ fit it refl })
      (λ q ne. (refl, refl, put_other s.stats b stats q ne))

  pub stands_stats : (m : Managed) (s : BlockSets) (b : ℕ) (stats : model_state.Stats) → Stands m s → ((it : BlockState) → slice_get m.blocks b ≡ Some it → Fits it stats)
      → Stands (record m { blocks = with_statistics_at f (slice_get m.blocks b) b m.blocks }) (with_stats s b stats)
  stands_stats m s b stats st fit = record {
    blocks = stats_as m.blocks s b stats st.blocks (slice_get m.blocks b) refl fit;
    clean = st.clean;
    waiting = st.waiting;
    ready = st.ready;
    is_cleaning = st.is_cleaning;
  }

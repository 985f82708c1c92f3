-- Blocks that were never handed out, some of them made clean.
use Rattle.std.proofs.Common.{◌≡◌, ℕ, zero, suc, ◌<◌, Bool, true, false, nat_lt, if◌then◌else◌, List, [], length, replicate, Some, None, slice_get, refl, sym, ap, subst, ◌∙◌, arith}
use Rattle.std.proofs.lemmas.Bool.Decides.{nat_tests}
use Rattle.foyer_core_model.specs.Ids.{is_id_in, AreDistinct}
use Rattle.foyer_core_model.specs.State as model_state
use Rattle.foyer_core_flusher.specs.Settings.{Settings}
use Rattle.foyer_block_manager.specs.BlockSets.{BlockSets, Stands, HasSameRules, IsBlockAs}
use Rattle.foyer_block_manager.specs.Initial.{new_block, new_manager, CanBeClean, with_clean}
use Rattle.foyer_block_manager.specs.Managed.{Managed, is_evictable}
use Rattle.foyer_block_manager.proofs.BlockStateLemmas.{there_is}
use Rattle.foyer_core_flusher.specs.Standing.{IsManagedAs}
use Rattle.foyer_core_steps.specs.Opened.{opened_sets}
use Rattle.foyer_core_steps.proofs.OpenedLemmas.{replicate_count, replicate_at}

copied_at : {X : Type 0} (n i : ℕ) (x : X) → i < n → slice_get (replicate n x) i ≡ Some x
copied_at zero i x lt = absurd (omega arith)
copied_at (suc n) zero x lt = refl
copied_at (suc n) (suc i) x lt = copied_at n i x (omega arith)

-- blocks that are there, each once, can be clean
pub can_be_clean : (n : ℕ) (clean : List ℕ) → AreDistinct clean → ((b : ℕ) → is_id_in b clean ≡ true → b < n) → CanBeClean (replicate n new_block) clean
can_be_clean n clean once there = record {
  once = once;
  evictable = λ b is. ap is_evictable (copied_at n b new_block (there b is));
}

-- before any is
abbrev pub new_sets : BlockSets
new_sets = record {
  block_set = λ b. model_state.Evictable;
  clean = [];
  waiting = [];
  ready = λ f. None;
  filling = λ b. 0;
  stats = λ b. model_state.no_stats;
  is_cleaning = false;
}

pub new_stands : (blocks block_size flushers reclaimers clean_threshold : ℕ) → Stands (new_manager blocks block_size flushers reclaimers clean_threshold) new_sets
new_stands blocks block_size flushers reclaimers clean_threshold = record {
  blocks = λ b it is. subst (λ x. IsBlockAs x model_state.Evictable 0 model_state.no_stats) (replicate_at blocks b new_block it is)
      (record { block_set = refl; filling = refl; stats = refl });
  clean = refl;
  waiting = refl;
  ready = λ f r is. replicate_at flushers f None r is;
  is_cleaning = refl;
}

placed_as : (m : Managed) (n : ℕ) (clean : List ℕ) → length m.blocks ≡ n → Stands m (with_clean new_sets clean) → Stands m (opened_sets n clean)
placed_as m n clean size st = record {
  blocks = λ b it is.
      let k = st.blocks b it is in
      let lt : b < length m.blocks = there_is m.blocks b it is in
      let flag : nat_lt b n ≡ true = grind (arith, nat_tests) in
      record {
        block_set = ap (λ (t : Bool). if t then (if is_id_in b clean then model_state.Clean else model_state.Evictable) else model_state.Clean) flag ∙ k.block_set;
        filling = k.filling;
        stats = k.stats;
      };
  clean = st.clean;
  waiting = st.waiting;
  ready = st.ready;
  is_cleaning = st.is_cleaning;
}

-- and so the model begins
pub opened_manager : (s : Settings) (old new : Managed) (clean : List ℕ)
    → old ≡ new_manager s.blocks s.block_size s.flushers s.reclaimers s.clean_block_threshold → HasSameRules old new
    → ((sets : BlockSets) → Stands old sets → Stands new (with_clean sets clean)) → IsManagedAs s new (opened_sets s.blocks clean)
opened_manager s old new clean made same cleans =
    let size : length new.blocks ≡ s.blocks = same.blocks ∙ ap (λ (m : Managed). length m.blocks) made ∙ replicate_count s.blocks new_block in
    record {
      blocks = size;
      flushers = same.flushers ∙ ap (λ (m : Managed). length m.ready) made ∙ replicate_count s.flushers None;
      reclaimers = same.reclaimers ∙ ap (λ (m : Managed). m.reclaimers) made;
      clean_threshold = same.clean_threshold ∙ ap (λ (m : Managed). m.clean_threshold) made;
      sets = placed_as new s.blocks clean size
          (cleans new_sets (subst (λ m. Stands m new_sets) (sym made) (new_stands s.blocks s.block_size s.flushers s.reclaimers s.clean_block_threshold)));
    }

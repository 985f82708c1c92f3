-- The sets that a manager stands for, when it changes.
use Rattle.std.proofs.Common.{◌≡◌, ℕ, zero, suc, ◌+◌, ◌<◌, ◌≤◌, ◌==◌, nat_lt, Bool, true, false, if◌then◌else◌, List, ◌++◌, [], ◌∷◌, length, Option, Some, None, slice_get, slice_set, ◌⊎◌, inl, inr, refl, sym, ap, subst, ◌∙◌, arith}
use Rattle.std.proofs.lemmas.Bool.{eqb-true, eqb-false}
use Rattle.foyer_core_model.specs.Flush.{first_usable}
use Rattle.foyer_core_model.specs.Ids.{is_id_in, with_id, without_id, AreDistinct}
use Rattle.foyer_core_model.specs.Numbers.{put, last_number}
use Rattle.foyer_core_model.specs.State as model_state
use Rattle.foyer_core_model.proofs.Ids.{same_in, later_in}
use Rattle.foyer_block_manager.proofs.WaitingLemmas.{removed_is}
use Rattle.foyer_block_manager.specs.declared.block.states.BlockSet.TheVariants.{Clean, Writing, Evictable, Reclaiming}
use Rattle.foyer_block_manager.specs.declared.block.states.BlockSet.{BlockSet}
use Rattle.foyer_core_model.proofs.Basics.{put_same, put_other}
use Rattle.foyer_block_manager.specs.Managed.{Managed, one_if, is_reclaiming, is_reclaiming_set, reclaim_count_in, IsTaken, IsFirstUsable, is_clean, filling_of, filling_in}
use Rattle.foyer_block_manager.specs.BlockSets.{BlockSets, Stands, IsBlockAs, with_ready, after_hand_out, HasFinished, after_writing, model_set, is_reclaimed, reclaim_count}
use Rattle.foyer_block_manager.specs.declared.block.states.BlockState.{BlockState}
use Rattle.foyer_block_manager.proofs.BlockStateLemmas.{set_here, set_there, some_is, there_is, is_there}

-- the blocks are as the model has them
abbrev pub AreAs : List BlockState → (ℕ → model_state.BlockSet) → (ℕ → ℕ) → (ℕ → model_state.Stats) → Type 0
AreAs blocks block_set filling stats = (b : ℕ) (it : BlockState) → slice_get blocks b ≡ Some it → IsBlockAs it (block_set b) (filling b) (stats b)

module _ (blocks : List BlockState) (block_set : ℕ → model_state.BlockSet) (filling : ℕ → ℕ) (stats : ℕ → model_state.Stats) (are : AreAs blocks block_set filling stats) where
  -- another one in a block's stead
  pub are_set : (b : ℕ) (it : BlockState) (block_set' : ℕ → model_state.BlockSet) (filling' : ℕ → ℕ) (stats' : ℕ → model_state.Stats) → b < length blocks
      → IsBlockAs it (block_set' b) (filling' b) (stats' b)
      → ((q : ℕ) → (q ≡ b → ⊥) → (block_set' q ≡ block_set q) × (filling' q ≡ filling q) × (stats' q ≡ stats q))
      → AreAs (slice_set blocks b it) block_set' filling' stats'
  are_set b it block_set' filling' stats' lt here others q x is = go (q == b) refl
    where
      go : (t : Bool) → (q == b) ≡ t → IsBlockAs x (block_set' q) (filling' q) (stats' q)
      go true e =
          let same : q ≡ b = eqb-true q b e in
          let at : slice_get (slice_set blocks b it) b ≡ Some x = subst (λ k. slice_get (slice_set blocks b it) k ≡ Some x) same is in
          subst (λ k. IsBlockAs x (block_set' k) (filling' k) (stats' k)) (sym same)
          (subst (λ y. IsBlockAs y (block_set' b) (filling' b) (stats' b)) (some_is (sym (set_here blocks b it lt) ∙ at)) here)
      go false e =
          let ne : q ≡ b → ⊥ = eqb-false q b e in
          let r : (block_set' q ≡ block_set q) × (filling' q ≡ filling q) × (stats' q ≡ stats q) = others q ne in
          let k : IsBlockAs x (block_set q) (filling q) (stats q) = are q x (sym (set_there blocks b q it ne) ∙ is) in
          record { block_set = r.0 ∙ k.block_set; filling = r.1 ∙ k.filling; stats = r.2 ∙ k.stats }

-- one element of the list of what flushers got is set
pub ready_set : (ready : List (Option ℕ)) (given : ℕ → Option ℕ) (f : ℕ) (o : Option ℕ) → f < length ready
    → ((g : ℕ) (r : Option ℕ) → slice_get ready g ≡ Some r → given g ≡ r)
    → (g : ℕ) (r : Option ℕ) → slice_get (slice_set ready f o) g ≡ Some r → put given f o g ≡ r
ready_set ready given f o lt are g r is = go (g == f) refl
  where
    go : (t : Bool) → (g == f) ≡ t → put given f o g ≡ r
    go true e =
        let same : g ≡ f = eqb-true g f e in
        let at : Some o ≡ Some r = sym (set_here ready f o lt) ∙ ap (slice_get (slice_set ready f o)) (sym same) ∙ is in
        ap (put given f o) same ∙ put_same given f o ∙ some_is at
    go false e =
        let ne : g ≡ f → ⊥ = eqb-false g f e in
        put_other given f o g ne ∙ are g r (sym (set_there ready f g o ne) ∙ is)

-- the filling of a block that is there
pub filling_at : (m : Managed) (s : BlockSets) → Stands m s → (b : ℕ) (it : BlockState) → slice_get m.blocks b ≡ Some it → s.filling b ≡ filling_in m.blocks b
filling_at m s st b it is = (st.blocks b it is).filling ∙ sym (ap filling_of is)

-- what is usable depends on the fillings of the listed blocks alone
pub first_usable_same : (F G : ℕ → ℕ) (xs : List ℕ) → ((b : ℕ) → is_id_in b xs ≡ true → F b ≡ G b) → first_usable F xs ≡ first_usable G xs
first_usable_same F G [] same = refl
first_usable_same F G (x ∷ xs) same =
    ap (λ k. if nat_lt k last_number then Some x else first_usable F xs) (same x (same_in x xs))
    ∙ ap (λ (r : Option ℕ). if nat_lt (G x) last_number then Some x else r) (first_usable_same F G xs (λ b is. same b (later_in b x xs is)))

-- a clean block is there
pub clean_there : (blocks : List BlockState) (b : ℕ) → is_clean (slice_get blocks b) ≡ true → (it : BlockState) × (slice_get blocks b ≡ Some it)
clean_there blocks b is = go (slice_get blocks b) is
  where
    go : (o : Option BlockState) → is_clean o ≡ true → (it : BlockState) × (o ≡ Some it)
    go None e = absurd (let clash : false ≡ true = e in cc)
    go (Some it) e = (it, refl)

-- the block that may be handed out, as the sets have it
pub usable_as : (m : Managed) (s : BlockSets) → Stands m s → ((b : ℕ) → is_id_in b m.clean ≡ is_clean (slice_get m.blocks b))
    → first_usable s.filling s.clean ≡ first_usable (filling_in m.blocks) m.clean
usable_as m s st clean_is =
    ap (first_usable s.filling) st.clean
    ∙ first_usable_same s.filling (filling_in m.blocks) m.clean
    (λ b is. let it = clean_there m.blocks b (sym (clean_is b) ∙ is) in filling_at m s st b it.0 it.1)

-- a flusher gets the block that it was given while it waited
pub stands_ready : (m : Managed) (s : BlockSets) (f : ℕ) (waiting : List ℕ) → Stands m s → f < length m.ready → waiting ≡ without_id f m.waiting
    → Stands (record m { waiting = waiting; ready = slice_set m.ready f None }) (with_ready s f)
stands_ready m s f waiting st lt waits = record {
  blocks = st.blocks;
  clean = st.clean;
  waiting = ap (without_id f) st.waiting ∙ sym waits;
  ready = ready_set m.ready s.ready f None lt st.ready;
  is_cleaning = st.is_cleaning;
}

-- it waits
pub stands_waits : (m : Managed) (s : BlockSets) (f : ℕ) (waiting : List ℕ) → Stands m s → waiting ≡ with_id f m.waiting
    → Stands (record m { waiting = waiting }) (record s { waiting = with_id f s.waiting })
stands_waits m s f waiting st waits = record {
  blocks = st.blocks;
  clean = st.clean;
  waiting = ap (with_id f) st.waiting ∙ sym waits;
  ready = st.ready;
  is_cleaning = st.is_cleaning;
}

-- a clean block is in its set
pub clean_as : (m : Managed) (s : BlockSets) (b : ℕ) (it : BlockState) → Stands m s → slice_get m.blocks b ≡ Some it → is_clean (Some it) ≡ true
    → s.block_set b ≡ model_state.Clean
clean_as m s b it st was clean = (st.blocks b it was).block_set ∙ go it.block_set clean
  where
    go : (p : BlockSet) → is_clean (Some (record it { block_set = p })) ≡ true → model_set p ≡ model_state.Clean
    go Clean e = refl
    go (Writing g) e = absurd (let clash : false ≡ true = e in cc)
    go Evictable e = absurd (let clash : false ≡ true = e in cc)
    go Reclaiming e = absurd (let clash : false ≡ true = e in cc)

-- a clean block is handed out to it
pub stands_taken : (m : Managed) (s : BlockSets) (f b : ℕ) (blocks : List BlockState) (clean waiting : List ℕ) → Stands m s → AreDistinct m.clean
    → IsTaken f m.blocks m.clean b blocks clean → waiting ≡ without_id f m.waiting
    → Stands (record m { blocks = blocks; clean = clean; waiting = waiting }) (after_hand_out s f b)
stands_taken m s f b blocks clean waiting st once taken waits =
    let k : IsBlockAs taken.before (s.block_set b) (s.filling b) (s.stats b) = st.blocks b taken.before taken.was in
    let now : BlockState = record (taken.before) { block_set = Writing f; filling = (taken.before).filling + 1 } in
    let first : IsFirstUsable m.clean m.blocks taken.index = taken.first in
    record {
      blocks = subst (λ bs. AreAs bs (put s.block_set b (model_state.Writes f)) (put s.filling b (s.filling b + 1)) s.stats) (sym taken.blocks_are)
          (are_set m.blocks s.block_set s.filling s.stats st.blocks b now (put s.block_set b (model_state.Writes f)) (put s.filling b (s.filling b + 1)) s.stats
          (there_is m.blocks b taken.before taken.was)
          (record {
            block_set = put_same s.block_set b (model_state.Writes f);
            filling = put_same s.filling b (s.filling b + 1) ∙ ap (λ n. n + 1) k.filling;
            stats = k.stats;
          })
          (λ q ne. (put_other s.block_set b (model_state.Writes f) q ne, put_other s.filling b (s.filling b + 1) q ne, refl)));
      clean = ap (without_id b) st.clean
          ∙ sym (taken.clean_are ∙ removed_is m.clean taken.index first.within once ∙ ap (λ k. without_id k m.clean) (sym taken.is));
      waiting = ap (without_id f) st.waiting ∙ sym waits;
      ready = st.ready;
      is_cleaning = st.is_cleaning;
    }

-- how many are reclaimed, as the sets have it
pub reclaimed_as : (n : ℕ) (m : Managed) (s : BlockSets) → n ≤ length m.blocks → Stands m s → reclaim_count n s.block_set ≡ reclaim_count_in n m.blocks
reclaimed_as zero m s le st = refl
reclaimed_as (suc n) m s le st =
    let it = is_there m.blocks n (omega arith) in
    ap (λ p. one_if (is_reclaimed p) + reclaim_count n s.block_set) ((st.blocks n it.0 it.1).block_set)
    ∙ ap (λ (t : Bool). one_if t + reclaim_count n s.block_set) (as_set (it.0).block_set)
    ∙ ap (λ o. one_if (is_reclaiming o) + reclaim_count n s.block_set) (sym it.1)
    ∙ ap (λ k. one_if (is_reclaiming (slice_get m.blocks n)) + k) (reclaimed_as n m s (omega arith) st)
  where
    as_set : (p : BlockSet) → is_reclaimed (model_set p) ≡ is_reclaiming_set p
    as_set Clean = refl
    as_set (Writing f) = refl
    as_set Evictable = refl
    as_set Reclaiming = refl

-- a reclaimed block was cleaned, and goes to the flusher that began to wait last
pub stands_given : (m : Managed) (s : BlockSets) (b f : ℕ) (before : BlockState) (others : List ℕ) → Stands m s → slice_get m.blocks b ≡ Some before
    → m.waiting ≡ others ++ f ∷ [] → is_id_in f others ≡ false → f < length m.ready → before.filling < last_number
    → HasFinished s b (Some f) (record m {
      blocks = slice_set m.blocks b (record { block_set = Writing f; filling = before.filling + 1; statistics = record { invalid = 0; access = 0; probation = false } });
      waiting = others;
      ready = slice_set m.ready f (Some b);
    })
stands_given m s b f before others st was waits once lt below =
    let k : IsBlockAs before (s.block_set b) (s.filling b) (s.stats b) = st.blocks b before was in
    let now : BlockState = record { block_set = Writing f; filling = before.filling + 1; statistics = record { invalid = 0; access = 0; probation = false } } in (
      others,
      st.waiting ∙ waits,
      once,
      subst (λ n. n < last_number) (sym k.filling) below,
      record {
        blocks = are_set m.blocks s.block_set s.filling s.stats st.blocks b now (put s.block_set b (model_state.Writes f)) (put s.filling b (s.filling b + 1)) (put s.stats b model_state.no_stats)
            (there_is m.blocks b before was)
            (record {
              block_set = put_same s.block_set b (model_state.Writes f);
              filling = put_same s.filling b (s.filling b + 1) ∙ ap (λ n. n + 1) k.filling;
              stats = put_same s.stats b model_state.no_stats;
            })
            (λ q ne. (put_other s.block_set b (model_state.Writes f) q ne, put_other s.filling b (s.filling b + 1) q ne, put_other s.stats b model_state.no_stats q ne));
        clean = st.clean;
        waiting = refl;
        ready = ready_set m.ready s.ready f (Some b) lt st.ready;
        is_cleaning = st.is_cleaning;
      },
    )

-- or is clean
pub stands_cleaned : (m : Managed) (s : BlockSets) (b : ℕ) (before : BlockState) (clean waiting : List ℕ) → Stands m s → slice_get m.blocks b ≡ Some before
    → ((m.waiting ≡ []) ⊎ (last_number ≤ before.filling)) → waiting ≡ m.waiting → clean ≡ m.clean ++ b ∷ []
    → HasFinished s b None (record m {
      blocks = slice_set m.blocks b (record { block_set = Clean; filling = before.filling; statistics = record { invalid = 0; access = 0; probation = false } });
      clean = clean;
      waiting = waiting;
    })
stands_cleaned m s b before clean waiting st was nobody waits cleans =
    let k : IsBlockAs before (s.block_set b) (s.filling b) (s.stats b) = st.blocks b before was in
    let now : BlockState = record { block_set = Clean; filling = before.filling; statistics = record { invalid = 0; access = 0; probation = false } } in (
      elim nobody [
        | inl e ↦ inl (st.waiting ∙ e)
        | inr le ↦ inr (subst (λ n. last_number ≤ n) (sym k.filling) le)
      ],
      record {
        blocks = are_set m.blocks s.block_set s.filling s.stats st.blocks b now (put s.block_set b model_state.Clean) s.filling (put s.stats b model_state.no_stats)
            (there_is m.blocks b before was)
            (record {
              block_set = put_same s.block_set b model_state.Clean;
              filling = k.filling;
              stats = put_same s.stats b model_state.no_stats;
            })
            (λ q ne. (put_other s.block_set b model_state.Clean q ne, refl, put_other s.stats b model_state.no_stats q ne));
        clean = ap (λ l. l ++ b ∷ []) st.clean ∙ sym cleans;
        waiting = st.waiting ∙ sym waits;
        ready = st.ready;
        is_cleaning = st.is_cleaning;
      },
    )

-- a flusher left its block
pub stands_left : (m : Managed) (s : BlockSets) (b : ℕ) (before : BlockState) (evictable : List ℕ) → Stands m s → slice_get m.blocks b ≡ Some before
    → Stands (record m { blocks = slice_set m.blocks b (record before { block_set = Evictable }); evictable = evictable }) (after_writing s b)
stands_left m s b before evictable st was =
    let k : IsBlockAs before (s.block_set b) (s.filling b) (s.stats b) = st.blocks b before was in
    record {
      blocks = are_set m.blocks s.block_set s.filling s.stats st.blocks b (record before { block_set = Evictable }) (put s.block_set b model_state.Evictable) s.filling s.stats
          (there_is m.blocks b before was)
          (record { block_set = put_same s.block_set b model_state.Evictable; filling = k.filling; stats = k.stats })
          (λ q ne. (put_other s.block_set b model_state.Evictable q ne, refl, refl));
      clean = st.clean;
      waiting = st.waiting;
      ready = st.ready;
      is_cleaning = st.is_cleaning;
    }

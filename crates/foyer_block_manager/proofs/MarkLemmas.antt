-- Blocks that are put on probation, and one that is chosen for a reclaim.
use Rattle.std.proofs.Common.{◌≡◌, ℕ, zero, suc, ◌<◌, ◌^◌, Bool, true, false, if◌then◌else◌, List, [], ◌∷◌, length, Option, Some, None, slice_get, slice_set, slice_index_or, MatchOption, refl, sym, ap, subst, ◌∙◌, arith}
use Rattle.std.proofs.lemmas.Option.{slice_get_read}
use Rattle.foyer_core_model.specs.Ids.{is_id_in}
use Rattle.foyer_core_model.specs.Numbers.{put}
use Rattle.foyer_core_model.specs.Reclaim as model_reclaim
use Rattle.foyer_core_model.specs.State as model_state
use Rattle.foyer_core_model.proofs.Basics.{put_same, put_other}
use Rattle.foyer_block_manager.specs.IdList.{IdList}
use Rattle.foyer_block_manager.specs.Managed.{Managed, IsKept, is_clean, is_clean_set, is_evictable, is_evictable_set, is_reclaiming, is_reclaiming_set, one_if, filling_of, filling_in, reclaim_count_in}
use Rattle.foyer_block_manager.specs.Pickers.{Answer, is_pick, pick_of}
use Rattle.foyer_block_manager.specs.Picks.{on_probation, with_mark_at, with_marks}
use Rattle.foyer_block_manager.specs.BlockSets.{BlockSets, Stands, IsBlockAs, model_set}
use Rattle.foyer_block_manager.specs.declared.block.states.BlockState.{BlockState}
use Rattle.foyer_block_manager.specs.declared.block.states.BlockSet.{BlockSet}
use Rattle.foyer_block_manager.specs.declared.block.states.BlockSet.TheVariants.{Clean, Writing, Evictable, Reclaiming}
use Rattle.foyer_block_manager.proofs.BlockStateLemmas.{set_count, there_is, fact_same, usable_count_same, reclaimed_same}
use Rattle.foyer_block_manager.proofs.MayLemmas.{evictable_there}
use Rattle.foyer_block_manager.proofs.StandsLemmas.{AreAs, are_set}

-- a block that is set as it was
pub set_as_was : (xs : List BlockState) (i : ℕ) (x : BlockState) → slice_get xs i ≡ Some x → slice_set xs i x ≡ xs
set_as_was [] i x e = refl
set_as_was (y ∷ xs) zero x e = let same : y ≡ x = cc in ap (λ z. z ∷ xs) (sym same)
set_as_was (y ∷ xs) (suc i) x e = ap (λ l. y ∷ l) (set_as_was xs i x e)

-- a mark leaves all but statistics
module _ {V : Type 0} (fact : Option BlockState → V) (blind : (it : BlockState) → fact (Some (on_probation it)) ≡ fact (Some it)) where
  marked_one : (b : ℕ) (blocks : List BlockState) (o : Option BlockState) → slice_get blocks b ≡ o → (q : ℕ)
      → fact (slice_get (with_mark_at o b blocks) q) ≡ fact (slice_get blocks q)
  marked_one b blocks None e q = refl
  marked_one b blocks (Some it) e q = go (is_evictable_set it.block_set)
    where
      go : (t : Bool) → fact (slice_get (if t then slice_set blocks b (on_probation it) else blocks) q) ≡ fact (slice_get blocks q)
      go true = fact_same fact blocks b it (on_probation it) e (blind it) q
      go false = refl

  pub marked_told : (ids : List ℕ) (blocks : List BlockState) (q : ℕ) → fact (slice_get (with_marks ids blocks) q) ≡ fact (slice_get blocks q)
  marked_told [] blocks q = refl
  marked_told (b ∷ bs) blocks q = marked_told bs (with_mark_at (slice_get blocks b) b blocks) q ∙ marked_one b blocks (slice_get blocks b) refl q

one_count : (b : ℕ) (blocks : List BlockState) (o : Option BlockState) → length (with_mark_at o b blocks) ≡ length blocks
one_count b blocks None = refl
one_count b blocks (Some it) = go (is_evictable_set it.block_set)
  where
    go : (t : Bool) → length (if t then slice_set blocks b (on_probation it) else blocks) ≡ length blocks
    go true = set_count blocks b (on_probation it)
    go false = refl

pub marked_count : (ids : List ℕ) (blocks : List BlockState) → length (with_marks ids blocks) ≡ length blocks
marked_count [] blocks = refl
marked_count (b ∷ bs) blocks = marked_count bs (with_mark_at (slice_get blocks b) b blocks) ∙ one_count b blocks (slice_get blocks b)

-- what is kept, is kept of marked blocks
pub kept_marked : (ids : List ℕ) {blocks : List BlockState} {clean waiting : List ℕ} {ready : List (Option ℕ)} {evictable : IdList} {usable reclaiming clean_room waiting_room : ℕ}
    → IsKept blocks clean waiting ready evictable usable reclaiming clean_room waiting_room
    → IsKept (with_marks ids blocks) clean waiting ready evictable usable reclaiming clean_room waiting_room
kept_marked ids {blocks} {clean} kept =
    let size : length (with_marks ids blocks) ≡ length blocks = marked_count ids blocks in
    let few : length blocks < 2 ^ 32 = kept.few in
    let fits = kept.clean_fits in
    record {
      few = omega arith;
      bound = kept.bound ∙ sym size;
      clean_is = λ q. kept.clean_is q ∙ sym (marked_told is_clean (λ it. refl) ids blocks q);
      clean_once = kept.clean_once;
      clean_fits = omega arith;
      evictable_is = λ q. kept.evictable_is q ∙ sym (marked_told is_evictable (λ it. refl) ids blocks q);
      usable_is = kept.usable_is ∙ sym (usable_count_same (filling_in (with_marks ids blocks)) (filling_in blocks) clean (λ q is. marked_told filling_of (λ it. refl) ids blocks q));
      reclaiming_is = kept.reclaiming_is ∙ sym (reclaimed_same (length blocks) (with_marks ids blocks) blocks (λ q lt. marked_told is_reclaiming (λ it. refl) ids blocks q))
          ∙ ap (λ n. reclaim_count_in n (with_marks ids blocks)) (sym size);
      waiting_once = kept.waiting_once;
      waiting_there = kept.waiting_there;
      waiting_fits = kept.waiting_fits;
    }

-- a pick is evictable
pub picked_evictable : (blocks : List BlockState) (says : List Answer) (b : ℕ) → pick_of blocks says ≡ Some b → is_evictable (slice_get blocks b) ≡ true
picked_evictable blocks [] b e = absurd (cc)
picked_evictable blocks (a ∷ rest) b e = go (is_pick blocks a.0) refl e (picked_evictable blocks rest b)
  where
    go : (t : Bool) → is_pick blocks a.0 ≡ t → (if t then a.0 else pick_of blocks rest) ≡ Some b
        → (pick_of blocks rest ≡ Some b → is_evictable (slice_get blocks b) ≡ true) → is_evictable (slice_get blocks b) ≡ true
    go true f is later = sym (ap (is_pick blocks) is) ∙ f
    go false f is later = later is

-- what is chosen is evictable: a pick, or one that was drawn
pub chosen_in : (blocks B : List BlockState) (ids slice : List ℕ) (says : List Answer) (p : Option ℕ) (r : ℕ) → B ≡ blocks → slice ≡ ids
    → ((b : ℕ) → is_id_in b ids ≡ is_evictable (slice_get blocks b)) → p ≡ pick_of B says → MatchOption p (is_id_in r slice ≡ true) (λ b. r ≡ b) → is_id_in r ids ≡ true
chosen_in blocks B ids slice says None r same is kept e drawn = subst (λ l. is_id_in r l ≡ true) is drawn
chosen_in blocks B ids slice says (Some b) r same is kept e here =
    kept r ∙ ap (λ k. is_evictable (slice_get blocks k)) here
    ∙ picked_evictable blocks says b (ap (λ bs. pick_of bs says) (sym same) ∙ sym e)

-- the evictable set is neither clean nor reclaimed
pub not_clean : (p : BlockSet) → is_evictable_set p ≡ true → is_clean_set p ≡ false
not_clean Clean e = absurd (let clash : false ≡ true = e in cc)
not_clean (Writing f) e = refl
not_clean Evictable e = refl
not_clean Reclaiming e = refl

pub not_reclaiming : (p : BlockSet) → is_evictable_set p ≡ true → one_if (is_reclaiming_set p) ≡ 0
not_reclaiming Clean e = refl
not_reclaiming (Writing f) e = refl
not_reclaiming Evictable e = refl
not_reclaiming Reclaiming e = absurd (let clash : false ≡ true = e in cc)

-- the block that was chosen, among the marked ones
pub record Chosen (blocks : List BlockState) (b : ℕ) (it : BlockState) : Type 0 where
  pub there : b < length blocks
  pub was : slice_get blocks b ≡ Some it
  pub block_set : is_evictable_set it.block_set ≡ true

pub chosen : (blocks marks : List BlockState) (ids : List ℕ) (b : ℕ) (it : BlockState) → marks ≡ with_marks ids blocks → is_evictable (slice_get blocks b) ≡ true
    → it ≡ slice_index_or marks b it → Chosen marks b it
chosen blocks marks ids b it same is reads =
    let e : is_evictable (slice_get marks b) ≡ true = ap (λ bs. is_evictable (slice_get bs b)) same ∙ marked_told is_evictable (λ it. refl) ids blocks b ∙ is in
    let r = evictable_there marks b e in
    let lt : b < length marks = there_is marks b r.0 r.1 in
    let was : slice_get marks b ≡ Some it = slice_get_read marks (length marks) b it refl lt reads in
    record { there = lt; was = was; block_set = sym (ap is_evictable was) ∙ e }

pub chosen_there : (blocks marks : List BlockState) (ids : List ℕ) (b : ℕ) → marks ≡ with_marks ids blocks → is_evictable (slice_get blocks b) ≡ true → b < length marks
chosen_there blocks marks ids b same is =
    let e : is_evictable (slice_get marks b) ≡ true = ap (λ bs. is_evictable (slice_get bs b)) same ∙ marked_told is_evictable (λ it. refl) ids blocks b ∙ is in
    let r = evictable_there marks b e in
    there_is marks b r.0 r.1

-- the sets after one mark, and after all of them
abbrev stats_marked : ℕ → (ℕ → model_state.BlockSet) → (ℕ → model_state.Stats) → ℕ → model_state.Stats
stats_marked b block_set stats = if model_reclaim.is_evictable (block_set b) then put stats b (record (stats b) { probation = true }) else stats

pub set_flag : (p : BlockSet) → model_reclaim.is_evictable (model_set p) ≡ is_evictable_set p
set_flag Clean = refl
set_flag (Writing f) = refl
set_flag Evictable = refl
set_flag Reclaiming = refl

none_marked : (b : ℕ) (blocks : List BlockState) (block_set : ℕ → model_state.BlockSet) (filling : ℕ → ℕ) (stats : ℕ → model_state.Stats) → AreAs blocks block_set filling stats
    → slice_get blocks b ≡ None → AreAs blocks block_set filling (stats_marked b block_set stats)
none_marked b blocks block_set filling stats are none q x is = go (model_reclaim.is_evictable (block_set b))
  where
    ne : q ≡ b → ⊥
    ne e = let clash : None ≡ Some x = sym none ∙ ap (slice_get blocks) (sym e) ∙ is in cc

    go : (t : Bool) → IsBlockAs x (block_set q) (filling q) ((if t then put stats b (record (stats b) { probation = true }) else stats) q)
    go true = let k : IsBlockAs x (block_set q) (filling q) (stats q) = are q x is in record { block_set = k.block_set; filling = k.filling; stats = put_other stats b (record (stats b) { probation = true }) q ne ∙ k.stats }
    go false = are q x is

are_marked_one : (b : ℕ) (blocks : List BlockState) (block_set : ℕ → model_state.BlockSet) (filling : ℕ → ℕ) (stats : ℕ → model_state.Stats) → AreAs blocks block_set filling stats
    → (o : Option BlockState) → slice_get blocks b ≡ o → AreAs (with_mark_at o b blocks) block_set filling (stats_marked b block_set stats)
are_marked_one b blocks block_set filling stats are None none = none_marked b blocks block_set filling stats are none
are_marked_one b blocks block_set filling stats are (Some it) was =
    let k : IsBlockAs it (block_set b) (filling b) (stats b) = are b it was in
    subst (λ (t : Bool). AreAs (with_mark_at (Some it) b blocks) block_set filling (if t then put stats b (record (stats b) { probation = true }) else stats))
    (sym (ap model_reclaim.is_evictable k.block_set ∙ set_flag it.block_set)) (go (is_evictable_set it.block_set) k)
  where
    go : (t : Bool) → IsBlockAs it (block_set b) (filling b) (stats b)
        → AreAs (if t then slice_set blocks b (on_probation it) else blocks) block_set filling (if t then put stats b (record (stats b) { probation = true }) else stats)
    go true k =
        are_set blocks block_set filling stats are b (on_probation it) block_set filling (put stats b (record (stats b) { probation = true })) (there_is blocks b it was)
        (record {
          block_set = k.block_set;
          filling = k.filling;
          stats = put_same stats b (record (stats b) { probation = true }) ∙ ap (λ (t : model_state.Stats). record t { probation = true }) k.stats;
        })
        (λ q ne. (refl, refl, put_other stats b (record (stats b) { probation = true }) q ne))
    go false k = are

pub are_marked : (ids : List ℕ) (blocks : List BlockState) (block_set : ℕ → model_state.BlockSet) (filling : ℕ → ℕ) (stats : ℕ → model_state.Stats) → AreAs blocks block_set filling stats
    → AreAs (with_marks ids blocks) block_set filling (model_reclaim.marked ids block_set stats)
are_marked [] blocks block_set filling stats are = are
are_marked (b ∷ bs) blocks block_set filling stats are =
    are_marked bs (with_mark_at (slice_get blocks b) b blocks) block_set filling (stats_marked b block_set stats) (are_marked_one b blocks block_set filling stats are (slice_get blocks b) refl)

-- the reclaim of a block began
pub stands_reclaimed : (m : Managed) (s : BlockSets) (ids evictable : List ℕ) (blocks : List BlockState) (b : ℕ) (before : BlockState) → Stands m s
    → blocks ≡ with_marks ids m.blocks → slice_get blocks b ≡ Some before
    → Stands (record m { blocks = slice_set blocks b (record before { block_set = Reclaiming }); evictable = evictable })
    (record s { block_set = put s.block_set b model_state.Reclaims; stats = model_reclaim.marked ids s.block_set s.stats })
stands_reclaimed m s ids evictable blocks b before st same was =
    let are : AreAs blocks s.block_set s.filling (model_reclaim.marked ids s.block_set s.stats) =
    subst (λ bs. AreAs bs s.block_set s.filling (model_reclaim.marked ids s.block_set s.stats)) (sym same) (are_marked ids m.blocks s.block_set s.filling s.stats st.blocks) in
    let k : IsBlockAs before (s.block_set b) (s.filling b) (model_reclaim.marked ids s.block_set s.stats b) = are b before was in
    record {
      blocks = are_set blocks s.block_set s.filling (model_reclaim.marked ids s.block_set s.stats) are b (record before { block_set = Reclaiming }) (put s.block_set b model_state.Reclaims) s.filling (model_reclaim.marked ids s.block_set s.stats)
          (there_is blocks b before was)
          (record { block_set = put_same s.block_set b model_state.Reclaims; filling = k.filling; stats = k.stats })
          (λ q ne. (put_other s.block_set b model_state.Reclaims q ne, refl, refl));
      clean = st.clean;
      waiting = st.waiting;
      ready = st.ready;
      is_cleaning = st.is_cleaning;
    }

-- a pick is what is chosen
pub chosen_first : (p : Option ℕ) (r b : ℕ) (drawn : Type 0) → p ≡ Some b → MatchOption p drawn (λ c. r ≡ c) → r ≡ b
chosen_first None r b drawn e here = absurd (cc)
chosen_first (Some c) r b drawn e here = let same : c ≡ b = cc in here ∙ same

-- The sets when a destroy takes all blocks.
use Rattle.std.proofs.Common.{◌≡◌, ◌≢◌, ℕ, zero, suc, ◌+◌, ◌<◌, ◌≤◌, ◌^◌, ◌==◌, nat_lt, Bool, true, false, if◌then◌else◌, List, [], ◌∷◌, ◌++◌, length, take, drop, map, Option, Some, None, slice_get, slice_set, slice_index, slice_index_or, refl, sym, ap, subst, ◌∙◌, arith, add-one}
use Rattle.std.proofs.lemmas.Bool.{eqb-true, eqb-false}
use Rattle.std.proofs.lemmas.Bool.Decides.{nat_tests}
use Rattle.std.proofs.lemmas.List.{at_drop_more, at_drop_all, append-nil}
use Rattle.std.specs.Option.{option_map}
use Rattle.foyer_core_model.specs.Destroy.{vacated, refilled}
use Rattle.foyer_core_model.specs.Flush.{usable_count}
use Rattle.foyer_core_model.specs.Ids.{is_id_in}
use Rattle.foyer_core_model.specs.Numbers.{put, plus, last_number}
use Rattle.foyer_core_model.specs.State as model_state
use Rattle.foyer_core_model.proofs.Basics.{put_same, put_other}
use Rattle.foyer_block_manager.specs.BlockSets.{BlockSets, Stands, IsBlockAs, model_set, after_writing}
use Rattle.foyer_block_manager.specs.Clearing.{with_next_filling, vacated_below, cleared}
use Rattle.foyer_block_manager.specs.IdList.{IdList}
use Rattle.foyer_block_manager.specs.Managed.{Managed, IsKept, IsWritten, IsReclaimed, is_clean, is_writing, is_writing_set, is_reclaiming_set, is_evictable, is_reclaiming, filling_in, reclaim_count_in}
use Rattle.foyer_block_manager.specs.declared.block.states.BlockState.{BlockState}
use Rattle.foyer_block_manager.specs.declared.block.states.BlockSet.{BlockSet}
use Rattle.foyer_block_manager.specs.declared.block.states.BlockSet.TheVariants.{Clean, Writing, Evictable, Reclaiming}
use Rattle.foyer_block_manager.proofs.BlockStateLemmas.{there_is, is_there, some_is, reclaimed_same}
use Rattle.foyer_block_manager.proofs.IdLemmas.{count_below}
use Rattle.foyer_block_manager.proofs.InitialLemmas.{take_all}
use Rattle.foyer_block_manager.proofs.ManagedLemmas.{below_all}

-- other sets that are the same of each block that is there
pub stands_sets : (m : Managed) (s : BlockSets) (sets : ℕ → model_state.BlockSet) → Stands m s → ((b : ℕ) → b < length m.blocks → sets b ≡ s.block_set b)
    → Stands m (record s { block_set = sets })
stands_sets m s sets st same = record {
  blocks = λ b it is. let k : IsBlockAs it (s.block_set b) (s.filling b) (s.stats b) = st.blocks b it is in
      record { block_set = same b (there_is m.blocks b it is) ∙ k.block_set; filling = k.filling; stats = k.stats };
  clean = st.clean;
  waiting = st.waiting;
  ready = st.ready;
  is_cleaning = st.is_cleaning;
}

-- a block that no flusher has stays where it is
pub stays_vacant : (m : Managed) (s : BlockSets) (b : ℕ) → Stands m s → b < length m.blocks → (IsWritten m b → ⊥)
    → Stands m (record s { block_set = put s.block_set b (vacated (s.block_set b)) })
stays_vacant m s b st lt not = stands_sets m s (put s.block_set b (vacated (s.block_set b))) st (λ q below. go q (q == b) refl)
  where
    vacant : (p : BlockSet) → ((f : ℕ) → p ≡ Writing f → ⊥) → vacated (model_set p) ≡ model_set p
    vacant Clean no_one = refl
    vacant (Writing f) no_one = absurd (no_one f refl)
    vacant Evictable no_one = refl
    vacant Reclaiming no_one = refl

    same : vacated (s.block_set b) ≡ s.block_set b
    same =
        let it = is_there m.blocks b lt in
        let k : s.block_set b ≡ model_set (it.0).block_set = (st.blocks b it.0 it.1).block_set in
        ap vacated k ∙ vacant (it.0).block_set (λ f is. not (it.0, f, it.1, is)) ∙ sym k

    go : (q : ℕ) → (t : Bool) → (q == b) ≡ t → put s.block_set b (vacated (s.block_set b)) q ≡ s.block_set q
    go q true e = ap (put s.block_set b (vacated (s.block_set b))) (eqb-true q b e) ∙ put_same s.block_set b (vacated (s.block_set b)) ∙ same ∙ ap s.block_set (sym (eqb-true q b e))
    go q false e = put_other s.block_set b (vacated (s.block_set b)) q (eqb-false q b e)

-- a block that a flusher has becomes evictable
pub becomes_vacant : (old new : Managed) (s : BlockSets) (b : ℕ) → Stands old s → IsWritten old b → Stands new (after_writing s b)
    → Stands new (record s { block_set = put s.block_set b (vacated (s.block_set b)) })
becomes_vacant old new s b st written after =
    let k : s.block_set b ≡ model_set (written.0).block_set = (st.blocks b written.0 written.2).block_set in
    subst (λ (p : model_state.BlockSet). Stands new (record s { block_set = put s.block_set b p })) (sym (ap vacated (k ∙ ap model_set written.3))) after

-- the blocks below an index are vacant
pub vacant_none : (m : Managed) (s : BlockSets) → Stands m s → Stands m (record s { block_set = vacated_below 0 s.block_set })
vacant_none m s st = stands_sets m s (vacated_below 0 s.block_set) st (λ b lt. go b (nat_lt b 0) refl)
  where
    go : (b : ℕ) → (t : Bool) → nat_lt b 0 ≡ t → (if t then vacated (s.block_set b) else s.block_set b) ≡ s.block_set b
    go b true e = absurd (grind (arith, nat_tests))
    go b false e = refl

pub vacant_more : (m : Managed) (s : BlockSets) (i : ℕ)
    → Stands m (record s { block_set = put (vacated_below i s.block_set) i (vacated (vacated_below i s.block_set i)) })
    → Stands m (record s { block_set = vacated_below (i + 1) s.block_set })
vacant_more m s i st =
    stands_sets m (record s { block_set = put (vacated_below i s.block_set) i (vacated (vacated_below i s.block_set i)) }) (vacated_below (i + 1) s.block_set) st
    (λ b lt. go b (b == i) refl (nat_lt b (i + 1)) refl (nat_lt b i) refl)
  where
    here : (t : Bool) → nat_lt i i ≡ t → (if t then vacated (s.block_set i) else s.block_set i) ≡ s.block_set i
    here true e = absurd (grind (arith, nat_tests))
    here false e = refl

    go : (b : ℕ) → (t : Bool) → (b == i) ≡ t → (u : Bool) → nat_lt b (i + 1) ≡ u → (v : Bool) → nat_lt b i ≡ v
        → (if u then vacated (s.block_set b) else s.block_set b) ≡ (if t then vacated (vacated_below i s.block_set i) else (if v then vacated (s.block_set b) else s.block_set b))
    go b true e true f v h = ap (λ k. vacated (s.block_set k)) (eqb-true b i e) ∙ ap vacated (sym (here (nat_lt i i) refl))
    go b true e false f v h = let same : b ≡ i = eqb-true b i e in absurd (grind (arith, nat_tests))
    go b false e true f true h = refl
    go b false e true f false h = let ne : b ≢ i = eqb-false b i e in absurd (grind (arith, nat_tests))
    go b false e false f true h = absurd (grind (arith, nat_tests))
    go b false e false f false h = refl

pub vacant_all : (m : Managed) (s : BlockSets) (n : ℕ) → length m.blocks ≤ n → Stands m (record s { block_set = vacated_below n s.block_set })
    → Stands m (record s { block_set = λ b. vacated (s.block_set b) })
vacant_all m s n le st = stands_sets m (record s { block_set = vacated_below n s.block_set }) (λ b. vacated (s.block_set b)) st (λ b lt. go b lt (nat_lt b n) refl)
  where
    go : (b : ℕ) → b < length m.blocks → (t : Bool) → nat_lt b n ≡ t → vacated (s.block_set b) ≡ (if t then vacated (s.block_set b) else s.block_set b)
    go b lt true e = refl
    go b lt false e = absurd (grind (arith, nat_tests))

-- every block in its next filling
pub mapped_count : {X Y : Type 0} (f : X → Y) (xs : List X) → length (map f xs) ≡ length xs
mapped_count f [] = refl
mapped_count f (x ∷ xs) = ap suc (mapped_count f xs)

mapped_get : {X Y : Type 0} (f : X → Y) (xs : List X) (i : ℕ) → slice_get (map f xs) i ≡ option_map f (slice_get xs i)
mapped_get f [] i = refl
mapped_get f (x ∷ xs) zero = refl
mapped_get f (x ∷ xs) (suc i) = mapped_get f xs i

next_fact : {V : Type 0} (fact : Option BlockState → V) → ((it : BlockState) → fact (Some (with_next_filling it)) ≡ fact (Some it))
    → (blocks : List BlockState) (b : ℕ) → fact (slice_get (map with_next_filling blocks) b) ≡ fact (slice_get blocks b)
next_fact fact blind blocks b = ap fact (mapped_get with_next_filling blocks b) ∙ go (slice_get blocks b)
  where
    go : (o : Option BlockState) → fact (option_map with_next_filling o) ≡ fact o
    go None = refl
    go (Some it) = blind it

pub kept_refilled : {blocks : List BlockState} {clean waiting : List ℕ} {ready : List (Option ℕ)} {evictable : IdList} {usable reclaiming clean_room waiting_room : ℕ}
    → IsKept blocks clean waiting ready evictable usable reclaiming clean_room waiting_room → (blocks' : List BlockState) (ready' : List (Option ℕ)) (usable' : ℕ)
    → blocks' ≡ map with_next_filling blocks → usable' ≡ usable_count (filling_in blocks') clean → length ready' ≡ length ready
    → IsKept blocks' clean waiting ready' evictable usable' reclaiming clean_room waiting_room
kept_refilled {blocks} {clean} {waiting} kept blocks' ready' usable' is counts flushers =
    let size : length blocks' ≡ length blocks = ap length is ∙ mapped_count with_next_filling blocks in
    let few : length blocks < 2 ^ 32 = kept.few in
    let fits = kept.clean_fits in
    let waits = kept.waiting_fits in
    record {
      few = omega arith;
      bound = kept.bound ∙ sym size;
      clean_is = λ q. kept.clean_is q ∙ sym (ap (λ bs. is_clean (slice_get bs q)) is ∙ next_fact is_clean (λ it. refl) blocks q);
      clean_once = kept.clean_once;
      clean_fits = omega arith;
      evictable_is = λ q. kept.evictable_is q ∙ sym (ap (λ bs. is_evictable (slice_get bs q)) is ∙ next_fact is_evictable (λ it. refl) blocks q);
      usable_is = counts;
      reclaiming_is = kept.reclaiming_is
          ∙ sym (reclaimed_same (length blocks) blocks' blocks (λ q lt. ap (λ bs. is_reclaiming (slice_get bs q)) is ∙ next_fact is_reclaiming (λ it. refl) blocks q))
          ∙ ap (λ n. reclaim_count_in n blocks') (sym size);
      waiting_once = kept.waiting_once;
      waiting_there = λ x here. let lt = kept.waiting_there x here in omega arith;
      waiting_fits = omega arith;
    }

-- there are no more clean blocks than blocks
pub clean_few : {blocks : List BlockState} {clean waiting : List ℕ} {ready : List (Option ℕ)} {evictable : IdList} {usable reclaiming clean_room waiting_room : ℕ}
    → IsKept blocks clean waiting ready evictable usable reclaiming clean_room waiting_room → length clean < 2 ^ 32
clean_few {blocks} {clean} kept =
    let le : length clean ≤ length blocks = count_below (length blocks) clean kept.clean_once (below_all (length blocks) clean (λ q here. there q here)) in
    let few : length blocks < 2 ^ 32 = kept.few in
    omega arith
  where
    there : (q : ℕ) → is_id_in q clean ≡ true → q < length blocks
    there q here = go (slice_get blocks q) refl (sym (kept.clean_is q) ∙ here)
      where
        go : (o : Option BlockState) → slice_get blocks q ≡ o → is_clean o ≡ true → q < length blocks
        go None e t = absurd (let clash : false ≡ true = t in cc)
        go (Some it) e t = there_is blocks q it e

pub stands_cleared : (m : Managed) (s : BlockSets) (blocks : List BlockState) (ready : List (Option ℕ)) (n : ℕ) → Stands m (record s { block_set = λ b. vacated (s.block_set b) })
    → blocks ≡ map with_next_filling m.blocks → ready ≡ map (λ _. None) m.ready → n ≡ length m.blocks
    → Stands (record m { blocks = blocks; ready = ready; is_cleaning = true }) (cleared n s)
stands_cleared m s blocks ready n st is forgets count = record {
  blocks = λ b it at. go b it (slice_get m.blocks b) refl (sym (ap (λ bs. slice_get bs b) is ∙ mapped_get with_next_filling m.blocks b) ∙ at);
  clean = st.clean;
  waiting = st.waiting;
  ready = λ f r at. none f r (sym (ap (λ l. slice_get l f) forgets ∙ mapped_get (λ _. None) m.ready f) ∙ at);
  is_cleaning = refl;
}
  where
    none : (f : ℕ) (r : Option ℕ) → option_map (λ _. None) (slice_get m.ready f) ≡ Some r → None ≡ r
    none f r = at (slice_get m.ready f)
      where
        at : (o : Option (Option ℕ)) → option_map (λ _. None) o ≡ Some r → None ≡ r
        at None e = absurd (cc)
        at (Some x) e = some_is e

    in_range : (b : ℕ) → b < n → (t : Bool) → nat_lt b n ≡ t → (if t then plus (s.filling b) 1 else s.filling b) ≡ plus (s.filling b) 1
    in_range b lt true e = refl
    in_range b lt false e = absurd (grind (arith, nat_tests))

    go : (b : ℕ) (it : BlockState) (o : Option BlockState) → slice_get m.blocks b ≡ o → option_map with_next_filling o ≡ Some it
        → IsBlockAs it (vacated (s.block_set b)) (refilled n s.filling b) (s.stats b)
    go b it None e at = absurd (cc)
    go b it (Some was) e at =
        let k : IsBlockAs was (vacated (s.block_set b)) (s.filling b) (s.stats b) = st.blocks b was e in
        let below : b < length m.blocks = there_is m.blocks b was e in
        subst (λ (x : BlockState). IsBlockAs x (vacated (s.block_set b)) (refilled n s.filling b) (s.stats b)) (some_is at)
        (record { block_set = k.block_set; filling = in_range b (omega arith) (nat_lt b n) refl ∙ ap (λ k. plus k 1) k.filling; stats = k.stats })

pub stands_quiet : (m : Managed) (s : BlockSets) → Stands m s → Stands (record m { is_cleaning = false }) (record s { is_cleaning = false })
stands_quiet m s st = record { blocks = st.blocks; clean = st.clean; waiting = st.waiting; ready = st.ready; is_cleaning = refl }

-- a loop that changes each element, at one of them
mapped_set : {X : Type 0} (f : X → X) (xs : List X) (i : ℕ) (x d : X) → i < length xs → x ≡ slice_index_or (map f (take i xs) ++ drop i xs) i d
    → slice_set (map f (take i xs) ++ drop i xs) i (f x) ≡ map f (take (suc i) xs) ++ drop (suc i) xs
mapped_set f [] i x d lt reads = absurd (omega arith)
mapped_set f (y ∷ ys) zero x d lt reads = ap (λ z. f z ∷ ys) reads
mapped_set f (y ∷ ys) (suc i) x d lt reads = ap (λ l. f y ∷ l) (mapped_set f ys i x d (omega arith) reads)

pub mapped_next : {X : Type 0} (f : X → X) (xs items : List X) (i : ℕ) (x d y : X) → i < length xs → items ≡ map f (take i xs) ++ drop i xs → x ≡ slice_index_or items i d → y ≡ f x
    → slice_set items i y ≡ map f (take (i + 1) xs) ++ drop (i + 1) xs
mapped_next f xs items i x d y lt was reads is =
    ap (λ l. slice_set l i y) was ∙ ap (λ z. slice_set (map f (take i xs) ++ drop i xs) i z) is ∙ mapped_set f xs i x d lt (reads ∙ ap (λ l. slice_index_or l i d) was)
    ∙ sym (ap (λ n. map f (take n xs) ++ drop n xs) (add-one i))

pub mapped_all : {X : Type 0} (f : X → X) (xs : List X) (i : ℕ) → length xs ≤ i → map f (take i xs) ++ drop i xs ≡ map f xs
mapped_all f [] zero le = refl
mapped_all f [] (suc i) le = refl
mapped_all f (x ∷ xs) zero le = absurd (omega arith)
mapped_all f (x ∷ xs) (suc i) le = ap (λ l. f x ∷ l) (mapped_all f xs i (omega arith))

-- and is written back
pub written_back : {X : Type 0} (f : X → X) (xs all items : List X) (i n : ℕ) → items ≡ map f (take i xs) ++ drop i xs → xs ≡ all → length xs ≤ i → n ≡ length all
    → take n (items ++ drop (length items) all) ≡ map f all
written_back f xs all items i n was same le count =
    let is : items ≡ map f all = was ∙ mapped_all f xs i le ∙ ap (map f) same in
    let size : length (map f all) ≡ length all = mapped_count f all in
    ap (λ l. take n (l ++ drop (length l) all)) is ∙ at_drop_all (λ l. take n (map f all ++ l)) all (length (map f all)) (omega arith)
    ∙ ap (take n) (append-nil (map f all)) ∙ take_all n (map f all) (omega arith)

-- one more clean block is counted
pub counted_more : (F : ℕ → ℕ) (xs : List ℕ) (i x n : ℕ) → i < length xs → x ≡ slice_index xs i → n + usable_count F (drop i xs) ≡ usable_count F xs
    → (n + (if nat_lt (F x) last_number then 1 else 0)) + usable_count F (drop (i + 1) xs) ≡ usable_count F xs
counted_more F xs i x n lt at was =
    ap (λ k. (n + (if nat_lt (F k) last_number then 1 else 0)) + usable_count F (drop (i + 1) xs)) at ∙ here
  where
    next : usable_count F (drop i xs) ≡ (if nat_lt (F (slice_index xs i)) last_number then 1 else 0) + usable_count F (drop (i + 1) xs)
    next = at_drop_more (usable_count F) xs i 0 lt

    here : (n + (if nat_lt (F (slice_index xs i)) last_number then 1 else 0)) + usable_count F (drop (i + 1) xs) ≡ usable_count F xs
    here = let e = next in omega arith

pub counted_all : (F : ℕ → ℕ) (xs : List ℕ) (i n : ℕ) → length xs ≤ i → n + usable_count F (drop i xs) ≡ usable_count F xs → n ≡ usable_count F xs
counted_all F xs i n le was =
    let none : usable_count F (drop i xs) ≡ 0 = at_drop_all (usable_count F) xs i le in
    omega arith

-- a block that a flusher has, or a reclaim, by its set
pub written_as : (m : Managed) (b : ℕ) → (is_writing (slice_get m.blocks b) ≡ true → IsWritten m b) × (IsWritten m b → is_writing (slice_get m.blocks b) ≡ true)
written_as m b = (go (slice_get m.blocks b) refl, λ w. ap is_writing w.2 ∙ ap is_writing_set w.3)
  where
    writes : (p : BlockSet) → is_writing_set p ≡ true → (f : ℕ) × (p ≡ Writing f)
    writes Clean e = absurd (let clash : false ≡ true = e in cc)
    writes (Writing f) e = (f, refl)
    writes Evictable e = absurd (let clash : false ≡ true = e in cc)
    writes Reclaiming e = absurd (let clash : false ≡ true = e in cc)

    go : (o : Option BlockState) → slice_get m.blocks b ≡ o → is_writing o ≡ true → IsWritten m b
    go None e t = absurd (let clash : false ≡ true = t in cc)
    go (Some it) e t = let w = writes it.block_set t in (it, w.0, e, w.1)

pub reclaimed_block : (m : Managed) (b : ℕ) → (is_reclaiming (slice_get m.blocks b) ≡ true → IsReclaimed m b) × (IsReclaimed m b → is_reclaiming (slice_get m.blocks b) ≡ true)
reclaimed_block m b = (go (slice_get m.blocks b) refl, λ w. ap is_reclaiming w.1 ∙ ap is_reclaiming_set w.2)
  where
    reclaims : (p : BlockSet) → is_reclaiming_set p ≡ true → p ≡ Reclaiming
    reclaims Clean e = absurd (let clash : false ≡ true = e in cc)
    reclaims (Writing f) e = absurd (let clash : false ≡ true = e in cc)
    reclaims Evictable e = absurd (let clash : false ≡ true = e in cc)
    reclaims Reclaiming e = refl

    go : (o : Option BlockState) → slice_get m.blocks b ≡ o → is_reclaiming o ≡ true → IsReclaimed m b
    go None e t = absurd (let clash : false ≡ true = t in cc)
    go (Some it) e t = (it, e, reclaims it.block_set t)

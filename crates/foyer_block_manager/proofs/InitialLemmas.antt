-- A manager that begins, and blocks that are made clean.
use Rattle.std.proofs.Common.{◌≡◌, ◌≢◌, ℕ, zero, suc, ◌+◌, ◌<◌, ◌≤◌, ◌^◌, ◌==◌, nat_lt, Bool, true, false, if◌then◌else◌, List, [], ◌∷◌, ◌++◌, length, take, drop, replicate, Option, Some, None, slice_get, slice_set, slice_index, slice_index_or, refl, sym, ap, subst, ◌∙◌, ◌⊎◌, inl, inr, arith}
use Rattle.std.proofs.lemmas.Bool.{eqb-true, eqb-false}
use Rattle.std.proofs.lemmas.Bool.Decides.{nat_tests}
use Rattle.std.proofs.lemmas.List.{take_more, append-nil}
use Rattle.std.proofs.Math.Seq.{drop-cons}
use Rattle.std.proofs.lemmas.Option.{slice_get_read}
use Rattle.foyer_core_model.specs.Flush.{usable_count}
use Rattle.foyer_core_model.specs.Ids.{ids, is_id_in, AreDistinct}
use Rattle.foyer_core_model.specs.Numbers.{put, last_number}
use Rattle.foyer_core_model.specs.State as model_state
use Rattle.foyer_core_model.proofs.Basics.{put_same, put_other}
use Rattle.foyer_core_model.proofs.Ids.{same_in, later_in, in_append, distinct_append, distinct_front, in_not_in}
use Rattle.foyer_block_manager.specs.BlockSets.{BlockSets, Stands, IsBlockAs, HasSameRules}
use Rattle.foyer_block_manager.specs.IdList.{IdList, IsWithout}
use Rattle.foyer_block_manager.specs.Initial.{new_block, CanBeClean, with_clean}
use Rattle.foyer_block_manager.specs.Managed.{Managed, IsKept, is_clean, is_evictable, is_evictable_set, is_reclaiming, one_if, filling_of, filling_in, reclaim_count_in}
use Rattle.foyer_block_manager.specs.Pickers.{is_evictable_in}
use Rattle.foyer_block_manager.specs.Queues.{AreFlagged}
use Rattle.foyer_block_manager.specs.declared.block.states.BlockState.{BlockState}
use Rattle.foyer_block_manager.specs.declared.block.states.BlockSet.TheVariants.{Clean}
use Rattle.foyer_block_manager.proofs.BlockStateLemmas.{set_here, there_is, some_is, append_test, usable_more}
use Rattle.foyer_block_manager.proofs.IdLemmas.{in_at}
use Rattle.foyer_block_manager.proofs.ManagedLemmas.{kept_changed, counts_same}
use Rattle.foyer_block_manager.proofs.MarkLemmas.{not_clean, not_reclaiming}
use Rattle.foyer_block_manager.proofs.QueueLemmas.{flagged_with, flagged_none, take_once}
use Rattle.foyer_block_manager.proofs.StandsLemmas.{are_set}

-- what a call never changes, over two calls
pub same_rules : (a b c : Managed) → HasSameRules a b → HasSameRules b c → HasSameRules a c
same_rules a b c p q = record {
  blocks = q.blocks ∙ p.blocks;
  flushers = q.flushers ∙ p.flushers;
  reclaimers = q.reclaimers ∙ p.reclaimers;
  clean_threshold = q.clean_threshold ∙ p.clean_threshold;
  block_size = q.block_size ∙ p.block_size;
}

pub take_all : {X : Type 0} (n : ℕ) (xs : List X) → length xs ≤ n → take n xs ≡ xs
take_all zero [] le = refl
take_all zero (x ∷ xs) le = absurd (omega arith)
take_all (suc n) [] le = refl
take_all (suc n) (x ∷ xs) le = ap (λ l. x ∷ l) (take_all n xs (omega arith))

-- the ids below n
pub in_ids : (n b : ℕ) → is_id_in b (ids n) ≡ nat_lt b n
in_ids zero b = go (nat_lt b 0) refl
  where
    go : (t : Bool) → nat_lt b 0 ≡ t → false ≡ t
    go true e = absurd (grind (arith, nat_tests))
    go false e = refl
in_ids (suc n) b = append_test b n (ids n) ∙ go (b == n) refl (in_ids n b)
  where
    go : (t : Bool) → (b == n) ≡ t → is_id_in b (ids n) ≡ nat_lt b n → (if t then true else is_id_in b (ids n)) ≡ nat_lt b (suc n)
    go true e there = let same : b ≡ n = eqb-true b n e in grind (arith, nat_tests)
    go false e there = there ∙ further (nat_lt b n) (nat_lt b (suc n)) refl refl (eqb-false b n e)
      where
        further : (t u : Bool) → nat_lt b n ≡ t → nat_lt b (suc n) ≡ u → b ≢ n → t ≡ u
        further true true e f ne = refl
        further true false e f ne = absurd (grind (arith, nat_tests))
        further false true e f ne = absurd (grind (arith, nat_tests))
        further false false e f ne = refl

-- what holds of each new block
new_fact : {V : Type 0} (fact : Option BlockState → V) (n b : ℕ) → fact (slice_get (replicate n new_block) b) ≡ (if nat_lt b n then fact (Some new_block) else fact None)
new_fact fact zero b = go (nat_lt b 0) refl
  where
    go : (t : Bool) → nat_lt b 0 ≡ t → fact None ≡ (if t then fact (Some new_block) else fact None)
    go true e = absurd (grind (arith, nat_tests))
    go false e = refl
new_fact fact (suc n) zero = go (nat_lt 0 (suc n)) refl
  where
    go : (t : Bool) → nat_lt 0 (suc n) ≡ t → fact (Some new_block) ≡ (if t then fact (Some new_block) else fact None)
    go true e = refl
    go false e = absurd (grind (arith, nat_tests))
new_fact fact (suc n) (suc b) = new_fact fact n b ∙ go (nat_lt b n) (nat_lt (suc b) (suc n)) refl refl
  where
    go : (t u : Bool) → nat_lt b n ≡ t → nat_lt (suc b) (suc n) ≡ u → (if t then fact (Some new_block) else fact None) ≡ (if u then fact (Some new_block) else fact None)
    go true true e f = refl
    go true false e f = absurd (grind (arith, nat_tests))
    go false true e f = absurd (grind (arith, nat_tests))
    go false false e f = refl

one_of : (t : Bool) → (if t then false else false) ≡ false
one_of true = refl
one_of false = refl

flag_of : (t : Bool) → (if t then true else false) ≡ t
flag_of true = refl
flag_of false = refl

none_reclaimed : (n : ℕ) (blocks : List BlockState) → ((b : ℕ) → is_reclaiming (slice_get blocks b) ≡ false) → reclaim_count_in n blocks ≡ 0
none_reclaimed zero blocks none = refl
none_reclaimed (suc n) blocks none =
    let flag : one_if (is_reclaiming (slice_get blocks n)) ≡ 0 = ap one_if (none n) in
    let rest : reclaim_count_in n blocks ≡ 0 = none_reclaimed n blocks none in
    omega arith

-- what a new manager keeps
pub kept_new : (n : ℕ) (clean waiting : List ℕ) (ready : List (Option ℕ)) (blocks : List BlockState) (evictable : IdList) (clean_room waiting_room : ℕ) → n < 2 ^ 32 → blocks ≡ replicate n new_block
    → clean ≡ [] → waiting ≡ [] → length blocks ≡ n → evictable.ids ≡ ids n → evictable.bound ≡ n → n ≤ clean_room → length ready ≤ waiting_room
    → IsKept blocks clean waiting ready evictable 0 0 clean_room waiting_room
kept_new n clean waiting ready blocks evictable clean_room waiting_room few are no_clean no_waiting size in_set bound fits waits =
    subst (λ l. IsKept blocks l waiting ready evictable 0 0 clean_room waiting_room) (sym no_clean)
    (subst (λ l. IsKept blocks [] l ready evictable 0 0 clean_room waiting_room) (sym no_waiting) (kept_nothing n ready blocks evictable clean_room waiting_room few are size in_set bound fits waits))
  where
    kept_nothing : (n : ℕ) (ready : List (Option ℕ)) (blocks : List BlockState) (evictable : IdList) (clean_room waiting_room : ℕ) → n < 2 ^ 32 → blocks ≡ replicate n new_block
        → length blocks ≡ n → evictable.ids ≡ ids n → evictable.bound ≡ n → n ≤ clean_room → length ready ≤ waiting_room
        → IsKept blocks [] [] ready evictable 0 0 clean_room waiting_room
    kept_nothing n ready blocks evictable clean_room waiting_room few are size in_set bound fits waits = record {
      few = omega arith;
      bound = bound ∙ sym size;
      clean_is = λ b. sym (ap (λ bs. is_clean (slice_get bs b)) are ∙ new_fact is_clean n b ∙ one_of (nat_lt b n));
      clean_once = tt;
      clean_fits = omega arith;
      evictable_is = λ b. ap (is_id_in b) in_set ∙ in_ids n b ∙ sym (ap (λ bs. is_evictable (slice_get bs b)) are ∙ new_fact is_evictable n b ∙ flag_of (nat_lt b n));
      usable_is = refl;
      reclaiming_is = sym (none_reclaimed (length blocks) blocks (λ b. ap (λ bs. is_reclaiming (slice_get bs b)) are ∙ new_fact is_reclaiming n b ∙ one_of (nat_lt b n)));
      waiting_once = tt;
      waiting_there = λ x is. absurd (let clash : false ≡ true = is in cc);
      waiting_fits = waits;
    }

-- an evictable block that was read
pub record Readable (blocks : List BlockState) (b : ℕ) (it : BlockState) : Type 0 where
  pub there : b < length blocks
  pub was : slice_get blocks b ≡ Some it
  pub evictable : is_evictable_set it.block_set ≡ true

pub evictable_block : (v m : Managed) (b : ℕ) → m ≡ v → is_evictable (slice_get v.blocks b) ≡ true → b < length m.blocks
evictable_block v m b view is = go (slice_get m.blocks b) refl (ap (λ (w : Managed). is_evictable (slice_get w.blocks b)) view ∙ is)
  where
    go : (o : Option BlockState) → slice_get m.blocks b ≡ o → is_evictable o ≡ true → b < length m.blocks
    go None e t = absurd (let clash : false ≡ true = t in cc)
    go (Some it) e t = there_is m.blocks b it e

pub readable : (v m : Managed) (b : ℕ) (it : BlockState) → m ≡ v → is_evictable (slice_get v.blocks b) ≡ true → it ≡ slice_index_or m.blocks b it → Readable m.blocks b it
readable v m b it view is reads =
    let lt : b < length m.blocks = evictable_block v m b view is in
    let was : slice_get m.blocks b ≡ Some it = slice_get_read m.blocks (length m.blocks) b it refl lt reads in
    record { there = lt; was = was; evictable = sym (ap is_evictable was) ∙ ap (λ (w : Managed). is_evictable (slice_get w.blocks b)) view ∙ is }

module _ {blocks : List BlockState} {clean waiting : List ℕ} {ready : List (Option ℕ)} {evictable : IdList} {usable reclaiming clean_room waiting_room : ℕ}
    (kept : IsKept blocks clean waiting ready evictable usable reclaiming clean_room waiting_room)
    (b : ℕ) (before : BlockState) (was : slice_get blocks b ≡ Some before) (is : is_evictable_set before.block_set ≡ true) where
  -- an evictable block becomes clean
  pub kept_made_clean : (clean' : List ℕ) (evictable' : IdList) (usable' room : ℕ) → clean' ≡ clean ++ b ∷ [] → IsWithout b evictable.ids evictable'.ids
      → evictable'.bound ≡ evictable.bound → usable' ≡ usable + (if nat_lt before.filling last_number then 1 else 0) → room ≡ clean_room
      → IsKept (slice_set blocks b (record before { block_set = Clean })) clean' waiting ready evictable' usable' reclaiming room waiting_room
  kept_made_clean clean' evictable' usable' room cleans without bound counts fits =
      let now : BlockState = record before { block_set = Clean } in
      let was_not : is_clean (Some before) ≡ false = not_clean before.block_set is in
      let flag : one_if (is_reclaiming (Some before)) ≡ 0 = not_reclaiming before.block_set is in
      let lt : b < length blocks = there_is blocks b before was in
      subst (λ cs. IsKept (slice_set blocks b now) cs waiting ready evictable' usable' reclaiming room waiting_room) (sym cleans)
      (kept_changed kept b before now was (clean ++ b ∷ []) evictable' usable' reclaiming room
      (λ q. append_test q b clean)
      (distinct_append b clean (kept.clean_is b ∙ ap is_clean was ∙ was_not) kept.clean_once)
      (λ q. without q) bound
      (counts ∙ ap (λ n. n + (if nat_lt before.filling last_number then 1 else 0)) (kept.usable_is ∙ sym (counts_same kept b before now was was_not))
      ∙ ap (λ o. usable_of now + (if nat_lt (filling_of o) last_number then 1 else 0)) (sym (set_here blocks b now lt))
      ∙ sym (usable_more (filling_in (slice_set blocks b now)) b clean))
      (omega arith) fits)
    where
      usable_of : BlockState → ℕ
      usable_of now = usable_count (filling_in (slice_set blocks b now)) clean

pub stands_made_clean : (m : Managed) (s : BlockSets) (b : ℕ) (before : BlockState) (clean evictable : List ℕ) → Stands m s → slice_get m.blocks b ≡ Some before
    → clean ≡ m.clean ++ b ∷ []
    → Stands (record m { blocks = slice_set m.blocks b (record before { block_set = Clean }); clean = clean; evictable = evictable })
    (record s { block_set = put s.block_set b model_state.Clean; clean = s.clean ++ b ∷ [] })
stands_made_clean m s b before clean evictable st was cleans =
    let k : IsBlockAs before (s.block_set b) (s.filling b) (s.stats b) = st.blocks b before was in
    record {
      blocks = are_set m.blocks s.block_set s.filling s.stats st.blocks b (record before { block_set = Clean }) (put s.block_set b model_state.Clean) s.filling s.stats
          (there_is m.blocks b before was)
          (record { block_set = put_same s.block_set b model_state.Clean; filling = k.filling; stats = k.stats })
          (λ q ne. (put_other s.block_set b model_state.Clean q ne, refl, refl));
      clean = ap (λ l. l ++ b ∷ []) st.clean ∙ sym cleans;
      waiting = st.waiting;
      ready = st.ready;
      is_cleaning = st.is_cleaning;
    }

-- other sets that are the same of each block that is there, and another list that is the same
pub stands_as : (m : Managed) (s : BlockSets) (sets : ℕ → model_state.BlockSet) (clean : List ℕ) → Stands m s → ((b : ℕ) → b < length m.blocks → sets b ≡ s.block_set b) → clean ≡ s.clean
    → Stands m (record s { block_set = sets; clean = clean })
stands_as m s sets clean st same list = record {
  blocks = λ b it is. let k : IsBlockAs it (s.block_set b) (s.filling b) (s.stats b) = st.blocks b it is in
      record { block_set = same b (there_is m.blocks b it is) ∙ k.block_set; filling = k.filling; stats = k.stats };
  clean = list ∙ st.clean;
  waiting = st.waiting;
  ready = st.ready;
  is_cleaning = st.is_cleaning;
}

pub clean_none : (m : Managed) (s : BlockSets) → Stands m s → Stands m (with_clean s [])
clean_none m s st = stands_as m s (λ b. if is_id_in b [] then model_state.Clean else s.block_set b) (s.clean ++ []) st (λ b lt. refl) (append-nil s.clean)

-- one more of them is clean
pub clean_more : (m : Managed) (s : BlockSets) (clean : List ℕ) (i x : ℕ) → i < length clean → x ≡ slice_index clean i
    → Stands m (record (with_clean s (take i clean)) { block_set = put (with_clean s (take i clean)).block_set x model_state.Clean; clean = (with_clean s (take i clean)).clean ++ x ∷ [] })
    → Stands m (with_clean s (take (i + 1) clean))
clean_more m s clean i x lt at st =
    stands_as m (record (with_clean s (take i clean)) { block_set = put (with_clean s (take i clean)).block_set x model_state.Clean; clean = (with_clean s (take i clean)).clean ++ x ∷ [] })
    (λ b. if is_id_in b (take (i + 1) clean) then model_state.Clean else s.block_set b) (s.clean ++ take (i + 1) clean) st
    (λ b _. ap (λ (t : Bool). if t then model_state.Clean else s.block_set b) (ap (is_id_in b) more ∙ append_test b x (take i clean)) ∙ split (b == x) (is_id_in b (take i clean)) (s.block_set b))
    (ap (λ l. s.clean ++ l) more ∙ sym (append_three s.clean (take i clean) (x ∷ [])))
  where
    more : take (i + 1) clean ≡ take i clean ++ x ∷ []
    more = take_more clean i 0 lt ∙ ap (λ k. take i clean ++ k ∷ []) (sym at)

    append_three : (xs ys zs : List ℕ) → (xs ++ ys) ++ zs ≡ xs ++ (ys ++ zs)
    append_three [] ys zs = refl
    append_three (y ∷ xs) ys zs = ap (λ l. y ∷ l) (append_three xs ys zs)

    split : (t u : Bool) (p : model_state.BlockSet) → (if (if t then true else u) then model_state.Clean else p) ≡ (if t then model_state.Clean else (if u then model_state.Clean else p))
    split true u p = refl
    split false u p = refl

-- those that are still to be made clean
pub to_come : (clean : List ℕ) (i x : ℕ) → i < length clean → x ≡ slice_index clean i → is_id_in x (drop i clean) ≡ true
to_come clean i x lt at = subst (λ l. is_id_in x l ≡ true) (sym (drop-cons clean i 0 lt)) (subst (λ k. is_id_in x (k ∷ drop (suc i) clean) ≡ true) at (same_in x (drop (suc i) clean)))

pub come_later : (clean : List ℕ) (i x b : ℕ) → AreDistinct clean → i < length clean → x ≡ slice_index clean i → is_id_in b (drop (i + 1) clean) ≡ true
    → (is_id_in b (drop i clean) ≡ true) × (b ≡ x → ⊥)
come_later clean i x b once lt at is = (
  subst (λ l. is_id_in b l ≡ true) (sym (drop-cons clean i 0 lt)) (later_in b (slice_index clean i) (drop (suc i) clean) later),
  λ same. in_not_in x (drop (suc i) clean) (subst (λ k. is_id_in k (drop (suc i) clean) ≡ true) same later) (subst (λ k. is_id_in k (drop (suc i) clean) ≡ false) (sym at)
      (subst AreDistinct (drop-cons clean i 0 lt) (drop_once i clean once)).0),
)
  where
    later : is_id_in b (drop (suc i) clean) ≡ true
    later = let e : suc i ≡ i + 1 = omega arith in subst (λ n. is_id_in b (drop n clean) ≡ true) (sym e) is

    drop_once : (n : ℕ) (xs : List ℕ) → AreDistinct xs → AreDistinct (drop n xs)
    drop_once zero xs ok = ok
    drop_once (suc n) [] ok = tt
    drop_once (suc n) (x ∷ xs) ok = drop_once n xs ok.1

-- ids of evictable blocks that were looked at, and their flags
pub record AreNoted (blocks : List BlockState) (noted : List ℕ) (flags : List Bool) : Type 0 where
  pub flagged : AreFlagged noted flags
  pub sized : length flags ≡ length blocks
  pub evictable : (b : ℕ) → is_id_in b noted ≡ true → is_evictable (slice_get blocks b) ≡ true

pub noted_none : (blocks : List BlockState) (flags : List Bool) → flags ≡ replicate (length blocks) false → length flags ≡ length blocks → AreNoted blocks [] flags
noted_none blocks flags is size = record {
  flagged = flagged_none flags (length blocks) is;
  sized = size;
  evictable = λ b here. absurd (let clash : false ≡ true = here in cc);
}

module _ (blocks : List BlockState) (clean : List ℕ) (i x : ℕ) (flags : List Bool) (noted : AreNoted blocks (take i clean) flags) (lt : i < length clean) (at : x ≡ slice_index clean i) where
  more : take (i + 1) clean ≡ take i clean ++ x ∷ []
  more = take_more clean i 0 lt ∙ ap (λ k. take i clean ++ k ∷ []) (sym at)

  pub noted_there : is_evictable_in blocks x ≡ true → x < length flags
  noted_there is = go (slice_get blocks x) refl is
    where
      go : (o : Option BlockState) → slice_get blocks x ≡ o → is_evictable o ≡ true → x < length flags
      go None e t = absurd (let clash : false ≡ true = t in cc)
      go (Some it) e t = let below : x < length blocks = there_is blocks x it e in let n = noted.sized in omega arith

  pub noted_flag : (t : Bool) → is_evictable_in blocks x ≡ true → t ≡ slice_index_or flags x t → is_id_in x (take i clean) ≡ t
  noted_flag t is reads =
      let there : x < length flags = noted_there is in
      some_is (sym ((noted.flagged).flag x there) ∙ slice_get_read flags (length flags) x t refl there reads)

  pub noted_more : (t : Bool) (flags' : List Bool) → is_evictable_in blocks x ≡ true → t ≡ slice_index_or flags x t → t ≡ false → flags' ≡ slice_set flags x true
      → length flags' ≡ length flags → AreNoted blocks (take (i + 1) clean) flags'
  noted_more t flags' is reads not set size = record {
    flagged = subst (λ l. AreFlagged l flags') (sym more) (subst (λ fs. AreFlagged (take i clean ++ x ∷ []) fs) (sym set)
        (flagged_with (take i clean) flags x noted.flagged (noted_flag t is reads ∙ not)));
    sized = size ∙ noted.sized;
    evictable = λ b here. elim (in_cases_last b (subst (λ l. is_id_in b l ≡ true) more here)) [
      | inl h ↦ noted.evictable b h
      | inr same ↦ subst (λ k. is_evictable (slice_get blocks k) ≡ true) (sym same) is
    ];
  }
    where
      in_cases_last : (b : ℕ) → is_id_in b (take i clean ++ x ∷ []) ≡ true → (is_id_in b (take i clean) ≡ true) ⊎ (b ≡ x)
      in_cases_last b h = in_append b x (take i clean) h

  -- a block that can't be made clean
  pub not_evictable : is_evictable_in blocks x ≡ false → CanBeClean blocks clean → ⊥
  not_evictable not can =
      let is : is_evictable (slice_get blocks x) ≡ true = can.evictable x (subst (λ k. is_id_in k clean ≡ true) (sym at) (in_at clean i lt)) in
      let clash : true ≡ false = sym is ∙ not in cc

  pub noted_twice : (t : Bool) → is_evictable_in blocks x ≡ true → t ≡ slice_index_or flags x t → t ≡ true → CanBeClean blocks clean → ⊥
  noted_twice t is reads flag can =
      in_not_in x (take i clean) (noted_flag t is reads ∙ flag)
      (distinct_front x (take i clean) (subst AreDistinct more (take_once (i + 1) clean can.once))).1

pub noted_all : (blocks : List BlockState) (clean : List ℕ) (i : ℕ) (flags : List Bool) → AreNoted blocks (take i clean) flags → length clean ≤ i → CanBeClean blocks clean
noted_all blocks clean i flags noted le =
    let all : take i clean ≡ clean = take_all i clean le in
    record {
      once = subst AreDistinct all (noted.flagged).once;
      evictable = λ b is. noted.evictable b (subst (λ l. is_id_in b l ≡ true) (sym all) is);
    }

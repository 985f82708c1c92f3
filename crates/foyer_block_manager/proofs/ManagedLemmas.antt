-- What a manager keeps, when it changes.
use Rattle.std.proofs.Common.{◌≡◌, ℕ, ◌+◌, ◌-◌, ◌<◌, ◌≤◌, ◌^◌, ◌==◌, nat_lt, Bool, true, false, if◌then◌else◌, List, [], ◌∷◌, ◌++◌, length, Option, Some, None, slice_get, slice_set, slice_index, refl, sym, ap, subst, ◌∙◌, inl, inr, arith}
use Rattle.std.proofs.lemmas.Bool.{eqb-true}
use Rattle.std.proofs.lemmas.Bool.Decides.{nat_tests}
use Rattle.std.proofs.lemmas.Option.{slice_get_past}
use Rattle.foyer_core_model.specs.Flush.{usable_count}
use Rattle.foyer_core_model.specs.Ids.{is_id_in, with_id, without_id, AreDistinct}
use Rattle.foyer_core_model.specs.Numbers.{last_number}
use Rattle.foyer_core_model.proofs.Ids.{same_in, later_in, in_without, distinct_without, in_with, distinct_with, distinct_append, distinct_front, in_front, in_last}
use Rattle.foyer_block_manager.specs.IdList.{IdList}
use Rattle.foyer_block_manager.specs.Managed.{is_clean_set, is_evictable_set, is_reclaiming_set, IsKept, IsFirstUsable, IsTaken, AllBelow, is_clean, is_evictable, is_reclaiming, one_if, filling_of, filling_in, reclaim_count_in}
use Rattle.foyer_block_manager.specs.declared.block.states.BlockState.{BlockState}
use Rattle.foyer_block_manager.specs.declared.block.states.BlockSet.{BlockSet}
use Rattle.foyer_block_manager.specs.declared.block.states.BlockSet.TheVariants.{Clean, Writing, Evictable, Reclaiming}
use Rattle.foyer_block_manager.proofs.IdLemmas.{in_at, room_for, AllBelow as Each}
use Rattle.foyer_block_manager.proofs.BlockStateLemmas.{set_count, set_here, set_there, there_is, fact_set, fact_same, without_test, append_test, if_same, usable_count_same, usable_less, usable_more, usable_at_most, reclaimed_changed, reclaimed_same, reclaimed_some}
use Rattle.foyer_block_manager.proofs.WaitingLemmas.{removed_is}

-- a usable block is there
pub usable_there : (blocks : List BlockState) (b : ℕ) → filling_in blocks b < last_number → b < length blocks
usable_there blocks b below = go (nat_lt b (length blocks)) refl
  where
    go : (t : Bool) → nat_lt b (length blocks) ≡ t → b < length blocks
    go true e = grind (arith, nat_tests)
    go false e =
        let le : length blocks ≤ b = grind (arith, nat_tests) in
        let none : filling_in blocks b ≡ last_number = ap filling_of (slice_get_past blocks b le) in
        absurd (omega arith)

pub below_all : (n : ℕ) (xs : List ℕ) → AllBelow n xs → Each n xs
below_all n [] all = tt
below_all n (x ∷ xs) all = (all x (same_in x xs), below_all n xs (λ q is. all q (later_in q x xs is)))

module _ {blocks : List BlockState} {clean waiting : List ℕ} {ready : List (Option ℕ)} {evictable : IdList} {usable reclaiming clean_room waiting_room : ℕ}
    (kept : IsKept blocks clean waiting ready evictable usable reclaiming clean_room waiting_room) where
  -- other waiters
  pub kept_waiting : (waiting' : List ℕ) (ready' : List (Option ℕ)) (room : ℕ) → AreDistinct waiting' → AllBelow (length ready') waiting' → length ready' ≤ room
      → IsKept blocks clean waiting' ready' evictable usable reclaiming clean_room room
  kept_waiting waiting' ready' room once there fits = record {
    few = kept.few;
    bound = kept.bound;
    clean_is = kept.clean_is;
    clean_once = kept.clean_once;
    clean_fits = kept.clean_fits;
    evictable_is = kept.evictable_is;
    usable_is = kept.usable_is;
    reclaiming_is = kept.reclaiming_is;
    waiting_once = once;
    waiting_there = there;
    waiting_fits = fits;
  }

  -- a flusher waits no more
  pub kept_served : (f : ℕ) (ready' : List (Option ℕ)) (room : ℕ) → length ready' ≡ length ready → room ≡ waiting_room
      → IsKept blocks clean (without_id f waiting) ready' evictable usable reclaiming clean_room room
  kept_served f ready' room same fits = kept_waiting (without_id f waiting) ready' room
      (distinct_without f waiting kept.waiting_once)
      (λ x is. let below : x < length ready = kept.waiting_there x (in_without x f waiting is).0 in omega arith)
      (let le : length ready ≤ waiting_room = kept.waiting_fits in omega arith)

  -- a flusher waits
  pub kept_waits : (f : ℕ) (room : ℕ) → f < length ready → room ≡ waiting_room
      → IsKept blocks clean (with_id f waiting) ready evictable usable reclaiming clean_room room
  kept_waits f room lt fits = kept_waiting (with_id f waiting) ready room
      (distinct_with f waiting kept.waiting_once)
      (λ x is. elim (in_with x f waiting is) [
        | inl h ↦ kept.waiting_there x h
        | inr same ↦ subst (λ k. k < length ready) (sym same) lt
      ])
      (let le : length ready ≤ waiting_room = kept.waiting_fits in omega arith)

  -- the one that began to wait last waits no more
  pub kept_popped : (others : List ℕ) (f : ℕ) (ready' : List (Option ℕ)) (room : ℕ) → waiting ≡ others ++ f ∷ [] → length ready' ≡ length ready → room ≡ waiting_room
      → IsKept blocks clean others ready' evictable usable reclaiming clean_room room
  kept_popped others f ready' room is same fits = kept_waiting others ready' room
      (distinct_front f others (subst AreDistinct is kept.waiting_once)).0
      (λ x here. let below : x < length ready = kept.waiting_there x (subst (λ l. is_id_in x l ≡ true) (sym is) (in_front x others (f ∷ []) here)) in omega arith)
      (let le : length ready ≤ waiting_room = kept.waiting_fits in omega arith)

  -- and it is there
  pub waiter_there : (others : List ℕ) (f : ℕ) → waiting ≡ others ++ f ∷ [] → f < length ready
  waiter_there others f is = kept.waiting_there f (subst (λ l. is_id_in f l ≡ true) (sym is) (in_last f others))

  -- a reclaimed block is counted
  pub some_reclaimed : (b : ℕ) (it : BlockState) → slice_get blocks b ≡ Some it → it.block_set ≡ Reclaiming → 0 < reclaiming
  some_reclaimed b it was is =
      let lt : b < length blocks = there_is blocks b it was in
      let some : 0 < reclaim_count_in (length blocks) blocks = reclaimed_some (length blocks) blocks b lt (ap is_reclaiming was ∙ ap is_reclaiming_set is) in
      let ran : reclaiming ≡ reclaim_count_in (length blocks) blocks = kept.reclaiming_is in
      omega arith

  -- the clean ones that may be handed out are few
  pub few_usable : (n : ℕ) → length clean < n → n ≤ 2 ^ 32 → usable < 2 ^ 32
  few_usable n less le =
      let most : usable_count (filling_in blocks) clean ≤ length clean = usable_at_most (filling_in blocks) clean in
      let is : usable ≡ usable_count (filling_in blocks) clean = kept.usable_is in
      omega arith

  -- there is room for a flusher that doesn't wait
  pub waits_room : (f : ℕ) → f < length ready → is_id_in f waiting ≡ false → length waiting < waiting_room
  waits_room f lt not =
      let less : length waiting < length ready = room_for (length ready) f waiting kept.waiting_once (below_all (length ready) waiting kept.waiting_there) lt not in
      let fits : length ready ≤ waiting_room = kept.waiting_fits in
      omega arith

  -- one that may be handed out is counted
  pub some_usable : (i : ℕ) → IsFirstUsable clean blocks i → 0 < usable
  some_usable i first =
      let in_clean : is_id_in (slice_index clean i) clean ≡ true = in_at clean i first.within in
      let less : usable_count (filling_in blocks) (without_id (slice_index clean i) clean) + 1 ≡ usable_count (filling_in blocks) clean =
      usable_less (filling_in blocks) (slice_index clean i) clean kept.clean_once in_clean first.below in
      let is : usable ≡ usable_count (filling_in blocks) clean = kept.usable_is in
      omega arith

  -- a clean block is handed out
  -- a block that is handed out was clean
  pub taken_clean : (f b : ℕ) (blocks' : List BlockState) (clean' : List ℕ) → (taken : IsTaken f blocks clean b blocks' clean') → is_clean (Some taken.before) ≡ true
  taken_clean f b blocks' clean' taken =
      let first : IsFirstUsable clean blocks taken.index = taken.first in
      let in_clean : is_id_in b clean ≡ true = subst (λ k. is_id_in k clean ≡ true) (sym taken.is) (in_at clean taken.index first.within) in
      sym (ap is_clean taken.was) ∙ sym (kept.clean_is b) ∙ in_clean

  pub kept_taken : (f b : ℕ) (blocks' : List BlockState) (clean' : List ℕ) (room : ℕ) → IsTaken f blocks clean b blocks' clean' → room ≡ clean_room
      → IsKept blocks' clean' waiting ready evictable (usable - 1) reclaiming room waiting_room
  kept_taken f b blocks' clean' room taken fits =
      let it : BlockState = record (taken.before) { block_set = Writing f; filling = (taken.before).filling + 1 } in
      let first : IsFirstUsable clean blocks taken.index = taken.first in
      let in_clean : is_id_in b clean ≡ true = subst (λ k. is_id_in k clean ≡ true) (sym taken.is) (in_at clean taken.index first.within) in
      let was_clean : is_clean (Some taken.before) ≡ true = taken_clean f b blocks' clean' taken in
      let lt : b < length blocks = there_is blocks b taken.before taken.was in
      let after_writing : clean' ≡ without_id b clean = taken.clean_are ∙ removed_is clean taken.index first.within kept.clean_once ∙ ap (λ k. without_id k clean) (sym taken.is) in
      let below : filling_in blocks b < last_number = subst (λ k. filling_in blocks k < last_number) (sym taken.is) first.below in
      subst (λ bs. IsKept bs clean' waiting ready evictable (usable - 1) reclaiming room waiting_room) (sym taken.blocks_are)
      (subst (λ cs. IsKept (slice_set blocks b it) cs waiting ready evictable (usable - 1) reclaiming room waiting_room) (sym after_writing)
      (changed it in_clean was_clean lt below))
    where
      evictable_not : (o : BlockState) → is_clean (Some o) ≡ true → is_evictable (Some o) ≡ false
      evictable_not o is = go o.block_set is
        where
          go : (p : BlockSet) → is_clean_set p ≡ true → is_evictable_set p ≡ false
          go Clean e = refl
          go (Writing g) e = refl
          go Evictable e = absurd (let clash : false ≡ true = e in cc)
          go Reclaiming e = refl

      reclaiming_not : (o : BlockState) → is_clean (Some o) ≡ true → is_reclaiming (Some o) ≡ false
      reclaiming_not o is = go o.block_set is
        where
          go : (p : BlockSet) → is_clean_set p ≡ true → is_reclaiming_set p ≡ false
          go Clean e = refl
          go (Writing g) e = refl
          go Evictable e = refl
          go Reclaiming e = absurd (let clash : false ≡ true = e in cc)

      changed : (it : BlockState) → is_id_in b clean ≡ true → is_clean (Some taken.before) ≡ true → b < length blocks → filling_in blocks b < last_number
          → IsKept (slice_set blocks b (record (taken.before) { block_set = Writing f; filling = (taken.before).filling + 1 })) (without_id b clean) waiting ready evictable (usable - 1) reclaiming room waiting_room
      changed it in_clean was_clean lt below =
          let now : BlockState = record (taken.before) { block_set = Writing f; filling = (taken.before).filling + 1 } in
          let sized : length (slice_set blocks b now) ≡ length blocks = set_count blocks b now in
          let few : length blocks < 2 ^ 32 = kept.few in
          let bound : evictable.bound ≡ length blocks = kept.bound in
          let fits_before : length blocks ≤ clean_room = kept.clean_fits in
          let counted : usable_count (filling_in (slice_set blocks b now)) (without_id b clean) ≡ usable_count (filling_in blocks) (without_id b clean) =
          usable_count_same (filling_in (slice_set blocks b now)) (filling_in blocks) (without_id b clean)
          (λ q is. fact_set filling_of blocks b now lt q ∙ ap (λ (t : Bool). if t then filling_of (Some now) else filling_in blocks q) (other q is)) in
          let less : usable_count (filling_in blocks) (without_id b clean) + 1 ≡ usable_count (filling_in blocks) clean = usable_less (filling_in blocks) b clean kept.clean_once in_clean below in
          let usable_was : usable ≡ usable_count (filling_in blocks) clean = kept.usable_is in
          let running : reclaim_count_in (length blocks) (slice_set blocks b now) ≡ reclaim_count_in (length blocks) blocks =
          reclaimed_same (length blocks) (slice_set blocks b now) blocks (λ q _.
          fact_same is_reclaiming blocks b taken.before now taken.was (sym (reclaiming_not taken.before was_clean)) q) in
          record {
            few = omega arith;
            bound = bound ∙ sym sized;
            clean_is = λ q. without_test q b clean
                ∙ if_same (q == b) false (is_clean (Some now)) (is_id_in q clean) (is_clean (slice_get blocks q)) refl (kept.clean_is q)
                ∙ sym (fact_set is_clean blocks b now lt q);
            clean_once = distinct_without b clean kept.clean_once;
            clean_fits = omega arith;
            evictable_is = λ q. kept.evictable_is q ∙ sym (fact_same is_evictable blocks b taken.before now taken.was (sym (evictable_not taken.before was_clean)) q);
            usable_is = omega arith;
            reclaiming_is = kept.reclaiming_is ∙ sym running ∙ ap (λ n. reclaim_count_in n (slice_set blocks b now)) (sym sized);
            waiting_once = kept.waiting_once;
            waiting_there = kept.waiting_there;
            waiting_fits = kept.waiting_fits;
          }
        where
          other : (q : ℕ) → is_id_in q (without_id b clean) ≡ true → (q == b) ≡ false
          other q is = go (q == b) refl
            where
              go : (t : Bool) → (q == b) ≡ t → t ≡ false
              go true e = absurd ((in_without q b clean is).1 (eqb-true q b e))
              go false e = refl

-- what a list has of a block stays
pub same_list : (b : ℕ) (v : Bool) (xs : List ℕ) → is_id_in b xs ≡ v → (q : ℕ) → is_id_in q xs ≡ (if q == b then v else is_id_in q xs)
same_list b v xs is q = go (q == b) refl
  where
    go : (t : Bool) → (q == b) ≡ t → is_id_in q xs ≡ (if t then v else is_id_in q xs)
    go true e = ap (λ k. is_id_in k xs) (eqb-true q b e) ∙ is
    go false e = refl

module _ {blocks : List BlockState} {clean waiting : List ℕ} {ready : List (Option ℕ)} {evictable : IdList} {usable reclaiming clean_room waiting_room : ℕ}
    (kept : IsKept blocks clean waiting ready evictable usable reclaiming clean_room waiting_room)
    (b : ℕ) (before now : BlockState) (was : slice_get blocks b ≡ Some before) where
  there : b < length blocks
  there = there_is blocks b before was

  -- a block changes, and the lists with it
  pub kept_changed : (clean' : List ℕ) (evictable' : IdList) (usable' reclaiming' room : ℕ)
      → ((q : ℕ) → is_id_in q clean' ≡ (if q == b then is_clean (Some now) else is_id_in q clean)) → AreDistinct clean'
      → ((q : ℕ) → is_id_in q evictable'.ids ≡ (if q == b then is_evictable (Some now) else is_id_in q evictable.ids)) → evictable'.bound ≡ evictable.bound
      → usable' ≡ usable_count (filling_in (slice_set blocks b now)) clean'
      → reclaiming' + one_if (is_reclaiming (Some before)) ≡ reclaiming + one_if (is_reclaiming (Some now)) → room ≡ clean_room
      → IsKept (slice_set blocks b now) clean' waiting ready evictable' usable' reclaiming' room waiting_room
  kept_changed clean' evictable' usable' reclaiming' room cleans once evicts bound counts runs fits =
      let sized : length (slice_set blocks b now) ≡ length blocks = set_count blocks b now in
      let few : length blocks < 2 ^ 32 = kept.few in
      let was_bound : evictable.bound ≡ length blocks = kept.bound in
      let fitted : length blocks ≤ clean_room = kept.clean_fits in
      let lt : b < length blocks = there in
      let changed : reclaim_count_in (length blocks) (slice_set blocks b now) + one_if (is_reclaiming (slice_get blocks b))
      ≡ reclaim_count_in (length blocks) blocks + one_if (is_reclaiming (slice_get (slice_set blocks b now) b)) =
      reclaimed_changed (length blocks) blocks (slice_set blocks b now) b lt (λ q ne. ap is_reclaiming (sym (set_there blocks b q now ne))) in
      let old_flag : one_if (is_reclaiming (slice_get blocks b)) ≡ one_if (is_reclaiming (Some before)) = ap (λ o. one_if (is_reclaiming o)) was in
      let new_flag : one_if (is_reclaiming (slice_get (slice_set blocks b now) b)) ≡ one_if (is_reclaiming (Some now)) = ap (λ o. one_if (is_reclaiming o)) (set_here blocks b now lt) in
      let ran : reclaiming ≡ reclaim_count_in (length blocks) blocks = kept.reclaiming_is in
      let runs_now : reclaiming' ≡ reclaim_count_in (length blocks) (slice_set blocks b now) = omega arith in
      record {
        few = omega arith;
        bound = bound ∙ was_bound ∙ sym sized;
        clean_is = λ q. cleans q ∙ if_same (q == b) (is_clean (Some now)) (is_clean (Some now)) (is_id_in q clean) (is_clean (slice_get blocks q)) refl (kept.clean_is q)
            ∙ sym (fact_set is_clean blocks b now lt q);
        clean_once = once;
        clean_fits = omega arith;
        evictable_is = λ q. evicts q ∙ if_same (q == b) (is_evictable (Some now)) (is_evictable (Some now)) (is_id_in q evictable.ids) (is_evictable (slice_get blocks q)) refl (kept.evictable_is q)
            ∙ sym (fact_set is_evictable blocks b now lt q);
        usable_is = counts;
        reclaiming_is = runs_now ∙ ap (λ n. reclaim_count_in n (slice_set blocks b now)) (sym sized);
        waiting_once = kept.waiting_once;
        waiting_there = kept.waiting_there;
        waiting_fits = kept.waiting_fits;
      }

  -- a block that isn't clean changes, and is no clean one afterwards
  not_clean : is_clean (Some before) ≡ false → is_id_in b clean ≡ false
  not_clean is = kept.clean_is b ∙ ap is_clean was ∙ is

  pub counts_same : is_clean (Some before) ≡ false → usable_count (filling_in (slice_set blocks b now)) clean ≡ usable_count (filling_in blocks) clean
  counts_same is =
      usable_count_same (filling_in (slice_set blocks b now)) (filling_in blocks) clean
      (λ q here. fact_set filling_of blocks b now there q ∙ ap (λ (t : Bool). if t then filling_of (Some now) else filling_in blocks q) (other q here))
    where
      other : (q : ℕ) → is_id_in q clean ≡ true → (q == b) ≡ false
      other q here = go (q == b) refl
        where
          go : (t : Bool) → (q == b) ≡ t → t ≡ false
          go true e =
              let clash : true ≡ false = sym here ∙ ap (λ k. is_id_in k clean) (eqb-true q b e) ∙ not_clean is in
              clash
          go false e = refl

  pub kept_unclean : (evictable' : IdList) (reclaiming' : ℕ) → is_clean (Some before) ≡ false → is_clean (Some now) ≡ false
      → ((q : ℕ) → is_id_in q evictable'.ids ≡ (if q == b then is_evictable (Some now) else is_id_in q evictable.ids)) → evictable'.bound ≡ evictable.bound
      → reclaiming' + one_if (is_reclaiming (Some before)) ≡ reclaiming + one_if (is_reclaiming (Some now))
      → IsKept (slice_set blocks b now) clean waiting ready evictable' usable reclaiming' clean_room waiting_room
  kept_unclean evictable' reclaiming' was_not is_not evicts bound runs =
      kept_changed clean evictable' usable reclaiming' clean_room
      (λ q. same_list b false clean (not_clean was_not) q ∙ ap (λ (v : Bool). if q == b then v else is_id_in q clean) (sym is_not)) kept.clean_once evicts bound
      (kept.usable_is ∙ sym (counts_same was_not)) runs refl

  -- it is clean afterwards
  pub kept_cleaned : (clean' : List ℕ) (usable' reclaiming' room : ℕ) → is_clean (Some before) ≡ false → is_clean (Some now) ≡ true
      → is_evictable (Some before) ≡ false → is_evictable (Some now) ≡ false → clean' ≡ clean ++ b ∷ []
      → usable' ≡ usable + (if nat_lt now.filling last_number then 1 else 0)
      → reclaiming' + one_if (is_reclaiming (Some before)) ≡ reclaiming + one_if (is_reclaiming (Some now)) → room ≡ clean_room
      → IsKept (slice_set blocks b now) clean' waiting ready evictable usable' reclaiming' room waiting_room
  kept_cleaned clean' usable' reclaiming' room was_not is_now was_kept is_kept cleans counts runs fits =
      subst (λ cs. IsKept (slice_set blocks b now) cs waiting ready evictable usable' reclaiming' room waiting_room) (sym cleans)
      (kept_changed (clean ++ b ∷ []) evictable usable' reclaiming' room
      (λ q. append_test q b clean ∙ ap (λ (v : Bool). if q == b then v else is_id_in q clean) (sym is_now))
      (distinct_append b clean (not_clean was_not) kept.clean_once)
      (λ q. same_list b false evictable.ids (kept.evictable_is b ∙ ap is_evictable was ∙ was_kept) q ∙ ap (λ (v : Bool). if q == b then v else is_id_in q evictable.ids) (sym is_kept))
      refl
      (counts ∙ ap (λ n. n + (if nat_lt now.filling last_number then 1 else 0)) (kept.usable_is ∙ sym (counts_same was_not))
      ∙ ap (λ o. usable_count (filling_in (slice_set blocks b now)) clean + (if nat_lt (filling_of o) last_number then 1 else 0)) (sym (set_here blocks b now there))
      ∙ sym (usable_more (filling_in (slice_set blocks b now)) b clean))
      runs fits)

  -- there is room for it among the clean ones
  pub clean_fewer : is_clean (Some before) ≡ false → length clean < length blocks
  clean_fewer is = room_for (length blocks) b clean kept.clean_once (below_all (length blocks) clean (λ q here. clean_below q here)) there (not_clean is)
    where
      clean_below : (q : ℕ) → is_id_in q clean ≡ true → q < length blocks
      clean_below q here = go (slice_get blocks q) refl (sym (kept.clean_is q) ∙ here)
        where
          go : (o : Option BlockState) → slice_get blocks q ≡ o → is_clean o ≡ true → q < length blocks
          go None e t = absurd (let clash : false ≡ true = t in cc)
          go (Some it) e t = there_is blocks q it e

  pub clean_room_for : is_clean (Some before) ≡ false → length clean < clean_room
  clean_room_for is =
      let less : length clean < length blocks = clean_fewer is in
      let fits : length blocks ≤ clean_room = kept.clean_fits in
      omega arith

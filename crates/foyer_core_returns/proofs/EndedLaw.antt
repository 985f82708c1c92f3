-- The law that nothing comes back of a life that has ended.
use Rattle.std.proofs.Common.{◌≡◌, ℕ, ◌<◌, ◌==◌, Bool, true, false, if◌then◌else◌, Option, Some, None, List, [], ◌∷◌, ◌++◌, inl, inr, refl, sym, ap, subst, ◌∙◌}
use Rattle.foyer_format_layout.specs.Position.{Sizes}
use Rattle.foyer_format_buffer.specs.Listing.{Lists, kept}
use Rattle.foyer_core_model.specs.Access.{BlockWrites, Idle, Issued, InFlight, CleanState, CleanIdle, CleanIssued, CleanInFlight, CleanDone}
use Rattle.foyer_core_model.specs.Destroy.{first_fault, issued_after_clean, CleansOne}
use Rattle.foyer_core_model.specs.Ids.{is_id_in, without_id}
use Rattle.foyer_core_model.specs.InTurn.{AwaitsClean}
use Rattle.foyer_core_model.specs.Kind.{Kind}
use Rattle.foyer_core_model.specs.Laws.{Demands}
use Rattle.foyer_core_model.specs.Reply.{Reply, Done, Written, Destroyed}
use Rattle.foyer_core_model.specs.Rules.{Rules, Splitting, sizes_of}
use Rattle.foyer_core_model.specs.State.{Destroy, NoDestroy, Begun, Cleaning, State}
use Rattle.foyer_core_model.specs.Step.{Step, FlushBlock, ReclaimCleaned, DestroyCleaned}
use Rattle.foyer_core_model.specs.World.{is_none, World, WorldEvent, Applies, WriteBegins, CleanEnds, MayHappen, MayAllHappen, after, after_all}
use Rattle.foyer_core_model.proofs.OpenedSound.{new_sound, new_sets}
use Rattle.foyer_core_model.proofs.RereadsKept.{new_again}
use Rattle.foyer_core_model.proofs.Served.{opened_served}
use Rattle.foyer_core_model.proofs.Widths.{opened_wide}
use Rattle.foyer_core_restart.specs.Entries.{In, entry_at}
use Rattle.foyer_core_restart.specs.Real.{IsReal}
use Rattle.foyer_core_restart.proofs.Issued.{same_or}
use Rattle.foyer_core_restart.proofs.Layouts.{laid_demands, laid_is_real}
use Rattle.foyer_core_restart.proofs.Members.{rising_in}
use Rattle.foyer_core_restart.proofs.Tasks.{Entry}
use Rattle.foyer_core_returns.specs.EndedLives.{EndsLife, EndedLaw, LaidEndedLaw}
use Rattle.foyer_core_returns.specs.Lives.{Life, first_life, cleaned_life, after_step, after_begin, after_clean, life_after, life_from, life_of}
use Rattle.foyer_core_returns.specs.Returns.{IsOfLife}
use Rattle.foyer_core_returns.proofs.Lived.{IsEndOf, IsFaulty, scene_of, IsLived}
use Rattle.foyer_core_returns.proofs.LivedCleans.{still_in, was_cleaning}
use Rattle.foyer_core_returns.proofs.LivedEvents.{all_lived}
use Rattle.foyer_core_returns.proofs.LivedStop.{listed_own}
use Rattle.foyer_core_returns.proofs.ReturnsLaw.{index_kept, keeps_of, new_lived, written_of}

-- a life that a clean began stays one

cleaned_step : {C : Type 0} (old : State C) (reply : Reply C) (step : Step C) (b : ℕ) (l : Life C) → l.is_cleaned ≡ true → (after_step old reply step b l).is_cleaned ≡ true
cleaned_step old (Written c writes) (FlushBlock f) b l is = go (c == b)
  where
    go : (t : Bool) → (if t then record l { records = l.records ++ Rattle.foyer_core_returns.specs.Lives.next_records (old.flushers f).batch } else l).is_cleaned ≡ true
    go true = is
    go false = is
cleaned_step old reply step b l is = is

cleaned_begin : {C : Type 0} (pending : BlockWrites) (b : ℕ) (l : Life C) → l.is_cleaned ≡ true → (after_begin pending b l).is_cleaned ≡ true
cleaned_begin Idle b l is = is
cleaned_begin (Issued c rs []) b l is = is
cleaned_begin (InFlight c rs x xs) b l is = is
cleaned_begin {C} (Issued c rs (x ∷ xs)) b l is = go (c == b)
  where
    go : (t : Bool) → (if t then record l { writes = x ∷ l.writes } else l).is_cleaned ≡ true
    go true = is
    go false = is

cleaned_clean : {C : Type 0} (ok t : Bool) (state : CleanState) (l : Life C) → l.is_cleaned ≡ true → (if t then after_clean ok state l else l).is_cleaned ≡ true
cleaned_clean ok false state l is = is
cleaned_clean true true CleanInFlight l is = refl
cleaned_clean true true CleanIdle l is = is
cleaned_clean true true CleanIssued l is = is
cleaned_clean true true (CleanDone was) l is = is
cleaned_clean false true CleanInFlight l is = is
cleaned_clean false true CleanIdle l is = is
cleaned_clean false true CleanIssued l is = is
cleaned_clean false true (CleanDone was) l is = is

cleaned_event : {C : Type 0} (w : World C) (e : WorldEvent C) (b : ℕ) (l : Life C) → l.is_cleaned ≡ true → (life_after w e b l).is_cleaned ≡ true
cleaned_event w (Applies step reply new) b l is = cleaned_step w.core reply step b l is
cleaned_event w (WriteBegins f) b l is = cleaned_begin (w.block_writes f) b l is
cleaned_event w (CleanEnds c ok torn) b l is = cleaned_clean ok (c == b) (w.clean_states c) l is
cleaned_event w e b l is = is

module _ {C : Type 0} (rules : Rules C) where
  cleaned_stays : (w : World C) (es : List (WorldEvent C)) (b : ℕ) (l : Life C) → l.is_cleaned ≡ true → (life_from rules w es b l).is_cleaned ≡ true
  cleaned_stays w [] b l is = is
  cleaned_stays w (e ∷ es) b l is = cleaned_stays (after rules w e) es b (life_after w e b l) (cleaned_event w e b l is)

  -- one run behind another

  life_append : (w : World C) (xs ys : List (WorldEvent C)) (b : ℕ) (l : Life C) → life_from rules w (xs ++ ys) b l ≡ life_from rules (after_all rules w xs) ys b (life_from rules w xs b l)
  life_append w [] ys b l = refl
  life_append w (x ∷ xs) ys b l = life_append (after rules w x) xs ys b (life_after w x b l)

  module _ (Splits : Splitting C) (is_value : C → Type 0) where
    may_front : (w : World C) (xs ys : List (WorldEvent C)) → MayAllHappen rules Splits is_value w (xs ++ ys) → MayAllHappen rules Splits is_value w xs
    may_front w [] ys ok = tt
    may_front w (x ∷ xs) ys ok = (ok.0, may_front (after rules w x) xs ys ok.1)

    may_next : (w : World C) (xs ys : List (WorldEvent C)) (y : WorldEvent C) → MayAllHappen rules Splits is_value w (xs ++ y ∷ ys) → MayHappen rules Splits is_value (after_all rules w xs) y
    may_next w [] ys y ok = ok.0
    may_next w (x ∷ xs) ys y ok = may_next (after rules w x) xs ys y ok.1

module _ (A : Type 0) {C : Type 0} (rules : Rules C) (Splits : Splitting C) (is_value : C → Type 0) (demands : Demands rules Splits is_value) (real : IsReal A rules Splits) where
  -- Where a reclaim or a destroy ends, nothing was written since the block was cleaned.
  module _ (b : ℕ) (B : ℕ → ℕ) (Nothing : Type 0) (below : b < rules.blocks) where
    abbrev reply_of : Option Kind → Reply C
    reply_of x = Destroyed x

    last_one : (m : List ℕ) (x y : Option Kind) → reply_of x ≡ issued_after_clean m y → (m ≡ []) × (x ≡ y)
    last_one [] x y e = (refl, let z : Destroyed x ≡ reply_of y = e in cc)
    last_one (k ∷ ks) x y e = absurd (let z : reply_of x ≡ Done = e in cc)

    no_fault : (failed fault : Option Kind) → None ≡ first_fault failed fault → (failed ≡ None) × (fault ≡ None)
    no_fault None fault e = (refl, sym e)
    no_fault (Some kind) fault e = absurd (let z : None ≡ Some kind = e in cc)

    destroy_ends : (w : World C) (l : Life C) (c : ℕ) (fault : Option Kind) (d : Destroy) (new : State C) → w.core.destroy ≡ d → w.clean_states c ≡ CleanDone (is_none fault) → CleansOne rules w.core c fault d (Destroyed None) new
        → IsLived A rules b B Nothing (scene_of w) l → l ≡ cleaned_life
    destroy_ends w l c fault (Cleaning left failed) new is came ok k = elim (k.gone below (was_cleaning left failed w.core.destroy is)) [
      | inr (inl cleaned) ↦ cleaned
      | inr (inr faulty) ↦ absurd (subst (λ f. IsFaulty (Cleaning left f)) none.0 (subst IsFaulty is faulty))
      | inl awaits ↦ elim (same_or b c) [
        | inl at ↦ subst (λ f. IsEndOf (is_none f) l) none.1 (k.done (is_none fault) (ap w.clean_states at ∙ came))
        | inr other ↦ absurd (
            let there : is_id_in b (without_id c left) ≡ true = still_in b c left other (subst (AwaitsClean b) is awaits) in
            let nowhere : is_id_in b [] ≡ true = subst (λ m. is_id_in b m ≡ true) last.0 there in
            let z : false ≡ true = nowhere in cc)
      ]
    ]
      where
        last : (without_id c left ≡ []) × (None ≡ first_fault failed fault)
        last = last_one (without_id c left) None (first_fault failed fault) ok.0

        none : (failed ≡ None) × (fault ≡ None)
        none = no_fault failed fault last.1
    destroy_ends w l c fault NoDestroy new is came ok k = absurd ok
    destroy_ends w l c fault Begun new is came ok k = absurd ok

    life_ends : (w : World C) (l : Life C) (e : WorldEvent C) → MayHappen rules Splits is_value w e → EndsLife b e → IsLived A rules b B Nothing (scene_of w) l → life_after w e b l ≡ cleaned_life
    life_ends w l (Applies (ReclaimCleaned c true) Done new) may is k = k.done true (ap w.clean_states (sym is) ∙ may.0)
    life_ends w l (Applies (DestroyCleaned c fault) (Destroyed None) new) may is k =
        destroy_ends w l c fault w.core.destroy ((may.1).2).0 refl may.0 ((may.1).2).1 k
    life_ends w l e may is k = absurd is

pub ended_law_lem : (A : Type 0) {C : Type 0} (rules : Rules C) (Splits : Splitting C) (is_value : C → Type 0) → EndedLaw A rules Splits is_value
ended_law_lem A {C} rules Splits is_value demands real first before later end again marks o bytes failed h a opened happened ends well stopped strays torn opens is =
    subst (λ m. IsOfLife m h a) since (written_of l h a
    (listed_own A rules real.format.sizes b (first.bytes b) w l (bytes b) (Unit {0}) (lived (before ++ end ∷ later) happened) (ap (λ (m : Life C). m.has_failed) since ∙ well) (stopped b) (λ p e es. strays b p e es there.0) (λ e es. torn b e es there.0) (inl cleaned)
    (failed b) (entry_at h a) found.0 found.1 (rising_in 0 (entry_at h a) found.0 found.2)))
  where
    b : ℕ
    b = a.block

    s : Sizes
    s = sizes_of rules

    l : Life C
    l = life_of rules first (before ++ end ∷ later) b

    w : World C
    w = after_all rules first (before ++ end ∷ later)

    at_end : World C
    at_end = after_all rules first before

    there : (b < rules.blocks) × In (entry_at h a) (opens.keeps b)
    there = index_kept s rules.blocks bytes again failed marks o opens h a is

    found : (ls : List Entry) × Lists s (bytes b) (failed b) ls × In (entry_at h a) (kept ls)
    found = keeps_of s again (bytes b) (failed b) (entry_at h a) (opens.keeps b) (opens.kept b there.0) there.1

    lived : (events : List (WorldEvent C)) → MayAllHappen rules Splits is_value first events
        → IsLived A rules b (first.bytes b) (Unit {0}) (scene_of (after_all rules first events)) (life_of rules first events b)
    lived events may = all_lived A rules Splits is_value demands real b (first.bytes b) (Unit {0}) first first_life events may
        (record { sound = new_sound rules first opened; again = new_again rules first opened; sets = new_sets rules first opened })
        (opened_wide rules Splits first opened) (opened_served rules Splits first opened)
        (new_lived A rules Splits is_value demands real first b (Unit {0}) opened (λ at. tt))

    began : life_after at_end end b (life_of rules first before b) ≡ cleaned_life
    began = life_ends A rules Splits is_value demands real b (first.bytes b) (Unit {0}) there.0 at_end (life_of rules first before b) end
        (may_next rules Splits is_value first before later end happened) ends
        (lived before (may_front rules Splits is_value first before (end ∷ later) happened))

    since : l ≡ life_from rules (after rules at_end end) later b cleaned_life
    since = life_append rules first before (end ∷ later) b first_life ∙ ap (life_from rules (after rules at_end end) later b) began

    cleaned : l.is_cleaned ≡ true
    cleaned = ap (λ (m : Life C). m.is_cleaned) since ∙ cleaned_stays rules (after rules at_end end) later b cleaned_life refl

pub laid_ended_law_lem : {C : Type 0} (rules : Rules C) (is_value : C → Type 0) → LaidEndedLaw rules is_value
laid_ended_law_lem rules is_value format small trips =
    ended_law_lem (Unit {0}) rules _ is_value (laid_demands rules format small is_value trips) (laid_is_real rules format small)

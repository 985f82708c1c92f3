-- The clean list is the clean set.
use Rattle.std.proofs.Common.{◌≡◌, ℕ, zero, suc, ◌<◌, ◌≤◌, ◌==◌, Bool, true, false, if◌then◌else◌, List, [], ◌∷◌, ◌++◌, inl, inr, refl, sym, ap, subst, ◌∙◌, arith}
use Rattle.std.proofs.lemmas.Bool.{eqb-true, eqb-false}
use Rattle.foyer_core_model.specs.Ids.{ids, is_id_in, AreDistinct}
use Rattle.foyer_core_model.specs.State.{BlockSet, Clean, Writes, Evictable, Reclaims, State}
use Rattle.foyer_core_model.specs.Rules.{Rules, Splitting}
use Rattle.foyer_core_model.specs.Step.{Step, ReclaimBegin, DestroyClear}
use Rattle.foyer_core_model.specs.Reply.{Reply, NotNow, Refused, Picked, Cleared}
use Rattle.foyer_core_model.specs.Reclaim.{Picks}
use Rattle.foyer_core_model.specs.Destroy.{vacated, Clears}
use Rattle.foyer_core_model.specs.InTurn.{InTurn}
use Rattle.foyer_core_model.specs.Changes.{Changes}
use Rattle.foyer_core_model.specs.Follows.{Follows}
use Rattle.foyer_core_model.specs.World.{World, WorldEvent, Applies, ReadBegins, ReadEnds, ScanBegins, ScanEnds, WriteBegins, WriteEnds, CleanBegins, CleanEnds, after, after_all, MayHappen, MayAllHappen}
use Rattle.foyer_core_model.specs.Opened.{is_clean, clean_among, IsOpened}
use Rattle.foyer_core_model.specs.Laws.{Demands, IsReached}
use Rattle.foyer_core_model.specs.Companions.{ListsClean}
use Rattle.foyer_core_model.proofs.Basics.{put_at}
use Rattle.foyer_core_model.proofs.Ids.{same_in, later_in, in_cases, not_in_cases, not_in_both, in_front, in_last, distinct_append}
use Rattle.foyer_core_model.proofs.RereadsKept.{new_again}
use Rattle.foyer_core_model.proofs.SoundKept.{reclaims_at, IsKnown, known_keeps}
use Rattle.foyer_core_model.proofs.OpenedSound.{new_sound, ids_below, new_sets}
use Rattle.foyer_core_model.proofs.Answered.{reached_known}
use Rattle.foyer_core_model.proofs.Settles.{AreListed, does_settle}
use Rattle.foyer_core_model.proofs.LoadsHeld.{writes_below}

module _ {C : Type 0} (rules : Rules C) (Splits : Splitting C) (is_value : C → Type 0) (demands : Demands rules Splits is_value) where
  picked : (c new : State C) (reply : Reply C) → Picks rules c reply new → AreListed rules c.place c.clean → AreListed rules new.place new.clean
  picked c new (Picked b answers probation) ok l =
      subst (λ k. AreListed rules k.place k.clean) (sym ok.4)
      ((λ d lt is. l.0 d lt (put_at (λ k. k ≡ Clean → c.place d ≡ Clean) c.place b Reclaims d (λ _ e. absurd (let z : Reclaims ≡ Clean = e in cc)) (λ _ e. e) is)), l.1)
  picked c new reply ok l = absurd ok

  was_clean : (p : BlockSet) → vacated p ≡ Clean → p ≡ Clean
  was_clean Clean e = refl
  was_clean (Writes f) e = absurd (let z : Evictable ≡ Clean = e in cc)
  was_clean Evictable e = absurd (let z : Evictable ≡ Clean = e in cc)
  was_clean Reclaims e = e

  cleared_list : (c new : State C) (reply : Reply C) → Clears rules c reply new → AreListed rules c.place c.clean → AreListed rules new.place new.clean
  cleared_list c new (Cleared bs) ok l =
      subst (λ k. AreListed rules k.place k.clean) (sym ok.1) ((λ d lt is. l.0 d lt (was_clean (c.place d) is)), l.1)
  cleared_list c new reply ok l = absurd ok

  does_list : (w : World C) (step : Step C) (reply : Reply C) (done : State C) → IsKnown rules Splits is_value demands w → InTurn rules w.core step → Changes rules Splits w.core step reply done
      → AreListed rules w.core.place w.core.clean → AreListed rules done.place done.clean
  does_list w ReclaimBegin reply done known turn does l = picked w.core done reply does l
  does_list w DestroyClear reply done known turn does l = cleared_list w.core done reply does l
  does_list w step reply done known turn does l = (does_settle rules Splits w.core done step reply known.sets
      (writes_below rules Splits is_value demands w known) (λ b. reclaims_at rules Splits is_value demands w b known.again) turn tt does).listed l

  step_list : (w : World C) (step : Step C) (reply : Reply C) (new : State C) → Follows rules Splits w.core step reply new → IsKnown rules Splits is_value demands w
      → AreListed rules w.core.place w.core.clean → AreListed rules new.place new.clean
  step_list w step (NotNow back) new ok known l = subst (λ k. AreListed rules k.place k.clean) (sym ok.2) l
  step_list w step (Refused kind back) new ok known l = subst (λ k. AreListed rules k.place k.clean) (sym ok.2) l
  step_list w step reply new (few, turn, (done, does, eq)) known l = subst (λ k. AreListed rules k.place k.clean) (sym eq) (does_list w step reply done known turn does l)

  event_list : (w : World C) (e : WorldEvent C) → MayHappen rules Splits is_value w e → IsKnown rules Splits is_value demands w
      → AreListed rules w.core.place w.core.clean → AreListed rules (after rules w e).core.place (after rules w e).core.clean
  event_list w (Applies step reply new) ok known l = step_list w step reply new ok.1 known l
  event_list w (ReadBegins n) ok known l = l
  event_list w (ReadEnds n result) ok known l = l
  event_list w (ScanBegins b) ok known l = l
  event_list w (ScanEnds b result) ok known l = l
  event_list w (WriteBegins f) ok known l = l
  event_list w (WriteEnds f good g) ok known l = l
  event_list w (CleanBegins b) ok known l = l
  event_list w (CleanEnds b good g) ok known l = l

  all_list : (w : World C) (events : List (WorldEvent C)) → MayAllHappen rules Splits is_value w events → IsKnown rules Splits is_value demands w
      → AreListed rules w.core.place w.core.clean → AreListed rules (after_all rules w events).core.place (after_all rules w events).core.clean
  all_list w [] ok known l = l
  all_list w (e ∷ es) ok known l = all_list (after rules w e) es ok.1 (known_keeps rules Splits is_value demands w e ok.0 known) (event_list w e ok.0 known l)

  -- at an opening

  among : (place : ℕ → BlockSet) (bs : List ℕ) (b : ℕ) → is_id_in b bs ≡ true → place b ≡ Clean → is_id_in b (clean_among place bs) ≡ true
  among place [] b is at = is
  among place (c ∷ bs) b is at = go (place c) refl (among place bs b)
    where
      go : (p : BlockSet) → place c ≡ p → (is_id_in b bs ≡ true → place b ≡ Clean → is_id_in b (clean_among place bs) ≡ true) → is_id_in b (if is_clean p then c ∷ clean_among place bs else clean_among place bs) ≡ true
      go Clean here rec = elim (in_cases b c bs is) [ inl e ↦ subst (λ k. is_id_in b (k ∷ clean_among place bs) ≡ true) e (same_in b (clean_among place bs)) | inr there ↦ later_in b c (clean_among place bs) (rec there at) ]
      go (Writes f) here rec = elim (in_cases b c bs is) [ inl e ↦ absurd (let z : Clean ≡ Writes f = sym at ∙ ap place e ∙ here in cc) | inr there ↦ rec there at ]
      go Evictable here rec = elim (in_cases b c bs is) [ inl e ↦ absurd (let z : Clean ≡ Evictable = sym at ∙ ap place e ∙ here in cc) | inr there ↦ rec there at ]
      go Reclaims here rec = elim (in_cases b c bs is) [ inl e ↦ absurd (let z : Clean ≡ Reclaims = sym at ∙ ap place e ∙ here in cc) | inr there ↦ rec there at ]

  not_among_clean : (place : ℕ → BlockSet) (bs : List ℕ) (b : ℕ) → is_id_in b bs ≡ false → is_id_in b (clean_among place bs) ≡ false
  not_among_clean place [] b is = refl
  not_among_clean place (c ∷ bs) b is =
      let r : (b ≡ c → ⊥) × (is_id_in b bs ≡ false) = not_in_cases b c bs is in
      go (is_clean (place c)) r.0 (not_among_clean place bs b r.1)
    where
      go : (t : Bool) → (b ≡ c → ⊥) → is_id_in b (clean_among place bs) ≡ false → is_id_in b (if t then c ∷ clean_among place bs else clean_among place bs) ≡ false
      go true ne rec = not_in_both b c (clean_among place bs) ne rec
      go false ne rec = rec

  distinct_among : (place : ℕ → BlockSet) (bs : List ℕ) → AreDistinct bs → AreDistinct (clean_among place bs)
  distinct_among place [] ok = tt
  distinct_among place (c ∷ bs) ok = go (is_clean (place c)) (distinct_among place bs ok.1) (not_among_clean place bs c ok.0)
    where
      go : (t : Bool) → AreDistinct (clean_among place bs) → is_id_in c (clean_among place bs) ≡ false → AreDistinct (if t then c ∷ clean_among place bs else clean_among place bs)
      go true rec not = (not, rec)
      go false rec not = rec

  all_ids : (n b : ℕ) → b < n → is_id_in b (ids n) ≡ true
  all_ids zero b lt = absurd (omega arith)
  all_ids (suc n) b lt = go (b == n) refl (all_ids n b)
    where
      go : (t : Bool) → (b == n) ≡ t → (b < n → is_id_in b (ids n) ≡ true) → is_id_in b (ids n ++ n ∷ []) ≡ true
      go true e rec = subst (λ k. is_id_in k (ids n ++ n ∷ []) ≡ true) (sym (eqb-true b n e)) (in_last n (ids n))
      go false e rec = in_front b (ids n) (n ∷ []) (rec (let ne : b ≡ n → ⊥ = eqb-false b n e in omega arith))

  above_ids : (n b : ℕ) → n ≤ b → is_id_in b (ids n) ≡ false
  above_ids n b le = go (is_id_in b (ids n)) refl
    where
      go : (t : Bool) → is_id_in b (ids n) ≡ t → t ≡ false
      go true is = absurd (let lt : b < n = ids_below rules n b is in omega arith)
      go false is = refl

  distinct_ids : (n : ℕ) → AreDistinct (ids n)
  distinct_ids zero = tt
  distinct_ids (suc n) = distinct_append n (ids n) (above_ids n n (omega arith)) (distinct_ids n)

  opened_list : (w : World C) → IsOpened rules w → AreListed rules w.core.place w.core.clean
  opened_list w first =
      subst (AreListed rules w.core.place) (sym first.clean)
      ((λ b lt is. among w.core.place (ids rules.blocks) b (all_ids rules.blocks b lt) is), distinct_among w.core.place (ids rules.blocks) (distinct_ids rules.blocks))

  pub reached_list : (w : World C) → IsReached rules Splits is_value w → AreListed rules w.core.place w.core.clean
  reached_list w reached =
      subst (λ v. AreListed rules v.core.place v.core.clean) reached.is
      (all_list reached.first reached.events reached.happened
      (record { sound = new_sound rules reached.first reached.opened; again = new_again rules reached.first reached.opened; sets = new_sets rules reached.first reached.opened })
      (opened_list reached.first reached.opened))

pub lists_clean_lem : {C : Type 0} (rules : Rules C) (Splits : Splitting C) (is_value : C → Type 0) → ListsClean rules Splits is_value
lists_clean_lem rules Splits is_value = record {
  listed = λ w b demands reached. (reached_list rules Splits is_value demands w reached).0 b;
  clean = λ w b demands reached. (reached_known rules Splits is_value demands w reached).sets.clean b;
  once = λ w demands reached. (reached_list rules Splits is_value demands w reached).1;
}

-- What is known when the opening or a step is told shows that it may come; and what is known afterwards.
use Rattle.std.proofs.Common.{◌≡◌, ◌⊎◌, inl, inr, ℕ, ◌+◌, ◌<◌, ◌≤◌, ◌==◌, ◌||◌, Bool, true, false, true≢false, List, [], ◌∷◌, ◌++◌, refl, sym, ap, ◌∙◌, subst, arith}
use Rattle.std.proofs.lemmas.Bool.{eqb-true}
use Rattle.foyer_core_chronicle.specs.Rights.{one, times}
use Rattle.foyer_core_chronicle.specs.SharedHistory.{IsUntouched, Fits, rights_of, joined, viewer, GoesOnBy, GoesOnWith, MayCome, HasRights}
use Rattle.foyer_core_chronicle.specs.declared.View.{View}
use Rattle.foyer_core_chronicle.proofs.RightLemmas.{times_append}
use Rattle.foyer_core_model.specs.Numbers.{last_number}
use Rattle.foyer_core_model.specs.Follows.{Follows}
use Rattle.foyer_core_model.specs.Reply as model_reply
use Rattle.foyer_core_model.specs.State.{State}
use Rattle.foyer_core_model.specs.Step as model_step
use Rattle.foyer_core_model.specs.World.{World, IsFed, MayAllHappen}
use Rattle.foyer_core_rights.specs.Deeds as deeds
use Rattle.foyer_core_rights.specs.Deeds.{Deed, events_in}
use Rattle.foyer_core_laws.specs.Content.{Content, Meaning}
use Rattle.foyer_core_laws.specs.CoreRules.{layout, machine, IsEncoded}
use Rattle.foyer_core_laws.specs.Sizes.{AreValid}
use Rattle.foyer_core_laws.specs.Settings.{Settings}
use Rattle.foyer_core_steps.specs.Asked.{step_of}
use Rattle.foyer_core_steps.specs.Refines.{Refines}
use Rattle.foyer_core_steps.specs.Replied.{IsReply}
use Rattle.foyer_core_steps.specs.declared.state.Core.{Core}
use Rattle.foyer_core_steps.specs.declared.reply.Reply.{Reply}
use Rattle.foyer_core_steps.specs.declared.reply.Reply.TheVariants as replies
use Rattle.foyer_core_steps.specs.declared.step.Step.{Step}
use Rattle.foyer_core_told.specs.declared.event.Told.{Told}
use Rattle.foyer_core_told.specs.declared.event.Told.TheVariants as told
use Rattle.foyer_core_told.specs.ToldRuns.{Opens, Tells, IsRun, HasRun, IsCoreAt, IsTold}
use Rattle.foyer_core_told.specs.ToldSteps.{IsOpeningOf, AreAccesses, IsStepOf, IsFedTo, IsLeft}
use Rattle.foyer_core_told.specs.ToldLoads.{is_read, makes_ticket, tickets_in, count_of, steps_in}
use Rattle.foyer_core_told.specs.ToldRights.{core_right, disk_right, step_takes, takes, rights_count, ticket_right}
use Rattle.foyer_core_told.specs.Telling.{WasOpened, IsNew, HasOpened, IsEventOf, IsStep, HasAdded, MayStep, BringsTrue, IsCoreStep, StandsAt, HasStepped}
use Rattle.foyer_core_told.proofs.ToldStepLemmas.{run_split, opening_told, goes_on, leaves}
use Rattle.foyer_core_told.proofs.ToldCounts.{runs_counted}
use Rattle.foyer_core_told.proofs.ToldRightLemmas.{excluded}

pub or_case : (a b : Bool) → (a || b) ≡ true → (a ≡ true) ⊎ (b ≡ true)
or_case true b is = inl refl
or_case false b is = inr is

abbrev is_empty : {X : Type 0} → List X → Bool
is_empty [] = true
is_empty (x ∷ xs) = false

pub not_empty : {X : Type 0} (xs : List X) (x : X) → xs ++ x ∷ [] ≡ [] → ⊥
not_empty [] x same = true≢false (sym (ap is_empty same))
not_empty (y ∷ xs) x same = true≢false (sym (ap is_empty same))

pub seen_some : {X : Type 0} (seen since : List X) → seen ++ since ≡ [] → (seen ≡ [] → ⊥) → ⊥
seen_some [] since same some = some refl
seen_some (x ∷ seen) since same some = true≢false (sym (ap is_empty same))

not_core : (n : ℕ) → ticket_right n ≡ core_right → ⊥
unfolding rights_count
not_core n same = absurd (omega (arith, same))

-- a right that a view has of its own
own_right : {E : Type 0} (k : ℕ) (v : View E) → 0 < times k v.has → 0 < times k (rights_of v)
own_right k v has = let all : times k (v.joined_has ++ v.has) ≡ times k v.joined_has + times k v.has = times_append k v.joined_has v.has in omega arith

module _ {K V P A D : Type 0} (m : Meaning K V P) (byte_at : D → ℕ → ℕ → ℕ) where
  -- a history that is told and that nobody went on by the core's right is empty
  untouched_empty : (log : List (Told K V P A D)) → IsTold m byte_at log → IsUntouched takes core_right log → log ≡ []
  untouched_empty [] is free = refl
  untouched_empty (told.Opened core disk ∷ es) is free = absurd (true≢false free.0)
  untouched_empty (e ∷ es) (inl none) free = none
  untouched_empty (e ∷ es) (inr run) free = absurd run.2.1.1

  pub opening_rights : (v : View (Told K V P A D)) (e : Told K V P A D) (core : Core K V P A) (disk : D) → IsNew v → IsOpeningOf core disk e → HasRights takes v e
  opening_rights v (told.Opened opened over) core disk new is k taken =
      elim (or_case (k == core_right) (k == disk_right) taken) [
        | inl first ↦ own_right k v (subst (λ j. 0 < times j v.has) (sym (eqb-true k core_right first)) new.1)
        | inr second ↦ own_right k v (subst (λ j. 0 < times j v.has) (sym (eqb-true k disk_right second)) new.2)
      ]
  opening_rights v e core disk new is k taken = absurd is

  -- what fits a new view is empty
  new_empty : (v : View (Told K V P A D)) (log : List (Told K V P A D)) → IsNew v → IsTold m byte_at log → Fits takes log v → log ≡ []
  new_empty v log new legal fits =
      let k = fits.0 in
      let same : log ≡ k.0 = k.1 ∙ ap (λ l. l ++ k.0) new.0 in
      untouched_empty log legal (subst (IsUntouched takes core_right) (sym same) (k.2 core_right new.1))

  pub opening_may : (v : View (Told K V P A D)) (e : Told K V P A D) (core : Core K V P A) (disk : D) → IsNew v → WasOpened core → IsOpeningOf core disk e → MayCome (IsTold m byte_at) takes v e
  opening_may v e core disk new (sound, (marks, o, opening, found)) is log legal fits =
      let run : HasRun m core.settings sound byte_at (e ∷ []) = opening_told m core.settings sound byte_at marks o core disk e opening found is in
      inr (core.settings, sound, subst (λ l. HasRun m core.settings sound byte_at (l ++ e ∷ [])) (sym (new_empty v log new legal fits)) run)

  pub opening_has : (v : View (Told K V P A D)) (e : Told K V P A D) (core : Core K V P A) (disk : D) (w : View (Told K V P A D)) → IsNew v → IsOpeningOf core disk e
      → GoesOnBy (IsTold m byte_at) takes makes_ticket rights_count v e w → HasOpened v core disk w
  opening_has v (told.Opened opened over) core disk w new is added =
      let e : Told K V P A D = told.Opened opened over in
      (e, is, added.is ∙ ap (λ l. viewer (l ++ e ∷ []) (rights_of v)) (new_empty v added.log new added.legal added.fits))
  opening_has v e core disk w new is added = absurd is

  pub step_rights : (own mine : View (Told K V P A D)) (e : Told K V P A D) (step : Step K V P A) (answer : Reply K V P A) (new : Core K V P A) → MayStep own mine step → IsEventOf step answer new e → HasRights takes (joined own mine) e
  step_rights own mine (told.Steps made gave left) step answer new may is k taken =
      let all : times k (mine.has ++ own.has) ≡ times k mine.has + times k own.has = times_append k mine.has own.has in
      elim (or_case (k == core_right) (step_takes made.value k) taken) [
        | inl first ↦ (let owns : 0 < times k own.has = subst (λ j. 0 < times j own.has) (sym (eqb-true k core_right first)) may.0 in omega arith)
        | inr brought ↦ (let has : 0 < times k mine.has = may.1 k (subst (λ (x : Step K V P A). step_takes x k ≡ true) is.0 brought) in omega arith)
      ]
  step_rights own mine e step answer new may is k taken = absurd is

  step_as : (e : Told K V P A D) (step : Step K V P A) (answer : Reply K V P A) (old new : Core K V P A) → IsEventOf step answer new e → Refines m step answer old new → IsStepOf m old e
  step_as (told.Steps made gave left) step answer old new is meets =
      subst (λ (x : Step K V P A × Reply K V P A × Core K V P A). Refines m x.0 x.1 old x.2) (λ i. (sym is.0 i, sym is.1 i, sym is.2 i)) meets
  step_as e step answer old new is meets = absurd is

  fed_as : (s : Settings) (sound : AreValid s) (u : World Content) (e : Told K V P A D) (step : Step K V P A) (answer : Reply K V P A) (new : Core K V P A) → IsEventOf step answer new e
      → IsFed (machine m s sound) (layout s) (IsEncoded m.is_key m.is_value) u (step_of m step) → IsFedTo m s sound u e
  fed_as s sound u (told.Steps made gave left) step answer new is fed =
      subst (λ (x : Step K V P A). IsFed (machine m s sound) (layout s) (IsEncoded m.is_key m.is_value) u (step_of m x)) (sym is.0) fed
  fed_as s sound u e step answer new is fed = absurd is

  left_as : (e : Told K V P A D) (step : Step K V P A) (answer : Reply K V P A) (new : Core K V P A) → IsEventOf step answer new e → IsLeft e new
  left_as (told.Steps made gave left) step answer new is = is.2
  left_as e step answer new is = absurd is

  pub step_may : (own mine : View (Told K V P A D)) (e : Told K V P A D) (step : Step K V P A) (answer : Reply K V P A) (new : Core K V P A) → MayStep own mine step → IsCoreStep m byte_at own step answer new → BringsTrue m byte_at mine step
      → IsEventOf step answer new e → MayCome (IsTold m byte_at) takes (joined own mine) e
  step_may own mine e step answer new may (old, stands, meets) brings is log legal fits =
      let k = fits.0 in
      elim legal [
        | inl none ↦ absurd (seen_some own.seen k.0 (sym k.1 ∙ none) stands.0)
        | inr run ↦ inr (
            let s = run.0 in
            let sound = run.1 in (
              s,
              sound,
              subst (λ l. HasRun m s sound byte_at (l ++ e ∷ [])) (sym k.1)
                  (goes_on m s sound byte_at own.seen k.0 old e (stands.1 s sound) ((excluded k.0).accesses (k.2 core_right may.0)) (step_as e step answer old new is meets)
                  (λ u told_run. fed_as s sound u e step answer new is (brings s sound log u fits.1 (subst (λ l. IsRun m s sound byte_at l u) (sym k.1) told_run)))
                  (subst (HasRun m s sound byte_at) k.1 run.2)),
            )
            )
      ]

  -- the core stands for what was seen then
  pub step_stands : (own mine owns after : View (Told K V P A D)) (e : Told K V P A D) (step : Step K V P A) (answer : Reply K V P A) (new : Core K V P A) → IsEventOf step answer new e
      → GoesOnWith (IsTold m byte_at) takes makes_ticket rights_count core_right own mine e owns after → StandsAt m byte_at owns.seen new
  step_stands own mine owns after e step answer new is added = (
    (λ none. not_empty added.log e (sym added.own_seen ∙ none)),
    λ s sound. subst (λ l. IsCoreAt m s sound byte_at l new) (sym added.own_seen) (leaves m s sound byte_at added.log e new (left_as e step answer new is)),
  )

  step_is : (e : Told K V P A D) (step : Step K V P A) (answer : Reply K V P A) (new : Core K V P A) → IsEventOf step answer new e → IsStep step answer e
  step_is (told.Steps made gave left) step answer new is = (is.0, is.1)
  step_is e step answer new is = absurd is

  makes_as : (e : Told K V P A D) (step : Step K V P A) (answer : Reply K V P A) (new : Core K V P A) → IsEventOf step answer new e → makes_ticket e ≡ is_read answer
  makes_as (told.Steps made gave left) step answer new is = ap is_read is.1
  makes_as e step answer new is = absurd is

  -- accesses issue no tickets
  none_made : (es : List (Told K V P A D)) → AreAccesses es → tickets_in es ≡ 0
  none_made [] all = refl
  none_made (told.Opened core disk ∷ es) all = absurd (true≢false (sym all.0))
  none_made (told.Steps step reply core ∷ es) all = absurd (true≢false (sym all.0))
  none_made (e ∷ es) all = let h : tickets_in es ≡ 0 = none_made es all.1 in omega arith

  more_tickets : (xs ys : List (Told K V P A D)) → tickets_in (xs ++ ys) ≡ tickets_in xs + tickets_in ys
  more_tickets [] ys = omega arith
  more_tickets (x ∷ xs) ys = let h : tickets_in (xs ++ ys) ≡ tickets_in xs + tickets_in ys = more_tickets xs ys in omega arith

  pub tickets_still : (seen since : List (Told K V P A D)) → AreAccesses since → tickets_in (seen ++ since) ≡ tickets_in seen
  tickets_still seen since all =
      let none : tickets_in since ≡ 0 = none_made since all in
      let more : tickets_in (seen ++ since) ≡ tickets_in seen + tickets_in since = more_tickets seen since in
      omega arith

  -- since the lock's witness looked, none was issued
  same_tickets : (own mine owns after : View (Told K V P A D)) (e : Told K V P A D) → 0 < times core_right own.has
      → (added : GoesOnWith (IsTold m byte_at) takes makes_ticket rights_count core_right own mine e owns after) → tickets_in added.log ≡ tickets_in own.seen
  same_tickets own mine owns after e right added =
      let k = added.fits in
      ap tickets_in k.1 ∙ tickets_still own.seen k.0 ((excluded k.0).accesses (k.2 core_right right))

  -- each ticket was issued by a step that counts
  one_below : (answer : Reply K V P A) → one (is_read answer) ≤ count_of answer
  one_below (replies.Read ticket) = omega arith
  one_below answer = omega arith

  tickets_below : (es : List (Told K V P A D)) → tickets_in es ≤ steps_in es
  tickets_below [] = omega arith
  tickets_below (told.Steps step reply core ∷ es) = let h : tickets_in es ≤ steps_in es = tickets_below es in let b : one (is_read reply.value) ≤ count_of reply.value = one_below reply.value in omega arith
  tickets_below (e ∷ es) = let h : tickets_in es ≤ steps_in es = tickets_below es in omega arith

  read_follows : (s : Settings) (sound : AreValid s) (old new : State Content) (step : model_step.Step Content) (answer : Reply K V P A) (it : model_reply.Reply Content) → is_read answer ≡ true → IsReply m answer it
      → Follows (machine m s sound) (layout s) old step it new → old.steps < last_number
  read_follows s sound old new step (replies.Read ticket) it is said follows = (subst (λ x. Follows (machine m s sound) (layout s) old step x new) said follows).0
  read_follows s sound old new step answer it is said follows = absurd (true≢false (sym is))

  opens_no_ticket : (s : Settings) (sound : AreValid s) (e : Told K V P A D) (w : World Content) → makes_ticket e ≡ true → Opens m s sound byte_at e w → ⊥
  opens_no_ticket s sound (told.Opened core disk) w is opens = true≢false (sym is)
  opens_no_ticket s sound e w is opens = opens

  few_at : (s : Settings) (sound : AreValid s) (w : World Content) (e : Told K V P A D) (d : Deed Content) → makes_ticket e ≡ true → Tells m s sound byte_at w e d
      → MayAllHappen (machine m s sound) (layout s) (IsEncoded m.is_key m.is_value) w (events_in d) → w.core.steps < last_number
  few_at s sound w (told.Steps step reply core) (deeds.Steps it answer new) is tells may = read_follows s sound w.core new it reply.value answer is tells.1 may.0.1
  few_at s sound w (told.Steps step reply core) d is tells may = absurd tells
  few_at s sound w e d is tells may = absurd (true≢false (sym is))

  -- so a number is left for each
  few_tickets : (log : List (Told K V P A D)) (e : Told K V P A D) → makes_ticket e ≡ true → IsTold m byte_at (log ++ e ∷ []) → tickets_in log < last_number
  few_tickets log e is legal =
      elim legal [
        | inl none ↦ absurd (not_empty log e none)
        | inr run ↦ (
            let s = run.0 in
            let sound = run.1 in
            let parts = run_split m s sound byte_at log e [] run.2.0 (λ w. opens_no_ticket s sound e w is) run.2.1 in
            let few : parts.0.core.steps < last_number = few_at s sound parts.0 e parts.2.0 is parts.2.1 parts.2.2 in
            let steps : parts.0.core.steps ≡ steps_in log = (runs_counted m s sound byte_at log parts.0 parts.1).1 in
            let below : tickets_in log ≤ steps_in log = tickets_below log in
            omega arith)
      ]

  pub step_counts : (own mine owns after : View (Told K V P A D)) (e : Told K V P A D) (step : Step K V P A) (answer : Reply K V P A) (new : Core K V P A) (old_count new_count : ℕ) → IsEventOf step answer new e
      → 0 < times core_right own.has → old_count ≡ tickets_in own.seen → (is_read answer ≡ false → new_count ≡ old_count) → (is_read answer ≡ true → old_count < last_number → new_count ≡ old_count + 1)
      → GoesOnWith (IsTold m byte_at) takes makes_ticket rights_count core_right own mine e owns after → new_count ≡ tickets_in owns.seen
  step_counts own mine owns after e step answer new old_count new_count is right counts none one_more added =
      let same : tickets_in added.log ≡ tickets_in own.seen = same_tickets own mine owns after e right added in
      let all : tickets_in (added.log ++ e ∷ []) ≡ tickets_in added.log + (one (makes_ticket e) + 0) = more_tickets added.log (e ∷ []) in
      let made : makes_ticket e ≡ is_read answer = makes_as e step answer new is in
      go (is_read answer) refl added.log same all made added.goes_on ∙ ap tickets_in (sym added.own_seen)
    where
      go : (b : Bool) → is_read answer ≡ b → (log : List (Told K V P A D)) → tickets_in log ≡ tickets_in own.seen → tickets_in (log ++ e ∷ []) ≡ tickets_in log + (one (makes_ticket e) + 0) → makes_ticket e ≡ is_read answer
          → IsTold m byte_at (log ++ e ∷ []) → new_count ≡ tickets_in (log ++ e ∷ [])
      go true is_it log same all made legal =
          let few : tickets_in log < last_number = few_tickets log e (made ∙ is_it) legal in
          let more : new_count ≡ old_count + 1 = one_more is_it (omega arith) in
          let single : one (makes_ticket e) ≡ 1 = ap one (made ∙ is_it) in
          omega arith
      go false is_it log same all made legal =
          let kept : new_count ≡ old_count = none is_it in
          let nothing : one (makes_ticket e) ≡ 0 = ap one (made ∙ is_it) in
          omega arith

  -- what the core's lock has seen then
  pub step_adds : (own mine owns after : View (Told K V P A D)) (e : Told K V P A D) (step : Step K V P A) (answer : Reply K V P A) (new : Core K V P A) → IsEventOf step answer new e → 0 < times core_right own.has
      → GoesOnWith (IsTold m byte_at) takes makes_ticket rights_count core_right own mine e owns after → HasAdded own owns step answer new
  step_adds own mine owns after e step answer new is right added =
      let k = added.fits in
      record { since = k.0; event = e; accesses = (excluded k.0).accesses (k.2 core_right right); seen = added.own_seen ∙ ap (λ l. l ++ e ∷ []) k.1; is = is }

  -- what the caller has seen then
  pub step_has : (own mine owns after : View (Told K V P A D)) (e : Told K V P A D) (step : Step K V P A) (answer : Reply K V P A) (new : Core K V P A) (number : ℕ) → IsEventOf step answer new e
      → 0 < times core_right own.has → number ≡ tickets_in own.seen → GoesOnWith (IsTold m byte_at) takes makes_ticket rights_count core_right own mine e owns after → HasStepped m byte_at mine after step answer number
  step_has own mine owns after e step answer new number is right counts added =
      let same : tickets_in added.log ≡ tickets_in own.seen = same_tickets own mine owns after e right added in
      let number_is : number ≡ tickets_in added.log = counts ∙ sym same in
      record {
        gone = record {
          log = added.log;
          event = e;
          kept = added.kept;
          seen = added.seen;
          rights = λ k above. added.rights k (λ zero_is. absurd (omega (arith, zero_is, above)));
          is = step_is e step answer new is;
          goes_on = added.goes_on;
        };
        number_is = number_is;
        ticket = λ is_it. subst (λ n. 0 < times (ticket_right n) after.has) (sym number_is) (added.fresh_right (makes_as e step answer new is ∙ is_it) (λ zero_is. not_core (tickets_in added.log) zero_is));
      }

-- The cleans of a destroy, in the history that its session has seen.
use Rattle.std.proofs.Common.{◌≡◌, ℕ, zero, suc, ◌+◌, ◌<◌, ◌==◌, ◌||◌, Bool, true, false, if◌then◌else◌, List, [], ◌∷◌, ◌++◌, Result, Ok, Err, refl, sym, ap, ◌∙◌, subst, is_ok, arith, append_assoc}
use Rattle.std.proofs.lemmas.Bool.{eqb-true, eqb-false}
use Rattle.foyer_device_page.specs.declared.error.Error.{Error}
use Rattle.foyer_device_page.specs.declared.error.Error.TheVariants as error
use Rattle.foyer_device_page.specs.declared.error.ErrorKind.TheVariants as kind
use Rattle.foyer_core_chronicle.specs.Rights.{one, times}
use Rattle.foyer_core_chronicle.specs.SharedHistory.{Continues, IsUntouched}
use Rattle.foyer_core_chronicle.specs.declared.View.{View}
use Rattle.foyer_core_model.proofs.Ids.{in_front, in_last}
use Rattle.foyer_core_model.specs.Access.{CleanIssued, CleanDone}
use Rattle.foyer_core_model.specs.Follows.{Follows}
use Rattle.foyer_core_model.specs.Ids.{ids, is_id_in}
use Rattle.foyer_core_model.specs.Reply as model_reply
use Rattle.foyer_core_model.specs.Step as model_step
use Rattle.foyer_core_model.specs.World.{World, MayAllHappen, is_none}
use Rattle.foyer_core_rights.specs.Deeds as deeds
use Rattle.foyer_core_rights.specs.Deeds.{Deed, events_in, after_deed}
use Rattle.foyer_core_laws.specs.Content.{Content, Meaning}
use Rattle.foyer_core_laws.specs.CoreRules.{layout, machine, IsEncoded}
use Rattle.foyer_core_laws.specs.Sizes.{AreValid}
use Rattle.foyer_core_laws.specs.Settings.{Settings}
use Rattle.foyer_core_steps.specs.Asked.{step_of, fault_of}
use Rattle.foyer_core_steps.specs.Replied.{IsReply}
use Rattle.foyer_core_steps.specs.declared.reply.Reply.{Reply}
use Rattle.foyer_core_steps.specs.declared.reply.Reply.TheVariants as replies
use Rattle.foyer_core_steps.specs.declared.step.Step.{Step}
use Rattle.foyer_core_steps.specs.declared.step.Step.TheVariants as steps
use Rattle.foyer_core_told.specs.declared.event.Told.{Told}
use Rattle.foyer_core_told.specs.declared.event.Told.TheVariants as told
use Rattle.foyer_core_told.specs.ToldRuns.{Tells}
use Rattle.foyer_core_told.specs.ToldRights.{clean_right, core_right, disk_right, step_takes, takes}
use Rattle.foyer_core_told.specs.Telling.{BringsTrue, IsStep, HasGoneOn, HasStepped}
use Rattle.foyer_core_told.proofs.ToldStepLemmas.{run_split}
use Rattle.foyer_core_told.proofs.ToldRightLemmas.{same_self}
use Rattle.foyer_core_told.proofs.TellingLemmas.{not_empty}
use Rattle.foyer_io_told.specs.ToldAccess.{HasClean, IsCleanOf}
use Rattle.foyer_io_told.proofs.ToldAccessLemmas.{known_on}
use Rattle.foyer_core_threads.specs.Asking.{HasSizes}
use Rattle.foyer_core_threads.specs.Going.{IsMadeAgain, IsRefused}
use Rattle.foyer_core_threads.proofs.AgainLemmas.{tried_on}
use Rattle.foyer_core_threads.proofs.HistoryJoins.{cleans_above}
use Rattle.foyer_core_threads.proofs.LoadLemmas.{opens_no_step}

all_ids : (n b : ℕ) → b < n → is_id_in b (ids n) ≡ true
all_ids zero b below = absurd (omega arith)
all_ids (suc n) b below = go (b == n) refl (all_ids n b)
  where
    go : (t : Bool) → (b == n) ≡ t → (b < n → is_id_in b (ids n) ≡ true) → is_id_in b (ids n ++ n ∷ []) ≡ true
    go true is before = subst (λ k. is_id_in k (ids n ++ n ∷ []) ≡ true) (sym (eqb-true b n is)) (in_last n (ids n))
    go false is before = in_front b (ids n) (n ∷ []) (before (let apart : b ≡ n → ⊥ = eqb-false b n is in omega arith))

fault_is : {X : Type 0} (outcome : Result X Error) → is_none (fault_of outcome) ≡ is_ok outcome
fault_is (Ok x) = refl
fault_is (Err error.Memory) = refl
fault_is (Err e) = refl

apart : (x y : ℕ) → (x ≡ y → ⊥) → (x == y) ≡ false
apart x y other = go (x == y) refl
  where
    go : (t : Bool) → (x == y) ≡ t → t ≡ false
    go true is = absurd (other (eqb-true x y is))
    go false is = refl

-- the right of one clean alone
only_one : (j k : ℕ) → 0 < times j (k ∷ []) → j ≡ k
only_one j k held = go (k == j) refl held
  where
    go : (t : Bool) → (k == j) ≡ t → 0 < one t + 0 → j ≡ k
    go true is enough = sym (eqb-true k j is)
    go false is enough = absurd (omega arith)

one_of_one : (k : ℕ) → 0 < times k (k ∷ [])
one_of_one k = subst (λ t. 0 < one t + 0) (sym (same_self k)) (omega arith)

other_clean : (b c : ℕ) → (c ≡ b → ⊥) → clean_right c ≡ clean_right b → ⊥
other_clean b c other same = other (omega arith)

clean_no_core : (c : ℕ) → clean_right c ≡ core_right → ⊥
clean_no_core c same = absurd (omega arith)

clean_no_disk : (c : ℕ) → clean_right c ≡ disk_right → ⊥
clean_no_disk c same = absurd (omega arith)

neither : (x y : Bool) → x ≡ false → y ≡ false → (x || y) ≡ false
neither x y first next = ap (λ t. t || y) first ∙ next

module _ {K V P A D : Type 0} (m : Meaning K V P) (byte_at : D → ℕ → ℕ → ℕ) where
  untouched_more : (k : ℕ) (xs : List (Told K V P A D)) (e : Told K V P A D) → IsUntouched takes k xs → takes e k ≡ false → IsUntouched takes k (xs ++ e ∷ [])
  untouched_more k [] e free is = (is, tt)
  untouched_more k (x ∷ xs) e free is = (free.0, untouched_more k xs e free.1 is)

  -- a clean that was issued stays so, if the session has its right and goes on by an event that doesn't take it
  clean_stays : (mine after : View (Told K V P A D)) (Is : Told K V P A D → Type 0) (c : ℕ) → HasGoneOn m byte_at mine after Is → ((e : Told K V P A D) → Is e → takes e (clean_right c) ≡ false)
      → 0 < times (clean_right c) mine.has → HasClean m byte_at mine.seen c CleanIssued → HasClean m byte_at after.seen c CleanIssued
  clean_stays mine after Is c gone free right knows =
      let untouched = untouched_more (clean_right c) gone.kept.0 gone.event (gone.kept.2 (clean_right c) right) (free gone.event gone.is) in
      let kept : Continues takes after.seen mine.seen (clean_right c ∷ []) = (
        gone.kept.0 ++ gone.event ∷ [],
        gone.seen ∙ ap (λ l. l ++ gone.event ∷ []) gone.kept.1 ∙ append_assoc mine.seen gone.kept.0 (gone.event ∷ []),
        λ j held. subst (λ i. IsUntouched takes i (gone.kept.0 ++ gone.event ∷ [])) (sym (only_one j (clean_right c) held)) untouched,
      ) in
      known_on m byte_at mine.seen (clean_right c ∷ []) (λ s w. w.clean_states c ≡ CleanIssued) after.seen knows kept (λ s w u keeps h. keeps.cleans c (kept.2 (clean_right c) (one_of_one (clean_right c))) h)

  clean_takes : (b c : ℕ) (ok : Bool) (disk : D) → (c ≡ b → ⊥) → (e : Told K V P A D) → IsCleanOf e b ok disk → takes e (clean_right c) ≡ false
  clean_takes b c ok disk other (told.Cleans block well left) is =
      neither _ _ (apart (clean_right c) disk_right (clean_no_disk c)) (apart (clean_right c) (clean_right block) (other_clean block c (λ same. other (same ∙ is.0))))
  clean_takes b c ok disk other e is = absurd is

  report_takes : (b c : ℕ) (outcome : Result Unit Error) (answer : Reply K V P A) → (c ≡ b → ⊥) → (e : Told K V P A D) → IsStep (steps.DestroyCleaned b outcome) answer e → takes e (clean_right c) ≡ false
  report_takes b c outcome answer other (told.Steps made gave left) is =
      neither _ _ (apart (clean_right c) core_right (clean_no_core c)) (ap (λ (x : Step K V P A). step_takes x (clean_right c)) is.0 ∙ apart (clean_right c) (clean_right b) (other_clean b c other))
  report_takes b c outcome answer other e is = absurd is

  tried_stays : (count b c : ℕ) (outcome : Result Unit Error) (mine tried : View (Told K V P A D)) → (c ≡ b → ⊥) → IsRefused m byte_at count (steps.DestroyCleaned b outcome) mine tried
      → 0 < times (clean_right c) mine.has → HasClean m byte_at mine.seen c CleanIssued → HasClean m byte_at tried.seen c CleanIssued
  tried_stays zero b c outcome mine tried other same right knows = subst (λ (v : View (Told K V P A D)). HasClean m byte_at v.seen c CleanIssued) (sym same) knows
  tried_stays (suc count) b c outcome mine tried other (before, refused, (n, stepped)) right knows =
      clean_stays before tried (IsStep (steps.DestroyCleaned b outcome) (replies.Refused kind.Memory (steps.DestroyCleaned b outcome))) c stepped.gone
      (report_takes b c outcome (replies.Refused kind.Memory (steps.DestroyCleaned b outcome)) other)
      ((tried_on m byte_at count (steps.DestroyCleaned b outcome) mine before refused).rights (clean_right c) (cleans_above c) right)
      (tried_stays count b c outcome mine before other refused right knows)

  -- the clean of a block and its report leave those of others to be done
  pub others_stay : (mine cleaned after : View (Told K V P A D)) (b c : ℕ) (ok : Bool) (disk : D) (outcome : Result Unit Error) (answer : Reply K V P A) → (c ≡ b → ⊥)
      → HasGoneOn m byte_at mine cleaned (λ e. IsCleanOf e b ok disk) → IsMadeAgain m byte_at cleaned after (steps.DestroyCleaned b outcome) answer
      → 0 < times (clean_right c) mine.has → HasClean m byte_at mine.seen c CleanIssued → HasClean m byte_at after.seen c CleanIssued
  others_stay mine cleaned after b c ok disk outcome answer other gone made right knows =
      let there = clean_stays mine cleaned (λ e. IsCleanOf e b ok disk) c gone (clean_takes b c ok disk other) right knows in
      let has : 0 < times (clean_right c) cleaned.has = gone.rights (clean_right c) (cleans_above c) right in
      clean_stays made.tried after (IsStep (steps.DestroyCleaned b outcome) answer) c made.made.gone (report_takes b c outcome answer other)
      ((tried_on m byte_at made.times (steps.DestroyCleaned b outcome) cleaned made.tried made.refused).rights (clean_right c) (cleans_above c) has)
      (tried_stays made.times b c outcome cleaned made.tried other made.refused has there)

  -- a clean that was done may be reported to a destroy
  pub clean_brings_destroy : (mine : View (Told K V P A D)) (b : ℕ) (outcome : Result Unit Error) → 0 < times (clean_right b) mine.has → HasClean m byte_at mine.seen b (CleanDone (is_ok outcome))
      → BringsTrue m byte_at mine (steps.DestroyCleaned b outcome)
  clean_brings_destroy mine b outcome right knows s sound log u kept run =
      let there = known_on m byte_at mine.seen mine.has (λ s w. w.clean_states b ≡ CleanDone (is_ok outcome)) log knows kept (λ s w u keeps h. keeps.cleaned b (is_ok outcome) (kept.2 (clean_right b) right) h) in
      there.1 s sound u run ∙ ap CleanDone (sym (fault_is outcome))

  -- the cleans that a destroy issues
  cleared_at : (s : Settings) (sound : AreValid s) (w : World Content) (b : ℕ) (e : Told K V P A D) (d : Deed Content) → b < s.blocks
      → IsStep steps.DestroyClear replies.Cleared e → Tells m s sound byte_at w e d → MayAllHappen (machine m s sound) (layout s) (IsEncoded m.is_key m.is_value) w (events_in d)
      → (after_deed (machine m s sound) w d).clean_states b ≡ CleanIssued
  cleared_at s sound w b (told.Steps made gave core) (deeds.Steps it answer new) below is tells may =
      let step_is : it ≡ model_step.DestroyClear = tells.0 ∙ ap (step_of m) is.0 in
      let said : IsReply {K = K} {V = V} {P = P} {A = A} m replies.Cleared answer = subst (λ r. IsReply m r answer) is.1 tells.1 in
      let follows : Follows (machine m s sound) (layout s) w.core model_step.DestroyClear (model_reply.Cleared said.0) new =
      subst (λ (x : model_step.Step Content × model_reply.Reply Content). Follows (machine m s sound) (layout s) w.core x.0 x.1 new) (λ i. (step_is i, said.1 i)) may.0.1 in
      let all : is_id_in b said.0 ≡ true = ap (is_id_in b) follows.2.1.0 ∙ all_ids s.blocks b below in
      subst (λ (x : model_step.Step Content × model_reply.Reply Content). (after_deed (machine m s sound) w (deeds.Steps x.0 x.1 new)).clean_states b ≡ CleanIssued)
      (λ i. (sym step_is i, sym said.1 i))
      (ap (λ t. if t then CleanIssued else w.clean_states b) all)
  cleared_at s sound w b (told.Steps made gave core) d below is tells may = absurd tells
  cleared_at s sound w b e d below is tells may = absurd is

  cleared_on : (mine after : View (Told K V P A D)) (b n : ℕ) (sizes : Settings) → HasStepped m byte_at mine after steps.DestroyClear replies.Cleared n
      → HasSizes m byte_at mine.seen sizes → b < sizes.blocks → HasClean m byte_at after.seen b CleanIssued
  cleared_on mine after b n sizes stepped knows below =
      let g = stepped.gone in
      let there = known_on m byte_at mine.seen mine.has (λ s w. s ≡ sizes) g.log knows g.kept (λ s w u keeps h. h) in
      subst (λ l. HasClean m byte_at l b CleanIssued) (sym g.seen) (
        not_empty g.log g.event,
        λ s sound u run.
            let parts = run_split m s sound byte_at g.log g.event [] u (λ w. opens_no_step m byte_at s sound steps.DestroyClear replies.Cleared g.event w g.is) run in
            ap (λ (x : World Content). x.clean_states b) parts.2.3
            ∙ cleared_at s sound parts.0 b g.event parts.2.0 (subst (λ (t : Settings). b < t.blocks) (sym (there.1 s sound parts.0 parts.1)) below) g.is parts.2.1 parts.2.2,
      )

  pub are_to_clean : (mine after : View (Told K V P A D)) (b : ℕ) (sizes : Settings) (answer : Reply K V P A) → IsMadeAgain m byte_at mine after steps.DestroyClear answer
      → HasSizes m byte_at mine.seen sizes → b < sizes.blocks → answer ≡ replies.Cleared → HasClean m byte_at after.seen b CleanIssued
  are_to_clean mine after b sizes answer made knows below is =
      cleared_on made.tried after b made.number sizes (subst (λ r. HasStepped m byte_at made.tried after steps.DestroyClear r made.number) is made.made)
      ((tried_on m byte_at made.times steps.DestroyClear mine made.tried made.refused).sizes sizes knows) below

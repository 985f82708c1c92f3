-- The opening and each step of a locked core go on with whatever run is told.
use Rattle.std.proofs.Common.{◌≡◌, ℕ, true, true≢false, List, [], ◌∷◌, ◌++◌, refl, sym, ap, ◌∙◌, subst}
use Rattle.foyer_block_recover.specs.Opening.{Opened}
use Rattle.foyer_block_recover.specs.Placed.{IsOpening}
use Rattle.foyer_core_model.specs.World.{World}
use Rattle.foyer_core_rights.specs.Deeds as deeds
use Rattle.foyer_core_rights.specs.Deeds.{Deed, events_in, after_deed}
use Rattle.foyer_core_laws.specs.Begins.{opened_state, opened_world}
use Rattle.foyer_core_laws.specs.Content.{Content, Meaning}
use Rattle.foyer_core_laws.specs.CoreRules.{machine}
use Rattle.foyer_core_laws.specs.Sizes.{AreValid, sizes_in}
use Rattle.foyer_core_laws.specs.Settings.{Settings}
use Rattle.foyer_core_laws.proofs.OpenedWorlds.{world_opened}
use Rattle.foyer_core_steps.specs.Asked.{step_of}
use Rattle.foyer_core_steps.specs.Opened.{IsOpened}
use Rattle.foyer_core_steps.specs.StateOf.{IsStateOf}
use Rattle.foyer_core_steps.specs.declared.state.Core.{Core}
use Rattle.foyer_core_steps.proofs.OpenedLemmas.{opened_stands}
use Rattle.foyer_core_told.specs.declared.event.Told.{Told}
use Rattle.foyer_core_told.specs.declared.event.Told.TheVariants as told
use Rattle.foyer_core_told.specs.ToldRuns.{Opens, Tells, LeadsTo, IsRun, HasRun, IsCoreAt, IsDiskAt}
use Rattle.foyer_core_told.specs.ToldSteps.{IsOpeningOf, is_access, AreAccesses, IsStepOf, IsFedTo, IsLeft, IsDiskLeft}

module _ {K V P A D : Type 0} (m : Meaning K V P) (s : Settings) (sound : AreValid s) (byte_at : D → ℕ → ℕ → ℕ) where
  pub leads_split : (w : World Content) (xs ys : List (Told K V P A D)) (u : World Content) → LeadsTo m s sound byte_at w (xs ++ ys) u
      → (v : World Content) × LeadsTo m s sound byte_at w xs v × LeadsTo m s sound byte_at v ys u
  leads_split w [] ys u run = (w, refl, run)
  leads_split w (x ∷ xs) ys u run =
      let rest = leads_split (after_deed (machine m s sound) w run.0) xs ys u run.3 in
      (rest.0, (run.0, run.1, run.2, rest.1), rest.2)

  pub leads_join : (w : World Content) (xs ys : List (Told K V P A D)) (v u : World Content) → LeadsTo m s sound byte_at w xs v → LeadsTo m s sound byte_at v ys u → LeadsTo m s sound byte_at w (xs ++ ys) u
  leads_join w [] ys v u is run = subst (λ (x : World Content). LeadsTo m s sound byte_at x ys u) is run
  leads_join w (x ∷ xs) ys v u front run = (front.0, front.1, front.2, leads_join (after_deed (machine m s sound) w front.0) xs ys v u front.3 run)

  -- before an event that opens nothing
  pub run_split : (xs : List (Told K V P A D)) (e : Told K V P A D) (ys : List (Told K V P A D)) (u : World Content) → ((w : World Content) → Opens m s sound byte_at e w → ⊥) → IsRun m s sound byte_at (xs ++ e ∷ ys) u
      → (v : World Content) × IsRun m s sound byte_at xs v × LeadsTo m s sound byte_at v (e ∷ ys) u
  run_split [] e ys u none run = absurd (none run.0 run.1)
  run_split (x ∷ xs) e ys u none run = let parts = leads_split run.0 xs (e ∷ ys) u run.2 in (parts.0, (run.0, run.1, parts.1), parts.2)

  -- and after one
  pub run_join : (xs ys : List (Told K V P A D)) (v u : World Content) → IsRun m s sound byte_at xs v → LeadsTo m s sound byte_at v ys u → IsRun m s sound byte_at (xs ++ ys) u
  run_join [] ys v u front run = absurd front
  run_join (x ∷ xs) ys v u front run = (front.0, front.1, leads_join front.0 xs ys v u front.2 run)

  pub opening_told : (marks : List (ℕ × ℕ)) (o : Opened) (core : Core K V P A) (disk : D) (e : Told K V P A D) → IsOpening (sizes_in s) s.blocks marks o → IsOpened s o core → IsOpeningOf core disk e
      → HasRun m s sound byte_at (e ∷ [])
  opening_told marks o core disk (told.Opened opened over) opening found is =
      let begins = world_opened m.is_key m.is_value s sound marks o opening (byte_at over.value) in
      let first : World Content = opened_world (machine m s sound) (byte_at over.value) o begins.0 in
      let stands : IsStateOf m s core (opened_state (machine m s sound) o) = opened_stands m s sound marks o core opening found in
      (first, (first, (begins.1, subst (λ (c : Core K V P A). IsStateOf m s c (opened_state (machine m s sound) o)) (sym is.0) stands, refl), refl))
  opening_told marks o core disk e opening found is = absurd is

  -- an access leaves the core
  same_one : (w : World Content) (e : Told K V P A D) (d : Deed Content) → is_access e ≡ true → Tells m s sound byte_at w e d → (after_deed (machine m s sound) w d).core ≡ w.core
  same_one w (told.Opened core disk) d is tells = absurd (true≢false (sym is))
  same_one w (told.Steps asked replied core) d is tells = absurd (true≢false (sym is))
  same_one w (told.Reads n came) (deeds.ReadsAt k result) is tells = refl
  same_one w (told.Scans b came) (deeds.ScansAt c result) is tells = refl
  same_one w (told.Writes f is_ok disk) (deeds.WritesAt g ok torn) is tells = refl
  same_one w (told.Cleans b is_ok disk) (deeds.CleansAt c ok torn) is tells = refl
  same_one w e d is tells = absurd tells

  pub same_core : (w : World Content) (es : List (Told K V P A D)) (u : World Content) → AreAccesses es → LeadsTo m s sound byte_at w es u → u.core ≡ w.core
  same_core w [] u all is = ap (λ (x : World Content). x.core) is
  same_core w (e ∷ es) u all run = same_core (after_deed (machine m s sound) w run.0) es u all.1 run.3 ∙ same_one w e run.0 all.0 run.1

  -- an access opens nothing
  opens_no_access : (e : Told K V P A D) (w : World Content) → is_access e ≡ true → Opens m s sound byte_at e w → ⊥
  opens_no_access (told.Opened core disk) w is opens = true≢false (sym is)
  opens_no_access e w is opens = opens

  -- the step after a world for whose state the core stands
  step_on : (w u : World Content) (old : Core K V P A) (e : Told K V P A D) → IsStateOf m s old w.core → u.core ≡ w.core → IsStepOf m old e → IsFedTo m s sound u e
      → (v : World Content) × LeadsTo m s sound byte_at u (e ∷ []) v
  step_on w u old (told.Steps asked replied left) stands same step fed =
      let here : IsStateOf m s old u.core = subst (IsStateOf m s old) (sym same) stands in
      let meets = step s sound u.core here in
      let d : Deed Content = deeds.Steps (step_of m asked.value) meets.it meets.after in
      (after_deed (machine m s sound) u d, (d, (refl, meets.reply, meets.stands), ((fed, meets.follows), tt), refl))
  step_on w u old e stands same step fed = absurd step

  pub goes_on : (seen since : List (Told K V P A D)) (old : Core K V P A) (e : Told K V P A D)
      → IsCoreAt m s sound byte_at seen old → AreAccesses since → IsStepOf m old e
      → ((u : World Content) → IsRun m s sound byte_at (seen ++ since) u → IsFedTo m s sound u e)
      → HasRun m s sound byte_at (seen ++ since)
      → HasRun m s sound byte_at ((seen ++ since) ++ e ∷ [])
  goes_on [] [] old e core all step fed run = absurd run.1
  goes_on [] (x ∷ since) old e core all step fed run = absurd (opens_no_access x run.1.0 all.0 run.1.1)
  goes_on (x ∷ seen) since old e core all step fed run =
      let u = run.0 in
      let first = run.1.0 in
      let parts = leads_split first seen since u run.1.2 in
      let on = step_on parts.0 u old e (core parts.0 (first, run.1.1, parts.1)) (same_core parts.0 since u all parts.2) step (fed u run.1) in
      (on.0, (first, run.1.1, leads_join first (seen ++ since) (e ∷ []) u on.0 run.1.2 on.1))

  left_one : (w u : World Content) (e : Told K V P A D) (d : Deed Content) (core : Core K V P A) → IsLeft e core → Tells m s sound byte_at w e d → u ≡ after_deed (machine m s sound) w d → IsStateOf m s core u.core
  left_one w u (told.Steps asked replied left) (deeds.Steps step answer new) core is tells ends =
      subst (λ (x : World Content). IsStateOf m s core x.core) (sym ends) (subst (λ (c : Core K V P A). IsStateOf m s c new) is tells.2)
  left_one w u (told.Steps asked replied left) d core is tells ends = absurd tells
  left_one w u (told.Opened left disk) d core is tells ends = absurd tells
  left_one w u e d core is tells ends = absurd is

  left_first : (w u : World Content) (e : Told K V P A D) (core : Core K V P A) → IsLeft e core → Opens m s sound byte_at e w → u ≡ w → IsStateOf m s core u.core
  left_first w u (told.Opened left disk) core is opens ends =
      subst (λ (x : World Content). IsStateOf m s core x.core) (sym ends) (subst (λ (c : Core K V P A). IsStateOf m s c w.core) is opens.1)
  left_first w u e core is opens ends = absurd opens

  pub leaves : (log : List (Told K V P A D)) (e : Told K V P A D) (core : Core K V P A) → IsLeft e core → IsCoreAt m s sound byte_at (log ++ e ∷ []) core
  leaves [] e core is u run = left_first run.0 u e core is run.1 run.2
  leaves (x ∷ log) e core is u run =
      let parts = leads_split run.0 log (e ∷ []) u run.2 in
      left_one parts.0 u e parts.2.0 core is parts.2.1 parts.2.3

  disk_left_one : (w u : World Content) (e : Told K V P A D) (d : Deed Content) (disk : D) → IsDiskLeft e disk → Tells m s sound byte_at w e d → u ≡ after_deed (machine m s sound) w d → u.bytes ≡ byte_at disk
  disk_left_one w u (told.Writes f is_ok left) (deeds.WritesAt g ok torn) disk is tells ends = ap (λ (x : World Content). x.bytes) ends ∙ tells.2 ∙ ap byte_at is
  disk_left_one w u (told.Cleans b is_ok left) (deeds.CleansAt c ok torn) disk is tells ends = ap (λ (x : World Content). x.bytes) ends ∙ tells.2 ∙ ap byte_at is
  disk_left_one w u (told.Opened core left) d disk is tells ends = absurd tells
  disk_left_one w u (told.Writes f is_ok left) d disk is tells ends = absurd tells
  disk_left_one w u (told.Cleans b is_ok left) d disk is tells ends = absurd tells
  disk_left_one w u e d disk is tells ends = absurd is

  disk_left_first : (w u : World Content) (e : Told K V P A D) (disk : D) → IsDiskLeft e disk → Opens m s sound byte_at e w → u ≡ w → u.bytes ≡ byte_at disk
  disk_left_first w u (told.Opened core left) disk is opens ends = ap (λ (x : World Content). x.bytes) ends ∙ opens.2 ∙ ap byte_at is
  disk_left_first w u e disk is opens ends = absurd opens

  pub leaves_disk : (log : List (Told K V P A D)) (e : Told K V P A D) (disk : D) → IsDiskLeft e disk → IsDiskAt m s sound byte_at (log ++ e ∷ []) disk
  leaves_disk [] e disk is u run = disk_left_first run.0 u e disk is run.1 run.2
  leaves_disk (x ∷ log) e disk is u run =
      let parts = leads_split run.0 log (e ∷ []) u run.2 in
      disk_left_one parts.0 u e parts.2.0 disk is parts.2.1 parts.2.3

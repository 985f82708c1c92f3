-- What a right is for stays if no event took the right.
use Rattle.std.proofs.Common.{◌≡◌, ℕ, zero, suc, ◌+◌, ◌≤◌, ◌==◌, Bool, true, false, true≢false, ◌||◌, List, [], ◌∷◌, ◌++◌, Some, refl, sym, ap, ◌∙◌, subst, arith}
use Rattle.std.proofs.lemmas.Bool.{eqb-true, eqb-false}
use Rattle.foyer_core_chronicle.specs.Rights.{one, times, AreRights}
use Rattle.foyer_core_chronicle.specs.SharedHistory.{IsUntouched}
use Rattle.foyer_core_chronicle.proofs.RightLemmas.{times_append}
use Rattle.foyer_core_model.specs.Access.{CleanIssued, CleanDone}
use Rattle.foyer_core_model.specs.Ids.{ids}
use Rattle.foyer_core_model.specs.Reply as model_reply
use Rattle.foyer_core_model.specs.World.{World}
use Rattle.foyer_core_model.specs.Laws.{IsReached}
use Rattle.foyer_core_model.proofs.Promises.{reached_more}
use Rattle.foyer_core_rights.specs.Deeds as deeds
use Rattle.foyer_core_rights.specs.Deeds.{Deed, OfCore, OfDisk, OfWrites, OfLoad, OfScan, OfClean, Takes, IsOfWrites, IsOfScan, IsOfClean, events_in, after_deed}
use Rattle.foyer_core_rights.specs.Frames.{HasLoad}
use Rattle.foyer_core_rights.proofs.FrameLemmas.{frames}
use Rattle.foyer_core_rights.proofs.IssuedLemmas.{stays}
use Rattle.foyer_core_laws.specs.Content.{Content, Meaning}
use Rattle.foyer_core_laws.specs.CoreRules.{layout, machine, IsEncoded}
use Rattle.foyer_core_laws.specs.Sizes.{AreValid}
use Rattle.foyer_core_laws.specs.Settings.{Settings}
use Rattle.foyer_core_laws.proofs.LawLemmas.{demands}
use Rattle.foyer_core_steps.specs.Asked.{step_of}
use Rattle.foyer_core_steps.specs.declared.step.Step.{Step}
use Rattle.foyer_core_steps.specs.declared.step.Step.TheVariants as steps
use Rattle.foyer_core_told.specs.declared.event.Told.{Told}
use Rattle.foyer_core_told.specs.declared.event.Told.TheVariants as told
use Rattle.foyer_core_told.specs.ToldRuns.{Tells, LeadsTo, IsRun}
use Rattle.foyer_core_told.specs.ToldSteps.{AreAccesses}
use Rattle.foyer_core_told.specs.ToldLoads.{AreOthers}
use Rattle.foyer_core_told.specs.ToldRights.{core_right, disk_right, writes_right, clean_right, scan_right, rights_count, ticket_right, step_takes, takes, RightsAreThere, RightsExclude, RightsKeep}
use Rattle.foyer_core_told.proofs.ToldStepLemmas.{leads_split}
use Rattle.foyer_core_told.proofs.ToldLoadLemmas.{run_reached}

pub same_self : (k : ℕ) → (k == k) ≡ true
same_self k = go (k == k) refl
  where
    go : (b : Bool) → (k == k) ≡ b → b ≡ true
    go true e = refl
    go false e = absurd (eqb-false k k e refl)

-- a number that is not taken is another
other_right : (n k : ℕ) → (k == n) ≡ false → n ≡ k → ⊥
other_right n k free same = true≢false (sym (same_self k) ∙ ap (λ (j : ℕ). k == j) (sym same) ∙ free)

or_first : (a b : Bool) → a || b ≡ false → a ≡ false
or_first true b e = e
or_first false b e = refl

or_second : (a b : Bool) → a || b ≡ false → b ≡ false
or_second true b e = absurd (true≢false e)
or_second false b e = e

module _ {K V P A : Type 0} (m : Meaning K V P) where
  -- a step that doesn't take a flusher's right isn't of its writes
  spares_writes : (step : Step K V P A) (answer : model_reply.Reply Content) (f : ℕ) → step_takes step (writes_right f) ≡ false → IsOfWrites (step_of m step) answer f → ⊥
  spares_writes (steps.FlushBlock g) (model_reply.Written b ws) f free same = other_right (writes_right g) (writes_right f) free (ap writes_right same)
  spares_writes (steps.FlushWrote g outcome) model_reply.Next f free same = other_right (writes_right g) (writes_right f) free (ap writes_right same)
  spares_writes (steps.FlushWrote g outcome) (model_reply.Committed n) f free same = other_right (writes_right g) (writes_right f) free (ap writes_right same)
  spares_writes (steps.FlushWrote g outcome) model_reply.Failed f free same = other_right (writes_right g) (writes_right f) free (ap writes_right same)
  spares_writes step answer f free is = is

  spares_scan : (step : Step K V P A) (b : ℕ) → step_takes step (scan_right b) ≡ false → IsOfScan (step_of m step) b → ⊥
  spares_scan (steps.ReclaimRead c outcome) b free same = other_right (scan_right c) (scan_right b) free (ap scan_right same)
  spares_scan step b free is = is

  spares_clean : (step : Step K V P A) (b : ℕ) → step_takes step (clean_right b) ≡ false → IsOfClean (step_of m step) b → ⊥
  spares_clean (steps.ReclaimCleaned c outcome) b free same = other_right (clean_right c) (clean_right b) free (ap clean_right same)
  spares_clean (steps.DestroyCleaned c outcome) b free same = other_right (clean_right c) (clean_right b) free (ap clean_right same)
  spares_clean step b free is = is

module _ {K V P A D : Type 0} where
  others : (n : ℕ) (es : List (Told K V P A D)) → IsUntouched takes (ticket_right n) es → AreOthers n es
  others n [] free = tt
  others n (told.Reads number outcome ∷ es) free =
      ((λ same. other_right (ticket_right number) (ticket_right n) (or_second _ _ free.0) (ap ticket_right same)), others n es free.1)
  others n (e ∷ es) free = (tt, others n es free.1)

  accesses : (es : List (Told K V P A D)) → IsUntouched takes core_right es → AreAccesses es
  accesses [] free = tt
  accesses (told.Opened core disk ∷ es) free = absurd (true≢false free.0)
  accesses (told.Steps step reply core ∷ es) free = absurd (true≢false free.0)
  accesses (e ∷ es) free = (refl, accesses es free.1)

  pub excluded : (es : List (Told K V P A D)) → RightsExclude es
  excluded es = record { others = λ n. others n es; accesses = accesses es }

  module _ (m : Meaning K V P) (s : Settings) (sound : AreValid s) (byte_at : D → ℕ → ℕ → ℕ) where
    spares_core : (w : World Content) (e : Told K V P A D) (d : Deed Content) → takes e core_right ≡ false → Tells m s sound byte_at w e d → Takes d OfCore → ⊥
    spares_core w (told.Steps step reply core) d free tells taken = true≢false free
    spares_core w e (deeds.Steps step answer new) free tells taken = tells
    spares_core w e d free tells taken = taken

    spares_disk : (w : World Content) (e : Told K V P A D) (d : Deed Content) → takes e disk_right ≡ false → Tells m s sound byte_at w e d → Takes d OfDisk → ⊥
    spares_disk w (told.Opened core disk) d free tells taken = tells
    spares_disk w (told.Steps step reply core) (deeds.Steps it answer new) free tells taken = taken
    spares_disk w (told.Steps step reply core) d free tells taken = tells
    spares_disk w e d free tells taken = true≢false free

    writes_spared : (w : World Content) (e : Told K V P A D) (d : Deed Content) (f : ℕ) → takes e (writes_right f) ≡ false → Tells m s sound byte_at w e d → Takes d (OfWrites f) → ⊥
    writes_spared w (told.Steps step reply core) (deeds.Steps it answer new) f free tells taken =
        spares_writes m step.value answer f (or_second _ _ free) (subst (λ x. IsOfWrites x answer f) tells.0 taken)
    writes_spared w (told.Writes g is_ok disk) (deeds.WritesAt h ok torn) f free tells taken =
        other_right (writes_right g) (writes_right f) (or_second _ _ free) (ap writes_right (sym tells.0 ∙ taken))
    writes_spared w e (deeds.Steps it answer new) f free tells taken = tells
    writes_spared w e (deeds.WritesAt h ok torn) f free tells taken = tells
    writes_spared w e d f free tells taken = taken

    scan_spared : (w : World Content) (e : Told K V P A D) (d : Deed Content) (b : ℕ) → takes e (scan_right b) ≡ false → Tells m s sound byte_at w e d → Takes d (OfScan b) → ⊥
    scan_spared w (told.Steps step reply core) (deeds.Steps it answer new) b free tells taken =
        spares_scan m step.value b (or_second _ _ free) (subst (λ x. IsOfScan x b) tells.0 taken)
    scan_spared w (told.Scans c outcome) (deeds.ScansAt x result) b free tells taken =
        other_right (scan_right c) (scan_right b) (or_second _ _ free) (ap scan_right (sym tells.0 ∙ taken))
    scan_spared w e (deeds.Steps it answer new) b free tells taken = tells
    scan_spared w e (deeds.ScansAt x result) b free tells taken = tells
    scan_spared w e d b free tells taken = taken

    clean_spared : (w : World Content) (e : Told K V P A D) (d : Deed Content) (b : ℕ) → takes e (clean_right b) ≡ false → Tells m s sound byte_at w e d → Takes d (OfClean b) → ⊥
    clean_spared w (told.Steps step reply core) (deeds.Steps it answer new) b free tells taken =
        spares_clean m step.value b (or_second _ _ free) (subst (λ x. IsOfClean x b) tells.0 taken)
    clean_spared w (told.Cleans c is_ok disk) (deeds.CleansAt x ok torn) b free tells taken =
        other_right (clean_right c) (clean_right b) (or_second _ _ free) (ap clean_right (sym tells.0 ∙ taken))
    clean_spared w e (deeds.Steps it answer new) b free tells taken = tells
    clean_spared w e (deeds.CleansAt x ok torn) b free tells taken = tells
    clean_spared w e d b free tells taken = taken

    load_spared : (w : World Content) (e : Told K V P A D) (d : Deed Content) (n : ℕ) → takes e (ticket_right n) ≡ false → Tells m s sound byte_at w e d → Takes d (OfLoad n) → ⊥
    load_spared w (told.Reads number outcome) (deeds.ReadsAt k result) n free tells taken =
        other_right (ticket_right number) (ticket_right n) (or_second _ _ free) (ap ticket_right (sym tells.0 ∙ taken))
    load_spared w e (deeds.ReadsAt k result) n free tells taken = tells
    load_spared w e d n free tells taken = taken

    kept_one : (w : World Content) (es : List (Told K V P A D)) (u : World Content) → IsReached (machine m s sound) (layout s) (IsEncoded m.is_key m.is_value) w → LeadsTo m s sound byte_at w es u → RightsKeep w es u
    kept_one w [] u reached is = record {
      core = λ free. ap (λ (x : World Content). x.core) is;
      history = λ free. ap (λ (x : World Content). x.history) is;
      disk = λ free. ap (λ (x : World Content). x.bytes) is;
      writes = λ f free. ap (λ (x : World Content). x.block_writes f) is;
      scans = λ b scan calm free h. subst (λ (x : World Content). x.scans b ≡ Some scan) (sym is) h;
      cleans = λ b free h. subst (λ (x : World Content). x.clean_states b ≡ CleanIssued) (sym is) h;
      cleaned = λ b ok free h. subst (λ (x : World Content). x.clean_states b ≡ CleanDone ok) (sym is) h;
      loads = λ n t promise state calm free h. subst (λ (x : World Content). HasLoad x n t promise state) (sym is) h;
    }
    kept_one w (e ∷ es) u reached run =
        let d = run.0 in
        let frame = frames (machine m s sound) w d in
        let stay = stays (machine m s sound) (layout s) (IsEncoded m.is_key m.is_value) (demands m.is_key m.is_value s sound) w d reached run.2 in
        let behind : RightsKeep (after_deed (machine m s sound) w d) es u =
        kept_one (after_deed (machine m s sound) w d) es u (reached_more (machine m s sound) (layout s) (IsEncoded m.is_key m.is_value) w (events_in d) reached run.2) run.3 in
        record {
          core = λ free. behind.core free.1 ∙ frame.core (spares_core w e d free.0 run.1);
          history = λ free. behind.history free.1 ∙ frame.history (spares_core w e d free.0 run.1);
          disk = λ free. behind.disk free.1 ∙ frame.disk (spares_disk w e d free.0 run.1);
          writes = λ f free. behind.writes f free.1 ∙ frame.writes f (writes_spared w e d f free.0 run.1);
          scans = λ b scan calm free h. behind.scans b scan calm free.1 (stay.scans b scan calm (scan_spared w e d b free.0 run.1) h);
          cleans = λ b free h. behind.cleans b free.1 (frame.cleans b (clean_spared w e d b free.0 run.1) h);
          cleaned = λ b ok free h. behind.cleaned b ok free.1 (stay.cleaned b ok (clean_spared w e d b free.0 run.1) h);
          loads = λ n t promise state calm free h. behind.loads n t promise state calm free.1 (frame.loads n t promise state calm (load_spared w e d n free.0 run.1) h);
        }

    pub kept_by_rights : (seen since : List (Told K V P A D)) (u : World Content) → (seen ≡ [] → ⊥) → IsRun m s sound byte_at (seen ++ since) u
        → (v : World Content) × IsRun m s sound byte_at seen v × RightsKeep v since u
    kept_by_rights [] since u some run = absurd (some refl)
    kept_by_rights (x ∷ seen) since u some run =
        let parts = leads_split m s sound byte_at run.0 seen since u run.2 in
        let before : IsRun m s sound byte_at (x ∷ seen) parts.0 = (run.0, run.1, parts.1) in
        (parts.0, before, kept_one parts.0 since u (run_reached m s sound byte_at (x ∷ seen) parts.0 before) parts.2)

-- one number more, at the end
times_more : (n k t : ℕ) → t ≤ 1 → (n ≤ k → t ≡ 0) → (b : Bool) → (n == k) ≡ b → (t + (one b + 0) ≤ 1) × (suc n ≤ k → t + (one b + 0) ≡ 0)
times_more n k t le none true e =
    let same : n ≡ k = eqb-true n k e in let free : t ≡ 0 = none (omega arith) in (omega arith, λ far. absurd (omega arith))
times_more n k t le none false e = (omega arith, λ far. let free : t ≡ 0 = none (omega arith) in omega arith)

-- the numbers below one are rights, each once
pub are_rights : (n : ℕ) → AreRights n (ids n)
are_rights zero k = (omega arith, λ far. refl)
are_rights (suc n) k =
    let h = are_rights n k in
    let more = times_more n k (times k (ids n)) h.0 h.1 (n == k) refl in
    let all : times k (ids n ++ n ∷ []) ≡ times k (ids n) + (one (n == k) + 0) = times_append k (ids n) (n ∷ []) in
    (subst (λ t. t ≤ 1) (sym all) more.0, λ far. all ∙ more.1 far)

pub rights_there : RightsAreThere
unfolding rights_count
rights_there = record {
  core = omega arith;
  disk = omega arith;
  writes = λ f below. omega arith;
  cleans = λ b below. omega arith;
  scans = λ b below. omega arith;
  no_clean = λ f b same. omega arith;
  no_scan = λ f b same. omega arith;
  no_clean_scan = λ b c same. omega arith;
}

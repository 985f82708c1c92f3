-- A step that is refused may be made again: what it brings has still come.
use Rattle.std.proofs.Common.{◌≡◌, ◌⊎◌, inl, inr, ℕ, zero, suc, ◌<◌, if◌then◌else◌, Bool, true, true≢false, List, [], ◌∷◌, ◌++◌, Some, Result, Ok, Err, refl, sym, ap, ◌∙◌, subst, is_ok}
use Rattle.std.proofs.lemmas.Bool.{eqb-true}
use Rattle.std.specs.declared.vec.Vec.{Vec}
use Rattle.foyer_device_page.specs.declared.error.Error.{Error}
use Rattle.foyer_device_page.specs.declared.error.ErrorKind.{ErrorKind}
use Rattle.foyer_device_page.specs.declared.error.ErrorKind.TheVariants as kind
use Rattle.foyer_format_layout.specs.BlockBytes.{Write}
use Rattle.foyer_core_chronicle.specs.Rights.{times}
use Rattle.foyer_core_chronicle.specs.declared.View.{View}
use Rattle.foyer_core_access.specs.declared.reclaims.Part.{Part}
use Rattle.foyer_core_model.specs.Access.{BlockWrites, Issued, CleanDone, ReadIssued, ReadState, Scan, result_of}
use Rattle.foyer_core_model.specs.Reply as model_reply
use Rattle.foyer_core_model.specs.World.{World, IsFed, IsBrought, is_none}
use Rattle.foyer_core_rights.specs.Deeds as deeds
use Rattle.foyer_core_rights.specs.Deeds.{Deed, after_deed}
use Rattle.foyer_core_rights.specs.Frames.{IsSettled}
use Rattle.foyer_core_laws.specs.Content.{Content, Meaning}
use Rattle.foyer_core_laws.specs.CoreRules.{layout, machine, IsEncoded}
use Rattle.foyer_core_laws.specs.Sizes.{AreValid}
use Rattle.foyer_core_laws.specs.Settings.{Settings}
use Rattle.foyer_core_steps.specs.Asked.{step_of, came_of, went_well, fault_of}
use Rattle.foyer_core_steps.specs.Replied.{IsReply}
use Rattle.foyer_core_steps.specs.declared.reply.Reply.{Reply}
use Rattle.foyer_core_steps.specs.declared.reply.Reply.TheVariants as replies
use Rattle.foyer_core_steps.specs.declared.step.Step.{Step}
use Rattle.foyer_core_steps.specs.declared.step.Step.TheVariants as steps
use Rattle.foyer_core_told.specs.declared.event.Told.{Told}
use Rattle.foyer_core_told.specs.declared.event.Told.TheVariants as told
use Rattle.foyer_core_told.specs.ToldRuns.{Tells, IsRun}
use Rattle.foyer_core_told.specs.ToldRights.{clean_right, disk_right, scan_right, writes_right, step_takes}
use Rattle.foyer_core_told.specs.Telling.{BringsTrue, IsStep, HasStepped}
use Rattle.foyer_core_told.proofs.ToldStepLemmas.{run_split}
use Rattle.foyer_core_told.proofs.ToldRightLemmas.{kept_by_rights, same_self}
use Rattle.foyer_core_told.proofs.TellingLemmas.{not_empty}
use Rattle.foyer_io_told.specs.ToldAccess.{HasScan, HasWrites}
use Rattle.foyer_io_told.proofs.ToldAccessLemmas.{known_on}
use Rattle.foyer_core_threads.specs.Going.{GoesOn, IsMadeAgain, IsRefused, IsRepeatable}
use Rattle.foyer_core_threads.proofs.GoingLemmas.{same_on, on_on, stepped_on}
use Rattle.foyer_core_threads.proofs.HistoryJoins.{cleans_above, scans_above, writes_above}
use Rattle.foyer_core_threads.proofs.LoadLemmas.{opens_no_step}
use Rattle.foyer_core_threads.proofs.DoneLemmas.{next_is_well}
use Rattle.foyer_core_threads.proofs.ReclaimLemmas.{scanned_on}
use Rattle.foyer_core_threads.proofs.WriteLemmas.{write_next}

-- what a step takes is no right of the core or of the disk
pub takes_above : {K V P A : Type 0} (step : Step K V P A) (k : ℕ) → step_takes step k ≡ true → disk_right < k
takes_above (steps.FlushBlock f) k is = subst (λ j. disk_right < j) (sym (eqb-true k (writes_right f) is)) (writes_above f)
takes_above (steps.FlushWrote f outcome) k is = subst (λ j. disk_right < j) (sym (eqb-true k (writes_right f) is)) (writes_above f)
takes_above (steps.ReclaimRead b outcome) k is = subst (λ j. disk_right < j) (sym (eqb-true k (scan_right b) is)) (scans_above b)
takes_above (steps.ReclaimCleaned b outcome) k is = subst (λ j. disk_right < j) (sym (eqb-true k (clean_right b) is)) (cleans_above b)
takes_above (steps.DestroyCleaned b outcome) k is = subst (λ j. disk_right < j) (sym (eqb-true k (clean_right b) is)) (cleans_above b)
takes_above step k is = absurd (true≢false (sym is))

-- a read that may be brought isn't under way
settled : {A : Type 0} (outcome : Result (Vec ℕ A) Error) (state : ReadState) → IsBrought state (came_of outcome) → IsSettled state
settled (Ok bytes) state is = subst IsSettled (sym is) tt
settled (Err e) state is = subst IsSettled (sym is.1) tt

module _ {K V P A D : Type 0} (m : Meaning K V P) (byte_at : D → ℕ → ℕ → ℕ) where
  -- what a step brings has come in another world too, if its access is the same there
  fed_by : (s : Settings) (sound : AreValid s) (w u : World Content) (step : Step K V P A) → IsRepeatable step
      → ((f : ℕ) → step_takes step (writes_right f) ≡ true → u.block_writes f ≡ w.block_writes f)
      → ((b : ℕ) (scan : Scan) → step_takes step (scan_right b) ≡ true → IsSettled scan.read_state → w.scans b ≡ Some scan → u.scans b ≡ Some scan)
      → ((b : ℕ) (ok : Bool) → step_takes step (clean_right b) ≡ true → w.clean_states b ≡ CleanDone ok → u.clean_states b ≡ CleanDone ok)
      → IsFed (machine m s sound) (layout s) (IsEncoded m.is_key m.is_value) w (step_of m step)
      → IsFed (machine m s sound) (layout s) (IsEncoded m.is_key m.is_value) u (step_of m step)
  fed_by s sound w u (steps.Enqueue piece size) again writes scans cleans fed = fed
  fed_by s sound w u (steps.Delete hash) again writes scans cleans fed = fed
  fed_by s sound w u (steps.LoadEnd ticket outcome) again writes scans cleans fed = absurd again
  fed_by s sound w u (steps.FlushWrote f outcome) again writes scans cleans fed = ap result_of (writes f (same_self (writes_right f))) ∙ fed
  fed_by s sound w u (steps.ReclaimRead b outcome) again writes scans cleans fed =
      (fed.0, scans b fed.0 (same_self (scan_right b)) (settled outcome fed.0.read_state fed.2) fed.1, fed.2)
  fed_by s sound w u (steps.ReclaimCleaned b outcome) again writes scans cleans fed = cleans b (went_well outcome) (same_self (clean_right b)) fed
  fed_by s sound w u (steps.DestroyCleaned b outcome) again writes scans cleans fed = cleans b (is_none (fault_of outcome)) (same_self (clean_right b)) fed
  fed_by s sound w u step again writes scans cleans fed = tt

  -- a step that is refused changes no access
  refused_deed : (s : Settings) (sound : AreValid s) (w : World Content) (step back : Step K V P A) (why : ErrorKind) (e : Told K V P A D) (d : Deed Content)
      → IsStep step (replies.Refused why back) e → Tells m s sound byte_at w e d
      → ((after_deed (machine m s sound) w d).block_writes ≡ w.block_writes) × ((after_deed (machine m s sound) w d).scans ≡ w.scans)
      × ((after_deed (machine m s sound) w d).clean_states ≡ w.clean_states)
  refused_deed s sound w step back why (told.Steps made gave core) (deeds.Steps it answer new) is tells =
      let refused : IsReply m (replies.Refused why back) answer = subst (λ r. IsReply m r answer) is.1 tells.1 in
      subst (λ (x : model_reply.Reply Content). ((after_deed (machine m s sound) w (deeds.Steps it x new)).block_writes ≡ w.block_writes)
      × ((after_deed (machine m s sound) w (deeds.Steps it x new)).scans ≡ w.scans) × ((after_deed (machine m s sound) w (deeds.Steps it x new)).clean_states ≡ w.clean_states))
      (sym refused.2) (refl, refl, refl)
  refused_deed s sound w step back why (told.Steps made gave core) d is tells = absurd tells
  refused_deed s sound w step back why e d is tells = absurd is

  -- so what it brings has still come
  pub refused_brings : (mine after : View (Told K V P A D)) (step back : Step K V P A) (why : ErrorKind) (n : ℕ) → HasStepped m byte_at mine after step (replies.Refused why back) n
      → IsRepeatable step → ((k : ℕ) → step_takes step k ≡ true → 0 < times k after.has) → BringsTrue m byte_at mine step → BringsTrue m byte_at after step
  refused_brings mine after step back why n stepped again rights brings s sound log u kept run =
      let g = stepped.gone in
      let some : after.seen ≡ [] → ⊥ = (λ none. not_empty g.log g.event (sym g.seen ∙ none)) in
      let later = kept_by_rights m s sound byte_at after.seen kept.0 u some (subst (λ l. IsRun m s sound byte_at l u) kept.1 run) in
      let told_run : IsRun m s sound byte_at (g.log ++ g.event ∷ []) later.0 = subst (λ l. IsRun m s sound byte_at l later.0) g.seen later.1 in
      let parts = run_split m s sound byte_at g.log g.event [] later.0 (λ w. opens_no_step m byte_at s sound step (replies.Refused why back) g.event w g.is) told_run in
      let deed = refused_deed s sound parts.0 step back why g.event parts.2.0 g.is parts.2.1 in
      let fed = fed_by s sound parts.0 later.0 step again
      (λ f takes. ap (λ (x : World Content). x.block_writes f) parts.2.3 ∙ ap (λ (h : ℕ → BlockWrites). h f) deed.0)
      (λ b scan takes still at. ap (λ (x : World Content). x.scans b) parts.2.3 ∙ ap (λ h. h b) deed.1 ∙ at)
      (λ b ok takes at. ap (λ (x : World Content). x.clean_states b) parts.2.3 ∙ ap (λ h. h b) deed.2 ∙ at)
      (brings s sound g.log parts.0 g.kept parts.1) in
      fed_by s sound later.0 u step again
      (λ f takes. later.2.writes f (kept.2 (writes_right f) (rights (writes_right f) takes)))
      (λ b scan takes still at. later.2.scans b scan still (kept.2 (scan_right b) (rights (scan_right b) takes)) at)
      (λ b ok takes at. later.2.cleaned b ok (kept.2 (clean_right b) (rights (clean_right b) takes)) at)
      fed

  -- and writes that were issued are so
  refused_writes : (mine after : View (Told K V P A D)) (step back : Step K V P A) (why : ErrorKind) (n f block : ℕ) (results : List Bool) (left : List Write)
      → HasStepped m byte_at mine after step (replies.Refused why back) n → 0 < times (writes_right f) mine.has
      → HasWrites m byte_at mine.seen f block results left → HasWrites m byte_at after.seen f block results left
  refused_writes mine after step back why n f block results left stepped right knows =
      let g = stepped.gone in
      let there = known_on m byte_at mine.seen mine.has (λ s w. w.block_writes f ≡ Issued block results left) g.log knows g.kept (λ s w u keeps h. keeps.writes f (g.kept.2 (writes_right f) right) ∙ h) in
      subst (λ l. HasWrites m byte_at l f block results left) (sym g.seen) (
        not_empty g.log g.event,
        λ s sound u run.
            let parts = run_split m s sound byte_at g.log g.event [] u (λ w. opens_no_step m byte_at s sound step (replies.Refused why back) g.event w g.is) run in
            ap (λ (x : World Content). x.block_writes f) parts.2.3
            ∙ ap (λ (h : ℕ → BlockWrites). h f) (refused_deed s sound parts.0 step back why g.event parts.2.0 g.is parts.2.1).0
            ∙ there.1 s sound parts.0 parts.1,
      )

  -- the same however often it is refused
  pub tried_on : (count : ℕ) (step : Step K V P A) (mine tried : View (Told K V P A D)) → IsRefused m byte_at count step mine tried → GoesOn m byte_at mine tried
  tried_on zero step mine tried same = same_on m byte_at mine tried same
  tried_on (suc count) step mine tried (before, refused, (n, stepped)) =
      on_on m byte_at mine before tried (tried_on count step mine before refused) (stepped_on m byte_at before tried step (replies.Refused kind.Memory step) n stepped)

  pub tried_writes : (count : ℕ) (step : Step K V P A) (mine tried : View (Told K V P A D)) (f block : ℕ) (results : List Bool) (left : List Write) → IsRefused m byte_at count step mine tried
      → 0 < times (writes_right f) mine.has → HasWrites m byte_at mine.seen f block results left → HasWrites m byte_at tried.seen f block results left
  tried_writes zero step mine tried f block results left same right knows = subst (λ (v : View (Told K V P A D)). HasWrites m byte_at v.seen f block results left) (sym same) knows
  tried_writes (suc count) step mine tried f block results left (before, refused, (n, stepped)) right knows =
      refused_writes before tried step step kind.Memory n f block results left stepped ((tried_on count step mine before refused).rights (writes_right f) (writes_above f) right)
      (tried_writes count step mine before f block results left refused right knows)

  -- The writes behind one that was reported with Next, which went well.
  pub written_next : (mine after : View (Told K V P A D)) (f block : ℕ) (outcome : Result Unit Error) (left : List Write) (answer : Reply K V P A) → 0 < times (writes_right f) mine.has
      → HasWrites m byte_at mine.seen f block (is_ok outcome ∷ []) (if is_ok outcome then left else []) → IsMadeAgain m byte_at mine after (steps.FlushWrote f outcome) answer → answer ≡ replies.Next
      → HasWrites m byte_at after.seen f block [] left
  written_next mine after f block outcome left answer right knows made is =
      let step : Step K V P A = steps.FlushWrote f outcome in
      write_next m byte_at made.tried after f block made.number outcome left
      ((tried_on made.times step mine made.tried made.refused).rights (writes_right f) (writes_above f) right)
      (tried_writes made.times step mine made.tried f block (is_ok outcome ∷ []) (if is_ok outcome then left else []) made.refused right knows)
      (subst (λ r. HasStepped m byte_at made.tried after step r made.number) is made.made)

  pub written_well : (mine after : View (Told K V P A D)) (f : ℕ) (outcome : Result Unit Error) (answer : Reply K V P A) → IsMadeAgain m byte_at mine after (steps.FlushWrote f outcome) answer → answer ≡ replies.Next
      → is_ok outcome ≡ true
  written_well mine after f outcome answer made is =
      next_is_well m byte_at made.tried after f made.number outcome (subst (λ r. HasStepped m byte_at made.tried after (steps.FlushWrote f outcome) r made.number) is made.made)

  -- the part that the report of a read asks for
  pub scanned_next : (mine after : View (Told K V P A D)) (b d : ℕ) (part : Part) (outcome : Result (Vec ℕ A) Error) (verdicts : _) (answer : Reply K V P A)
      → IsMadeAgain m byte_at mine after (steps.ReclaimRead b outcome) answer → answer ≡ replies.Scan d part.offset part.len verdicts → HasScan m byte_at after.seen b part ReadIssued
  scanned_next mine after b d part outcome verdicts answer made is =
      scanned_on m byte_at made.tried after b d made.number part outcome verdicts (subst (λ r. HasStepped m byte_at made.tried after (steps.ReclaimRead b outcome) r made.number) is made.made)

  -- A step that is refused once more, or for whose note no memory is found, may be made again.
  pub refused_more : {X Y : Type 0} (mine from after : View (Told K V P A D)) (step given back : Step K V P A) (answer : Reply K V P A) (count n : ℕ) (Same : Type 0) → (Same → after ≡ from)
      → HasStepped m byte_at from after given answer n ⊎ (X × Y × Same) → answer ≡ replies.Refused kind.Memory back → given ≡ step → back ≡ step
      → IsRefused m byte_at count step mine from → IsRepeatable step → ((k : ℕ) → step_takes step k ≡ true → 0 < times k from.has) → BringsTrue m byte_at from step
      → ((more : ℕ) × IsRefused m byte_at more step mine after) × BringsTrue m byte_at after step × ((k : ℕ) → step_takes step k ≡ true → 0 < times k after.has)
  refused_more mine from after step given back answer count n Same seen (inl stepped) is is_step is_back refused again rights brings =
      let made : HasStepped m byte_at from after step (replies.Refused kind.Memory step) n =
      subst (λ (x : Step K V P A × Reply K V P A). HasStepped m byte_at from after x.0 x.1 n) (λ i. (is_step i, (is ∙ ap (replies.Refused kind.Memory) is_back) i)) stepped in
      let has : (k : ℕ) → step_takes step k ≡ true → 0 < times k after.has = (λ k takes. made.gone.rights k (takes_above step k takes) (rights k takes)) in
      ((suc count, (from, refused, (n, made))), refused_brings from after step step kind.Memory n made again has brings, has)
  refused_more mine from after step given back answer count n Same seen (inr none) is is_step is_back refused again rights brings =
      let same = sym (seen none.2) in (
        (count, subst (λ v. IsRefused m byte_at count step mine v) same refused),
        subst (λ v. BringsTrue m byte_at v step) same brings,
        λ k takes. subst (λ (v : View (Told K V P A D)). 0 < times k v.has) same (rights k takes),
      )

  -- One that isn't was made.
  pub made_last : {X Y : Type 0} (from after : View (Told K V P A D)) (step given : Step K V P A) (answer : Reply K V P A) (n : ℕ)
      → HasStepped m byte_at from after given answer n ⊎ (X × (answer ≡ replies.Refused kind.Memory given) × Y) → given ≡ step → ((back : Step K V P A) → answer ≡ replies.Refused kind.Memory back → ⊥)
      → HasStepped m byte_at from after step answer n
  made_last from after step given answer n (inl stepped) is other = subst (λ x. HasStepped m byte_at from after x answer n) is stepped
  made_last from after step given answer n (inr none) is other = absurd (other given none.1)

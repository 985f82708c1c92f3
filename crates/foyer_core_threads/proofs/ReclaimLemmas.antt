-- A reclaim's reads and its clean, in the history that its session has seen.
use Rattle.std.proofs.Common.{◌≡◌, ◌⊎◌, ℕ, ◌<◌, List, [], ◌∷◌, Some, Result, Ok, Err, refl, sym, ap, ◌∙◌, subst, is_ok}
use Rattle.std.specs.declared.vec.Vec.{Vec}
use Rattle.foyer_device_page.specs.declared.error.Error.{Error}
use Rattle.foyer_device_page.specs.declared.error.ErrorKind.TheVariants as kind
use Rattle.foyer_core_access.specs.declared.reclaims.Part.{Part}
use Rattle.foyer_core_chronicle.specs.Rights.{times}
use Rattle.foyer_core_chronicle.specs.declared.View.{View}
use Rattle.foyer_core_model.proofs.Basics.{put_same}
use Rattle.foyer_core_model.specs.Access.{CleanIssued, CleanDone, ReadIssued, ReadDone, Scan}
use Rattle.foyer_core_model.specs.Reply as model_reply
use Rattle.foyer_core_model.specs.Step as model_step
use Rattle.foyer_core_model.specs.World.{World, IsBrought}
use Rattle.foyer_core_rights.specs.Deeds as deeds
use Rattle.foyer_core_rights.specs.Deeds.{Deed, after_deed}
use Rattle.foyer_core_laws.specs.Content.{Content, Meaning}
use Rattle.foyer_core_laws.specs.CoreRules.{machine}
use Rattle.foyer_core_laws.specs.Sizes.{AreValid}
use Rattle.foyer_core_laws.specs.Settings.{Settings}
use Rattle.foyer_core_steps.specs.Asked.{step_of, came_of}
use Rattle.foyer_core_steps.specs.Reclaiming.{verdicts_of}
use Rattle.foyer_core_steps.specs.Replied.{IsReply}
use Rattle.foyer_core_steps.specs.declared.reply.Reply.{Reply}
use Rattle.foyer_core_steps.specs.declared.reply.Reply.TheVariants as replies
use Rattle.foyer_core_steps.specs.declared.state.Core.{Core}
use Rattle.foyer_core_steps.specs.declared.step.Step.{Step}
use Rattle.foyer_core_steps.specs.declared.step.Step.TheVariants as steps
use Rattle.foyer_core_told.specs.declared.event.Told.{Told}
use Rattle.foyer_core_told.specs.declared.event.Told.TheVariants as told
use Rattle.foyer_core_told.specs.ToldRuns.{Opens, Tells}
use Rattle.foyer_core_told.specs.ToldSteps.{IsOpeningOf}
use Rattle.foyer_core_told.specs.ToldRights.{clean_right, scan_right}
use Rattle.foyer_core_told.specs.Telling.{IsStep, BringsTrue, HasGoneOn, HasStepped}
use Rattle.foyer_core_told.proofs.ToldStepLemmas.{run_split}
use Rattle.foyer_core_told.proofs.TellingLemmas.{not_empty}
use Rattle.foyer_io_told.specs.ToldAccess.{HasClean, HasScan}
use Rattle.foyer_io_told.proofs.ToldAccessLemmas.{known_on}
use Rattle.foyer_core_threads.specs.Asking.{HasSizes}
use Rattle.foyer_core_threads.proofs.LoadLemmas.{opens_no_step, stepped_as}
use Rattle.foyer_core_threads.proofs.WriteLemmas.{well_is}

-- a scan that was done may be brought as it came
brought : {A : Type 0} (outcome : Result (Vec ℕ A) Error) → IsBrought (ReadDone (came_of outcome)) (came_of outcome)
brought (Ok bytes) = refl
brought (Err e) = (model_step.Fault, refl)

module _ {K V P A D : Type 0} (m : Meaning K V P) (byte_at : D → ℕ → ℕ → ℕ) where
  -- an opening is of its core's sizes
  sizes_at : (s : Settings) (sound : AreValid s) (e : Told K V P A D) (core : Core K V P A) (disk : D) (w : World Content) → IsOpeningOf core disk e → Opens m s sound byte_at e w → s ≡ core.settings
  sizes_at s sound (told.Opened opened over) core disk w is opens = sym opens.1.sizes ∙ ap (λ (c : Core K V P A). c.settings) is.0
  sizes_at s sound e core disk w is opens = absurd is

  pub sizes_seen : (log : List (Told K V P A D)) (e : Told K V P A D) (core : Core K V P A) (disk : D) → IsOpeningOf core disk e → log ≡ e ∷ [] → HasSizes m byte_at log core.settings
  sizes_seen log e core disk is one =
      subst (λ l. HasSizes m byte_at l core.settings) (sym one) (not_empty [] e, λ s sound u run. sizes_at s sound e core disk run.0 is run.1)

  -- and stays so, whatever is told then
  pub sizes_stay : (mine after : View (Told K V P A D)) (Is : Told K V P A D → Type 0) (sizes : Settings) → HasGoneOn m byte_at mine after Is
      → ((s : Settings) (sound : AreValid s) (e : Told K V P A D) (w : World Content) → Is e → Opens m s sound byte_at e w → ⊥) → HasSizes m byte_at mine.seen sizes → HasSizes m byte_at after.seen sizes
  sizes_stay mine after Is sizes gone none knows =
      let there = known_on m byte_at mine.seen mine.has (λ s w. s ≡ sizes) gone.log knows gone.kept (λ s w u keeps h. h) in
      subst (λ l. HasSizes m byte_at l sizes) (sym gone.seen) (
        not_empty gone.log gone.event,
        λ s sound u run. let parts = run_split m s sound byte_at gone.log gone.event [] u (λ w. none s sound gone.event w gone.is) run in there.1 s sound parts.0 parts.1,
      )

  pub sizes_on : (mine after : View (Told K V P A D)) (step : Step K V P A) (answer : Reply K V P A) (n : ℕ) (sizes : Settings) → HasStepped m byte_at mine after step answer n
      → HasSizes m byte_at mine.seen sizes → HasSizes m byte_at after.seen sizes
  sizes_on mine after step answer n sizes stepped knows =
      sizes_stay mine after (IsStep step answer) sizes stepped.gone (λ s sound e w is. opens_no_step m byte_at s sound step answer e w is) knows

  -- the first read of a reclaim
  picked_at : (s : Settings) (sound : AreValid s) (w : World Content) (b : ℕ) (answers probation : _) (e : Told K V P A D) (deed : Deed Content)
      → IsStep steps.ReclaimBegin (replies.Picked b answers probation) e → Tells m s sound byte_at w e deed
      → (after_deed (machine m s sound) w deed).scans b ≡ Some (record { offset = 0; len = s.blob_index_size; read_state = ReadIssued })
  picked_at s sound w b answers probation (told.Steps made gave core) (deeds.Steps it answer new) is tells =
      let step_is : it ≡ model_step.ReclaimBegin = tells.0 ∙ ap (step_of m) is.0 in
      let answer_is : answer ≡ model_reply.Picked b answers.items probation.items = subst (λ r. IsReply m r answer) is.1 tells.1 in
      subst (λ (x : model_step.Step Content × model_reply.Reply Content). (after_deed (machine m s sound) w (deeds.Steps x.0 x.1 new)).scans b ≡ Some (record { offset = 0; len = s.blob_index_size; read_state = ReadIssued }))
      (λ i. (sym step_is i, sym answer_is i))
      (put_same w.scans b (Some (record { offset = 0; len = s.blob_index_size; read_state = ReadIssued })))
  picked_at s sound w b answers probation (told.Steps made gave core) deed is tells = absurd tells
  picked_at s sound w b answers probation e deed is tells = absurd is

  picked_on : (mine after : View (Told K V P A D)) (b n : ℕ) (answers probation : _) (sizes : Settings) → HasStepped m byte_at mine after steps.ReclaimBegin (replies.Picked b answers probation) n
      → HasSizes m byte_at mine.seen sizes → HasScan m byte_at after.seen b (record { offset = 0; len = sizes.blob_index_size }) ReadIssued
  picked_on mine after b n answers probation sizes stepped knows =
      let g = stepped.gone in
      let there = known_on m byte_at mine.seen mine.has (λ s w. s ≡ sizes) g.log knows g.kept (λ s w u keeps h. h) in
      subst (λ l. HasScan m byte_at l b (record { offset = 0; len = sizes.blob_index_size }) ReadIssued) (sym g.seen) (
        not_empty g.log g.event,
        λ s sound u run.
            let parts = run_split m s sound byte_at g.log g.event [] u (λ w. opens_no_step m byte_at s sound steps.ReclaimBegin (replies.Picked b answers probation) g.event w g.is) run in
            ap (λ (x : World Content). x.scans b) parts.2.3 ∙ picked_at s sound parts.0 b answers probation g.event parts.2.0 g.is parts.2.1
            ∙ ap (λ (t : Settings). Some (record { offset = 0; len = t.blob_index_size; read_state = ReadIssued })) (there.1 s sound parts.0 parts.1),
      )

  pub is_picked : {X Y : Type 0} (mine after : View (Told K V P A D)) (b n : ℕ) (answers probation : _) (sizes : Settings) (answer : Reply K V P A)
      → HasStepped m byte_at mine after steps.ReclaimBegin answer n ⊎ (X × (answer ≡ replies.Refused kind.Memory steps.ReclaimBegin) × Y)
      → HasSizes m byte_at mine.seen sizes → answer ≡ replies.Picked b answers probation → HasScan m byte_at after.seen b (record { offset = 0; len = sizes.blob_index_size }) ReadIssued
  is_picked mine after b n answers probation sizes answer made knows is =
      picked_on mine after b n answers probation sizes (stepped_as m byte_at mine after steps.ReclaimBegin answer (replies.Picked b answers probation) n made is (λ back clash. let e : ◌≡◌ {A = Reply K V P A} (replies.Picked b answers probation) (replies.Refused kind.Memory back) = clash in cc)) knows

  -- a clean that was issued
  forgot_at : (s : Settings) (sound : AreValid s) (w : World Content) (b d : ℕ) (e : Told K V P A D) (deed : Deed Content)
      → IsStep (steps.ReclaimForget b) (replies.Clean d) e → Tells m s sound byte_at w e deed → (after_deed (machine m s sound) w deed).clean_states b ≡ CleanIssued
  forgot_at s sound w b d (told.Steps made gave core) (deeds.Steps it answer new) is tells =
      let step_is : it ≡ model_step.ReclaimForget b = tells.0 ∙ ap (step_of m) is.0 in
      let answer_is : answer ≡ model_reply.Cleans d = subst (λ r. IsReply m r answer) is.1 tells.1 in
      subst (λ (x : model_step.Step Content × model_reply.Reply Content). (after_deed (machine m s sound) w (deeds.Steps x.0 x.1 new)).clean_states b ≡ CleanIssued)
      (λ i. (sym step_is i, sym answer_is i))
      (put_same w.clean_states b CleanIssued)
  forgot_at s sound w b d (told.Steps made gave core) deed is tells = absurd tells
  forgot_at s sound w b d e deed is tells = absurd is

  forgotten : (mine after : View (Told K V P A D)) (b d n : ℕ) → HasStepped m byte_at mine after (steps.ReclaimForget b) (replies.Clean d) n → HasClean m byte_at after.seen b CleanIssued
  forgotten mine after b d n stepped =
      let g = stepped.gone in
      subst (λ l. HasClean m byte_at l b CleanIssued) (sym g.seen) (
        not_empty g.log g.event,
        λ s sound u run.
            let parts = run_split m s sound byte_at g.log g.event [] u (λ w. opens_no_step m byte_at s sound (steps.ReclaimForget b) (replies.Clean d) g.event w g.is) run in
            ap (λ (x : World Content). x.clean_states b) parts.2.3 ∙ forgot_at s sound parts.0 b d g.event parts.2.0 g.is parts.2.1,
      )

  pub is_to_clean : {X Y : Type 0} (mine after : View (Told K V P A D)) (b d n : ℕ) (answer : Reply K V P A)
      → HasStepped m byte_at mine after (steps.ReclaimForget b) answer n ⊎ (X × (answer ≡ replies.Refused kind.Memory (steps.ReclaimForget b)) × Y) → answer ≡ replies.Clean d
      → HasClean m byte_at after.seen b CleanIssued
  is_to_clean mine after b d n answer made is =
      forgotten mine after b d n (stepped_as m byte_at mine after (steps.ReclaimForget b) answer (replies.Clean d) n made is (λ back clash. let e : ◌≡◌ {A = Reply K V P A} (replies.Clean d) (replies.Refused kind.Memory back) = clash in cc))

  -- a clean that was done may be reported
  pub clean_brings : (mine : View (Told K V P A D)) (b : ℕ) (outcome : Result Unit Error) → 0 < times (clean_right b) mine.has → HasClean m byte_at mine.seen b (CleanDone (is_ok outcome))
      → BringsTrue m byte_at mine (steps.ReclaimCleaned b outcome)
  clean_brings mine b outcome right knows s sound log u kept run =
      let there = known_on m byte_at mine.seen mine.has (λ s w. w.clean_states b ≡ CleanDone (is_ok outcome)) log knows kept (λ s w u keeps h. keeps.cleaned b (is_ok outcome) (kept.2 (clean_right b) right) h) in
      there.1 s sound u run ∙ ap CleanDone (sym (well_is outcome))

  -- a read that was done may be brought
  pub scan_brings : (mine : View (Told K V P A D)) (b : ℕ) (part : Part) (outcome : Result (Vec ℕ A) Error) → 0 < times (scan_right b) mine.has → HasScan m byte_at mine.seen b part (ReadDone (came_of outcome))
      → BringsTrue m byte_at mine (steps.ReclaimRead b outcome)
  scan_brings mine b part outcome right knows s sound log u kept run =
      let done : Scan = record { offset = part.offset; len = part.len; read_state = ReadDone (came_of outcome) } in
      let there = known_on m byte_at mine.seen mine.has (λ s w. w.scans b ≡ Some done) log knows kept (λ s w u keeps h. keeps.scans b done tt (kept.2 (scan_right b) right) h) in
      (done, there.1 s sound u run, brought outcome)

  -- a read that the reply asks for
  scan_at : (s : Settings) (sound : AreValid s) (w : World Content) (b d o len : ℕ) (outcome : Result (Vec ℕ A) Error) (verdicts : _) (e : Told K V P A D) (deed : Deed Content)
      → IsStep (steps.ReclaimRead b outcome) (replies.Scan d o len verdicts) e → Tells m s sound byte_at w e deed
      → (after_deed (machine m s sound) w deed).scans b ≡ Some (record { offset = o; len = len; read_state = ReadIssued })
  scan_at s sound w b d o len outcome verdicts (told.Steps made gave core) (deeds.Steps it answer new) is tells =
      let step_is : it ≡ model_step.ReclaimRead b (came_of outcome) = tells.0 ∙ ap (step_of m) is.0 in
      let answer_is : answer ≡ model_reply.Scans d o len (verdicts_of verdicts) = subst (λ r. IsReply m r answer) is.1 tells.1 in
      subst (λ (x : model_step.Step Content × model_reply.Reply Content). (after_deed (machine m s sound) w (deeds.Steps x.0 x.1 new)).scans b ≡ Some (record { offset = o; len = len; read_state = ReadIssued }))
      (λ i. (sym step_is i, sym answer_is i))
      (put_same w.scans b (Some (record { offset = o; len = len; read_state = ReadIssued })))
  scan_at s sound w b d o len outcome verdicts (told.Steps made gave core) deed is tells = absurd tells
  scan_at s sound w b d o len outcome verdicts e deed is tells = absurd is

  pub scanned_on : (mine after : View (Told K V P A D)) (b d n : ℕ) (part : Part) (outcome : Result (Vec ℕ A) Error) (verdicts : _)
      → HasStepped m byte_at mine after (steps.ReclaimRead b outcome) (replies.Scan d part.offset part.len verdicts) n → HasScan m byte_at after.seen b part ReadIssued
  scanned_on mine after b d n part outcome verdicts stepped =
      let g = stepped.gone in
      subst (λ l. HasScan m byte_at l b part ReadIssued) (sym g.seen) (
        not_empty g.log g.event,
        λ s sound u run.
            let parts = run_split m s sound byte_at g.log g.event [] u (λ w. opens_no_step m byte_at s sound (steps.ReclaimRead b outcome) (replies.Scan d part.offset part.len verdicts) g.event w g.is) run in
            ap (λ (x : World Content). x.scans b) parts.2.3 ∙ scan_at s sound parts.0 b d part.offset part.len outcome verdicts g.event parts.2.0 g.is parts.2.1,
      )

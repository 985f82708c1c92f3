-- The writes of a flusher, in the history that its session has seen.
use Rattle.std.proofs.Common.{◌≡◌, ◌≢◌, ◌⊎◌, inl, inr, ℕ, ◌+◌, ◌<◌, if◌then◌else◌, Bool, true, false, List, [], ◌∷◌, map, drop, suc, Option, Some, None, Result, Ok, Err, refl, sym, ap, ◌∙◌, subst, is_ok, arith}
use Rattle.std.specs.declared.vec.Vec.{Vec}
use Rattle.foyer_format_layout.specs.BlockBytes.{Write}
use Rattle.foyer_device_page.specs.declared.error.Error.{Error}
use Rattle.foyer_device_page.specs.declared.error.ErrorKind.TheVariants as kind
use Rattle.foyer_core_chronicle.specs.Rights.{times}
use Rattle.foyer_core_chronicle.specs.declared.View.{View}
use Rattle.foyer_core_flusher.specs.Issuing.{write_of}
use Rattle.foyer_core_model.proofs.Basics.{put_same}
use Rattle.foyer_core_model.specs.Access.{Issued, writes_reported, result_of}
use Rattle.foyer_core_model.specs.Follows.{Follows}
use Rattle.foyer_core_model.specs.Flush.{Wrote}
use Rattle.foyer_core_model.specs.Reply as model_reply
use Rattle.foyer_core_model.specs.State.{Batch, State}
use Rattle.foyer_core_model.specs.Step as model_step
use Rattle.foyer_core_model.specs.World.{World, MayAllHappen}
use Rattle.foyer_core_rights.specs.Deeds as deeds
use Rattle.foyer_core_rights.specs.Deeds.{Deed, events_in, after_deed}
use Rattle.foyer_core_laws.specs.Content.{Content, Meaning}
use Rattle.foyer_core_laws.specs.CoreRules.{layout, machine, IsEncoded}
use Rattle.foyer_core_laws.specs.Sizes.{AreValid}
use Rattle.foyer_core_laws.specs.Settings.{Settings}
use Rattle.foyer_core_steps.specs.Asked.{step_of, went_well}
use Rattle.foyer_core_steps.specs.Replied.{IsReply}
use Rattle.foyer_core_steps.specs.declared.reply.Reply.{Reply}
use Rattle.foyer_core_steps.specs.declared.reply.Reply.TheVariants as replies
use Rattle.foyer_core_steps.specs.declared.reply.Write.{Write as CoreWrite}
use Rattle.foyer_core_steps.specs.declared.step.Step.TheVariants as steps
use Rattle.foyer_core_told.specs.declared.event.Told.{Told}
use Rattle.foyer_core_told.specs.declared.event.Told.TheVariants as told
use Rattle.foyer_core_told.specs.ToldRuns.{Tells}
use Rattle.foyer_core_told.specs.ToldRights.{writes_right}
use Rattle.foyer_core_told.specs.Telling.{IsStep, BringsTrue, HasStepped}
use Rattle.foyer_core_told.proofs.ToldStepLemmas.{run_split}
use Rattle.foyer_core_told.proofs.TellingLemmas.{not_empty}
use Rattle.foyer_io_told.specs.ToldAccess.{HasWrites}
use Rattle.foyer_io_told.proofs.ToldAccessLemmas.{known_on}
use Rattle.std.proofs.Math.Seq.{drop-cons}
use Rattle.std.proofs.lemmas.Option.{slice_get_within, get_or_from_slice_get}
use Rattle.std.specs.List.{slice_get}
use Rattle.foyer_core_threads.specs.Asking.{AreToWrite}
use Rattle.foyer_core_threads.specs.Done.{HasWrote, HasWroteAll}
use Rattle.foyer_core_threads.proofs.LoadLemmas.{opens_no_step, stepped_as}

pub well_is : {X : Type 0} (outcome : Result X Error) → went_well outcome ≡ is_ok outcome
well_is (Ok x) = refl
well_is (Err e) = refl

module _ {K V P : Type 0} (m : Meaning K V P) where
  pub next_went_well : (s : Settings) (sound : AreValid s) (old new : State Content) (f : ℕ) (ok : Bool) → Follows (machine m s sound) (layout s) old (model_step.FlushWrote f ok) model_reply.Next new → ok ≡ true
  next_went_well s sound old new f ok (few, turn, (made, wrote, is)) = go ok (old.flushers f).batch wrote
    where
      go : (b : Bool) (batch : Option (Batch Content)) → Wrote (machine m s sound) old f b batch model_reply.Next made → b ≡ true
      go true batch wrote = refl
      go false (Some batch) wrote = absurd wrote
      go false None wrote = absurd wrote

module _ {K V P A D : Type 0} (m : Meaning K V P) (byte_at : D → ℕ → ℕ → ℕ) where
  -- writes that were issued
  issued_at : (s : Settings) (sound : AreValid s) (w : World Content) (f block : ℕ) (writes : Vec (CoreWrite A) A) (first : Write) (left : List Write) (e : Told K V P A D) (d : Deed Content)
      → IsStep (steps.FlushBlock f) (replies.Write block writes) e → map write_of writes.items ≡ first ∷ left → Tells m s sound byte_at w e d
      → (after_deed (machine m s sound) w d).block_writes f ≡ Issued block [] (first ∷ left)
  issued_at s sound w f block writes first left (told.Steps made gave core) (deeds.Steps it answer new) is same tells =
      let step_is : it ≡ model_step.FlushBlock f = tells.0 ∙ ap (step_of m) is.0 in
      let answer_is : answer ≡ model_reply.Written block (first ∷ left) = subst (λ r. IsReply m r answer) is.1 tells.1 ∙ ap (model_reply.Written block) same in
      subst (λ (x : model_step.Step Content × model_reply.Reply Content). (after_deed (machine m s sound) w (deeds.Steps x.0 x.1 new)).block_writes f ≡ Issued block [] (first ∷ left))
      (λ i. (sym step_is i, sym answer_is i))
      (put_same w.block_writes f (Issued block [] (first ∷ left)))
  issued_at s sound w f block writes first left (told.Steps made gave core) d is same tells = absurd tells
  issued_at s sound w f block writes first left e d is same tells = absurd is

  pub writes_issued : (mine after : View (Told K V P A D)) (f block n : ℕ) (writes : Vec (CoreWrite A) A) (first : Write) (left : List Write)
      → HasStepped m byte_at mine after (steps.FlushBlock f) (replies.Write block writes) n → map write_of writes.items ≡ first ∷ left
      → HasWrites m byte_at after.seen f block [] (first ∷ left)
  writes_issued mine after f block n writes first left stepped same =
      let g = stepped.gone in
      subst (λ l. HasWrites m byte_at l f block [] (first ∷ left)) (sym g.seen) (
        not_empty g.log g.event,
        λ s sound u run.
            let parts = run_split m s sound byte_at g.log g.event [] u (λ w. opens_no_step m byte_at s sound (steps.FlushBlock f) (replies.Write block writes) g.event w g.is) run in
            ap (λ (x : World Content). x.block_writes f) parts.2.3 ∙ issued_at s sound parts.0 f block writes first left g.event parts.2.0 g.is same parts.2.1,
      )

  -- a write that was done may be reported
  pub write_brings : (mine : View (Told K V P A D)) (f block : ℕ) (outcome : Result Unit Error) (left : List Write) → 0 < times (writes_right f) mine.has
      → HasWrites m byte_at mine.seen f block (is_ok outcome ∷ []) left → BringsTrue m byte_at mine (steps.FlushWrote f outcome)
  write_brings mine f block outcome left right knows s sound log u kept run =
      let there = known_on m byte_at mine.seen mine.has (λ s w. w.block_writes f ≡ Issued block (is_ok outcome ∷ []) left) log knows kept (λ s w u keeps h. keeps.writes f (kept.2 (writes_right f) right) ∙ h) in
      ap result_of (there.1 s sound u run) ∙ ap Some (sym (well_is outcome))

  reported_at : (s : Settings) (sound : AreValid s) (w : World Content) (f block : ℕ) (outcome : Result Unit Error) (left : List Write) (e : Told K V P A D) (d : Deed Content)
      → IsStep (steps.FlushWrote f outcome) replies.Next e → Tells m s sound byte_at w e d → MayAllHappen (machine m s sound) (layout s) (IsEncoded m.is_key m.is_value) w (events_in d)
      → w.block_writes f ≡ Issued block (is_ok outcome ∷ []) (if is_ok outcome then left else []) → (after_deed (machine m s sound) w d).block_writes f ≡ Issued block [] left
  reported_at s sound w f block outcome left (told.Steps made gave core) (deeds.Steps it answer new) is tells may there =
      let step_is : it ≡ model_step.FlushWrote f (went_well outcome) = tells.0 ∙ ap (step_of m) is.0 in
      let answer_is : answer ≡ model_reply.Next = subst (λ r. IsReply m r answer) is.1 tells.1 in
      let follows : Follows (machine m s sound) (layout s) w.core (model_step.FlushWrote f (went_well outcome)) model_reply.Next new =
      subst (λ (x : model_step.Step Content × model_reply.Reply Content). Follows (machine m s sound) (layout s) w.core x.0 x.1 new) (λ i. (step_is i, answer_is i)) may.0.1 in
      let well : is_ok outcome ≡ true = sym (well_is outcome) ∙ next_went_well m s sound w.core new f (went_well outcome) follows in
      subst (λ (x : model_step.Step Content × model_reply.Reply Content). (after_deed (machine m s sound) w (deeds.Steps x.0 x.1 new)).block_writes f ≡ Issued block [] left)
      (λ i. (sym step_is i, sym answer_is i))
      (put_same w.block_writes f (writes_reported (w.block_writes f)) ∙ ap writes_reported there ∙ ap (λ b. Issued block [] (if b then left else [])) well)
  reported_at s sound w f block outcome left (told.Steps made gave core) d is tells may there = absurd tells
  reported_at s sound w f block outcome left e d is tells may there = absurd is

  -- once it is, those behind it are to be done
  pub write_next : (mine after : View (Told K V P A D)) (f block n : ℕ) (outcome : Result Unit Error) (left : List Write) → 0 < times (writes_right f) mine.has
      → HasWrites m byte_at mine.seen f block (is_ok outcome ∷ []) (if is_ok outcome then left else []) → HasStepped m byte_at mine after (steps.FlushWrote f outcome) replies.Next n
      → HasWrites m byte_at after.seen f block [] left
  write_next mine after f block n outcome left right knows stepped =
      let g = stepped.gone in
      let there = known_on m byte_at mine.seen mine.has (λ s w. w.block_writes f ≡ Issued block (is_ok outcome ∷ []) (if is_ok outcome then left else [])) g.log knows g.kept
      (λ s w u keeps h. keeps.writes f (g.kept.2 (writes_right f) right) ∙ h) in
      subst (λ l. HasWrites m byte_at l f block [] left) (sym g.seen) (
        not_empty g.log g.event,
        λ s sound u run.
            let parts = run_split m s sound byte_at g.log g.event [] u (λ w. opens_no_step m byte_at s sound (steps.FlushWrote f outcome) replies.Next g.event w g.is) run in
            ap (λ (x : World Content). x.block_writes f) parts.2.3 ∙ reported_at s sound parts.0 f block outcome left g.event parts.2.0 g.is parts.2.1 parts.2.2 (there.1 s sound parts.0 parts.1),
      )

  -- writes that are to be done, if there are any
  pub any_to_write : (log : List (Told K V P A D)) (f block : ℕ) (left : List Write) → HasWrites m byte_at log f block [] left → AreToWrite m byte_at log f block left
  any_to_write log f block [] has = tt
  any_to_write log f block (w ∷ left) has = has

  pub are_issued : {X Y : Type 0} (mine after : View (Told K V P A D)) (f n : ℕ) (answer : Reply K V P A) (block : ℕ) (writes : Vec (CoreWrite A) A)
      → HasStepped m byte_at mine after (steps.FlushBlock f) answer n ⊎ (X × (answer ≡ replies.Refused kind.Memory (steps.FlushBlock f)) × Y) → answer ≡ replies.Write block writes
      → AreToWrite m byte_at after.seen f block (map write_of writes.items)
  are_issued mine after f n answer block writes told is = go (map write_of writes.items) refl
    where
      go : (ws : List Write) → map write_of writes.items ≡ ws → AreToWrite m byte_at after.seen f block ws
      go [] same = tt
      go (w ∷ ws) same = writes_issued mine after f block n writes w ws (stepped_as m byte_at mine after (steps.FlushBlock f) answer (replies.Write block writes) n told is (λ back clash. let e : replies.Write block writes ≡ replies.Refused kind.Memory back = clash in cc)) same

  -- the next one of a list
  pub next_of : (log : List (Told K V P A D)) (f block : ℕ) (items : List (CoreWrite A)) (i : ℕ) (x : CoreWrite A) → slice_get items i ≡ Some x → AreToWrite m byte_at log f block (map write_of (drop i items))
      → HasWrites m byte_at log f block [] (write_of x ∷ map write_of (drop (i + 1) items))
  next_of log f block items i x at to_write =
      let one : suc i ≡ i + 1 = omega arith in
      subst (λ k. HasWrites m byte_at log f block [] (write_of x ∷ map write_of (drop k items))) one (
      subst (λ l. AreToWrite m byte_at log f block (map write_of l)) (drop-cons items i x (slice_get_within items i x at) ∙ ap (λ y. y ∷ drop (suc i) items) (get_or_from_slice_get items i x x at)) to_write)

  -- the list from here on
  from_here : (items : List (CoreWrite A)) (i : ℕ) (x : CoreWrite A) → slice_get items i ≡ Some x → x ∷ drop (i + 1) items ≡ drop i items
  from_here items i x at =
      let one : suc i ≡ i + 1 = omega arith in
      sym (drop-cons items i x (slice_get_within items i x at) ∙ ap (λ y. y ∷ drop (suc i) items) (get_or_from_slice_get items i x x at) ∙ ap (λ k. x ∷ drop k items) one)

  pub wrote_next : (keeps : Bool) (mine next after : View (Told K V P A D)) (f block : ℕ) (items : List (CoreWrite A)) (i : ℕ) (x : CoreWrite A) (last : Option (Reply K V P A)) → slice_get items i ≡ Some x
      → HasWrote m byte_at keeps mine next f block (write_of x) replies.Next → HasWroteAll m byte_at keeps next after f block (map write_of (drop (i + 1) items)) last
      → HasWroteAll m byte_at keeps mine after f block (map write_of (drop i items)) last
  wrote_next keeps mine next after f block items i x last at wrote rest =
      subst (λ l. HasWroteAll m byte_at keeps mine after f block (map write_of l) last) (from_here items i x at) (inl (next, wrote, rest))

  pub wrote_last : (keeps : Bool) (mine after : View (Told K V P A D)) (f block : ℕ) (items : List (CoreWrite A)) (i : ℕ) (x : CoreWrite A) (answer : Reply K V P A) → slice_get items i ≡ Some x
      → HasWrote m byte_at keeps mine after f block (write_of x) answer → answer ≢ replies.Next → HasWroteAll m byte_at keeps mine after f block (map write_of (drop i items)) (Some answer)
  wrote_last keeps mine after f block items i x answer at wrote other =
      subst (λ l. HasWroteAll m byte_at keeps mine after f block (map write_of l) (Some answer)) (from_here items i x at) (inr (answer, wrote, other, refl))

  pub wrote_none : (keeps : Bool) (mine : View (Told K V P A D)) (f block : ℕ) (items : List (CoreWrite A)) (i : ℕ) → drop i items ≡ [] → HasWroteAll m byte_at keeps mine mine f block (map write_of (drop i items)) None
  wrote_none keeps mine f block items i over = subst (λ l. HasWroteAll m byte_at keeps mine mine f block (map write_of l) None) (sym over) (refl, refl)

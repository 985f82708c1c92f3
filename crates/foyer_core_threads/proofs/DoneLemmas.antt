-- What a call did, by what its steps and accesses say.
use Rattle.std.proofs.Common.{◌≡◌, ◌⊎◌, inl, inr, ℕ, suc, Bool, true, false, [], ◌∷◌, ◌++◌, Result, sym, ap, ◌∙◌, subst, is_ok}
use Rattle.foyer_device_page.specs.declared.error.Error.{Error}
use Rattle.foyer_device_page.specs.declared.error.ErrorKind.TheVariants as kind
use Rattle.foyer_core_chronicle.specs.declared.View.{View}
use Rattle.foyer_core_laws.specs.Content.{Content, Meaning}
use Rattle.foyer_core_laws.specs.CoreRules.{layout, machine, IsEncoded}
use Rattle.foyer_core_laws.specs.Sizes.{AreValid}
use Rattle.foyer_core_laws.specs.Settings.{Settings}
use Rattle.foyer_core_model.specs.Follows.{Follows}
use Rattle.foyer_core_model.specs.Reply as model_reply
use Rattle.foyer_core_model.specs.Step as model_step
use Rattle.foyer_core_model.specs.World.{World, MayAllHappen}
use Rattle.foyer_core_rights.specs.Deeds as deeds
use Rattle.foyer_core_rights.specs.Deeds.{Deed, events_in}
use Rattle.foyer_core_shared.specs.Briefed.{IsNotedIn}
use Rattle.foyer_core_shared.specs.Replies.{may_reply, is_look_up_reply}
use Rattle.foyer_core_shared.specs.Sessions.{SessionState}
use Rattle.foyer_core_steps.specs.Asked.{step_of, went_well}
use Rattle.foyer_core_steps.specs.Replied.{IsReply}
use Rattle.foyer_core_steps.specs.declared.reply.Reply.{Reply}
use Rattle.foyer_core_steps.specs.declared.reply.Reply.TheVariants as replies
use Rattle.foyer_core_steps.specs.declared.step.Step.{Step}
use Rattle.foyer_core_steps.specs.declared.step.Step.TheVariants as steps
use Rattle.foyer_core_steps.specs.declared.step.Ticket.{Ticket}
use Rattle.foyer_core_told.specs.declared.event.Told.{Told}
use Rattle.foyer_core_told.specs.declared.event.Told.TheVariants as told
use Rattle.foyer_core_told.specs.ToldRuns.{Tells, IsTold}
use Rattle.foyer_core_told.specs.ToldLoads.{is_read}
use Rattle.foyer_core_told.specs.ToldQueued.{IsAllWritten}
use Rattle.foyer_core_told.specs.Telling.{IsStep, HasStepped}
use Rattle.foyer_core_told.proofs.ToldStepLemmas.{run_split}
use Rattle.foyer_core_told.proofs.TellingLemmas.{not_empty}
use Rattle.std.specs.declared.vec.Vec.{Vec}
use Rattle.foyer_core_threads.specs.Asking.{IsLoadReply}
use Rattle.foyer_core_threads.specs.Done.{AreNoted, IsMade, IsNoted, HasLoaded, IsLoadNoted}
use Rattle.foyer_core_threads.proofs.LoadLemmas.{opens_no_step}
use Rattle.foyer_core_threads.proofs.WriteLemmas.{well_is, next_went_well}

module _ {K V P A D : Type 0} (m : Meaning K V P) (byte_at : D → ℕ → ℕ → ℕ) where
  -- a step whose number is left out
  pub made_of : (mine after : View (Told K V P A D)) (step : Step K V P A) (answer : Reply K V P A) (n : ℕ) (keeps : Bool) (Same : Type 0) → (Same → after ≡ mine)
      → HasStepped m byte_at mine after step answer n ⊎ ((keeps ≡ true) × (answer ≡ replies.Refused kind.Memory step) × Same) → IsMade m byte_at keeps mine after step answer
  made_of mine after step answer n keeps Same seen (inl stepped) = inl (n, stepped)
  made_of mine after step answer n keeps Same seen (inr none) = inr (none.0, none.1, seen none.2)

  -- a look-up of what is written, too
  pub looked_made : (mine after : View (Told K V P A D)) (step : Step K V P A) (answer : Reply K V P A) (n h : ℕ) (keeps : Bool) (Same : Type 0) → (Same → after ≡ mine)
      → ((stepped : HasStepped m byte_at mine after step answer n) × IsAllWritten m byte_at h stepped.gone.log) ⊎ ((keeps ≡ true) × (answer ≡ replies.Refused kind.Memory step) × Same)
      → IsMade m byte_at keeps mine after step answer
  looked_made mine after step answer n h keeps Same seen (inl looked) = inl (n, looked.0)
  looked_made mine after step answer n h keeps Same seen (inr none) = inr (none.0, none.1, seen none.2)

  pub made_as : (mine after : View (Told K V P A D)) (step : Step K V P A) (answer : Reply K V P A) (keeps : Bool) (Same : Type 0) → (Same → after ≡ mine)
      → ((n : ℕ) × HasStepped m byte_at mine after step answer n) ⊎ ((keeps ≡ true) × (answer ≡ replies.Refused kind.Memory step) × Same) → IsMade m byte_at keeps mine after step answer
  made_as mine after step answer keeps Same seen (inl stepped) = inl stepped
  made_as mine after step answer keeps Same seen (inr none) = inr (none.0, none.1, seen none.2)

  well_at : (s : Settings) (sound : AreValid s) (w : World Content) (f : ℕ) (outcome : Result Unit Error) (e : Told K V P A D) (d : Deed Content)
      → IsStep (steps.FlushWrote f outcome) replies.Next e → Tells m s sound byte_at w e d → MayAllHappen (machine m s sound) (layout s) (IsEncoded m.is_key m.is_value) w (events_in d)
      → is_ok outcome ≡ true
  well_at s sound w f outcome (told.Steps made gave core) (deeds.Steps it answer new) is tells may =
      let step_is : it ≡ model_step.FlushWrote f (went_well outcome) = tells.0 ∙ ap (step_of m) is.0 in
      let answer_is : answer ≡ model_reply.Next = subst (λ r. IsReply m r answer) is.1 tells.1 in
      let follows : Follows (machine m s sound) (layout s) w.core (model_step.FlushWrote f (went_well outcome)) model_reply.Next new =
      subst (λ (x : model_step.Step Content × model_reply.Reply Content). Follows (machine m s sound) (layout s) w.core x.0 x.1 new) (λ i. (step_is i, answer_is i)) may.0.1 in
      sym (well_is outcome) ∙ next_went_well m s sound w.core new f (went_well outcome) follows
  well_at s sound w f outcome (told.Steps made gave core) d is tells may = absurd tells
  well_at s sound w f outcome e d is tells may = absurd is

  -- Next answers a write that went well
  pub next_is_well : (mine after : View (Told K V P A D)) (f n : ℕ) (outcome : Result Unit Error) → HasStepped m byte_at mine after (steps.FlushWrote f outcome) replies.Next n → is_ok outcome ≡ true
  next_is_well mine after f n outcome stepped = go stepped.gone.goes_on
    where
      go : IsTold m byte_at (stepped.gone.log ++ stepped.gone.event ∷ []) → is_ok outcome ≡ true
      go (inl none) = absurd (not_empty stepped.gone.log stepped.gone.event none)
      go (inr (s, sound, (u, run))) =
          let g = stepped.gone in
          let parts = run_split m s sound byte_at g.log g.event [] u (λ w. opens_no_step m byte_at s sound (steps.FlushWrote f outcome) replies.Next g.event w g.is) run in
          well_at s sound parts.0 f outcome g.event parts.2.0 g.is parts.2.1 parts.2.2

-- a note that was refused left the session as it was
pub noted_of : {K V P A : Type 0} (old new : SessionState) (step : Step K V P A) (answer : Reply K V P A) (keeps : Bool) (Same : Type 0) → (Same → new ≡ old)
    → IsNotedIn old new step answer ⊎ ((keeps ≡ true) × (answer ≡ replies.Refused kind.Memory step) × Same) → IsNoted keeps old new step answer
noted_of old new step answer keeps Same seen (inl noted) = inl noted
noted_of old new step answer keeps Same seen (inr none) = inr (none.0, none.1, seen none.2)

-- the note of a step that wasn't refused
pub noted_as : {K V P A : Type 0} {X Y : Type 0} (old new : SessionState) (step : Step K V P A) (answer wanted : Reply K V P A)
    → IsNotedIn old new step answer ⊎ (X × (answer ≡ replies.Refused kind.Memory step) × Y) → answer ≡ wanted → ((back : Step K V P A) → wanted ≡ replies.Refused kind.Memory back → ⊥)
    → IsNotedIn old new step wanted
noted_as old new step answer wanted (inl noted) is other = subst (λ r. IsNotedIn old new step r) is noted
noted_as old new step answer wanted (inr none) is other = absurd (other step (sym is ∙ none.1))

-- a load that was over with its look-up
pub only_looked : {K V P A D : Type 0} (m : Meaning K V P) (byte_at : D → ℕ → ℕ → ℕ) (mine after : View (Told K V P A D)) (h : ℕ) (throttled : Bool) (asked answer : Reply K V P A) (keeps : Bool)
    → IsMade m byte_at keeps mine after (steps.LoadBegin h throttled) asked → answer ≡ asked → is_read asked ≡ false → HasLoaded m byte_at keeps mine after h throttled answer
only_looked m byte_at mine after h throttled asked answer keeps made back unread =
    subst (λ r. HasLoaded m byte_at keeps mine after h throttled r) (sym back) (inl (made, unread))

pub noted_look_up : {K V P A : Type 0} (old new : SessionState) (h : ℕ) (throttled : Bool) (asked answer : Reply K V P A) (keeps : Bool)
    → IsNoted keeps old new (steps.LoadBegin h throttled) asked → answer ≡ asked → IsLoadNoted keeps old new h throttled answer
noted_look_up old new h throttled asked answer keeps noted back = subst (λ r. IsLoadNoted keeps old new h throttled r) (sym back) (inl noted)

-- what a look-up is replied, and the end of a load
pub look_up_replied : {K V P A : Type 0} (h : ℕ) (throttled : Bool) (asked answer : Reply K V P A) (keeps : Bool)
    → (may_reply {K = K} {V = V} {P = P} {A = A} (steps.LoadBegin h throttled) asked ≡ true) ⊎ ((keeps ≡ true) × (asked ≡ replies.Refused kind.Memory (steps.LoadBegin h throttled)))
    → answer ≡ asked → IsLoadReply keeps throttled answer
look_up_replied h throttled asked answer keeps (inl may) same = inl (ap (is_look_up_reply throttled) same ∙ may)
look_up_replied h throttled asked answer keeps (inr none) same = inr (inr (none.0, (steps.LoadBegin h throttled, same ∙ none.1)))

pub end_replied : {K V P A : Type 0} (throttled : Bool) (ticket : Ticket) (outcome : Result (Vec ℕ A) Error) (answer : Reply K V P A) (keeps : Bool)
    → (may_reply {K = K} {V = V} {P = P} {A = A} (steps.LoadEnd ticket outcome) answer ≡ true) ⊎ ((keeps ≡ true) × (answer ≡ replies.Refused kind.Memory (steps.LoadEnd ticket outcome)))
    → IsLoadReply keeps throttled answer
end_replied throttled ticket outcome answer keeps (inl may) = inr (inl (went_well outcome, may))
end_replied throttled ticket outcome answer keeps (inr none) = inr (inr (none.0, (steps.LoadEnd ticket outcome, none.1)))

-- one refusal more
pub noted_more : {K V P A : Type 0} (old from new : SessionState) (step given back : Step K V P A) (answer : Reply K V P A) (keeps : Bool) (times : ℕ) (Same : Type 0) → (Same → new ≡ from)
    → IsNotedIn from new given answer ⊎ ((keeps ≡ true) × (answer ≡ replies.Refused kind.Memory given) × Same) → answer ≡ replies.Refused kind.Memory back → given ≡ step → back ≡ step
    → AreNoted keeps times old from step → (more : ℕ) × AreNoted keeps more old new step
noted_more {K = K} {V = V} {P = P} {A = A} old from new step given back answer keeps times Same seen noted is is_step is_back before =
    let one : IsNoted keeps from new given answer = noted_of from new given answer keeps Same seen noted in
    (suc times, (from, before, subst (λ (x : Step K V P A × Reply K V P A). IsNoted keeps from new x.0 x.1) (λ i. (is_step i, (is ∙ ap (replies.Refused kind.Memory) is_back) i)) one))

-- the note of a step that wasn't refused for want of memory
pub noted_last : {K V P A : Type 0} {X Y : Type 0} (from new : SessionState) (step given : Step K V P A) (answer : Reply K V P A)
    → IsNotedIn from new given answer ⊎ (X × (answer ≡ replies.Refused kind.Memory given) × Y) → given ≡ step → ((back : Step K V P A) → answer ≡ replies.Refused kind.Memory back → ⊥)
    → IsNotedIn from new step answer
noted_last from new step given answer (inl noted) is other = subst (λ x. IsNotedIn from new x answer) is noted
noted_last from new step given answer (inr none) is other = absurd (other given none.1)

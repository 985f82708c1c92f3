-- What steps of no named kind leave of a session's counts.
use native.Mathlib.Numerals.{unary_clauses}
use Rattle.std.proofs.Common.{◌≡◌, ◌⊎◌, ◌∙◌, ◌+◌, ℕ, Bool, true, false, inl, inr, refl, sym, subst, ap, arith}
use Rattle.foyer_core_shared.specs.Briefed.{IsNotedIn}
use Rattle.foyer_core_shared.specs.Briefs.{brief_of, reply_brief, step_brief}
use Rattle.foyer_core_shared.specs.Kinds.{kind_in, kind_of}
use Rattle.foyer_core_shared.specs.Reply.{Reply}
use Rattle.foyer_core_shared.specs.Reply.TheVariants as reply
use Rattle.foyer_core_shared.specs.Step.{Step}
use Rattle.foyer_core_shared.specs.Step.TheVariants as step
use Rattle.foyer_core_shared.specs.Sessions.{SessionState, CountsEnds, is_close, is_destroy}
use Rattle.foyer_core_shared.specs.declared.brief.ReplyBrief.{ReplyBrief}
use Rattle.foyer_core_shared.specs.declared.brief.ReplyBrief.TheVariants as replied
use Rattle.foyer_core_shared.specs.declared.brief.StepBrief.{StepBrief}
use Rattle.foyer_core_shared.specs.declared.brief.StepBrief.TheVariants as asked
use Rattle.foyer_core_tally.specs.Tally.{both, grown, none, saturated}
use Rattle.foyer_core_tally.specs.declared.kinds.Counts.{Counts}
use Rattle.foyer_core_tally.specs.declared.kinds.StepKind.TheVariants.{Other}
use Rattle.foyer_device_page.specs.declared.error.ErrorKind.{ErrorKind}
use Rattle.foyer_device_page.specs.declared.error.ErrorKind.TheVariants as kind
use Rattle.foyer_storage_engine.specs.Ending.{CountsStep, CountsUnnamed, HasMade, HoldsBut, HoldsButCloses, HoldsButDestroys, HoldsNamed, HoldsTally}

of_other : (c d : Counts) (n : ℕ) → d ≡ record c { other = n } → d ≡ record c { other = d.other }
of_other c d n is = is ∙ ap (λ (x : Counts). record c { other = x.other }) (sym is)

-- one more of no named kind
tally_by : (old new : SessionState) → new.shares.amounts ≡ grown Other old.shares.amounts → HoldsTally old new
tally_by old new is = of_other old.shares.amounts new.shares.amounts (old.shares.amounts.other + 1) is

tally_same : (old new : SessionState) → new ≡ old → HoldsTally old new
tally_same old new is = ap (λ (s : SessionState). s.shares.amounts) is ∙ ap (λ (s : SessionState). record old.shares.amounts { other = s.shares.amounts.other }) (sym is)

tally_on : (old between new : SessionState) → HoldsTally old between → HoldsTally between new → HoldsTally old new
tally_on old between new first then = then ∙ ap (λ (x : Counts). record x { other = new.shares.amounts.other }) first

-- a step of no named kind, which ends nothing
pub held_by : (old new : SessionState) (given : StepBrief) → new.shares.amounts ≡ grown Other old.shares.amounts → is_close given ≡ false → is_destroy given ≡ false
    → CountsEnds old new given → HoldsNamed old new
held_by old new given is unclosed kept ends = (tally_by old new is, ends.unclosed unclosed, ends.kept kept)

pub held_same : (old new : SessionState) → new ≡ old → HoldsNamed old new
held_same old new is = (tally_same old new is, ap (λ (s : SessionState). s.closes) is, ap (λ (s : SessionState). s.destroys) is)

pub held_on : (old between new : SessionState) → HoldsNamed old between → HoldsNamed between new → HoldsNamed old new
held_on old between new first then = (tally_on old between new first.0 then.0, then.1 ∙ first.1, then.2 ∙ first.2)

-- a close that goes on
pub closes_on : (old between new : SessionState) → HoldsButCloses old between → HoldsNamed between new → HoldsButCloses old new
closes_on old between new first then = (tally_on old between new first.0 then.0, then.2 ∙ first.1)

-- a destroy that goes on
pub destroys_on : (old between new : SessionState) → HoldsButDestroys old between → HoldsButDestroys between new → HoldsButDestroys old new
destroys_on old between new first then = (tally_on old between new first.0 then.0, then.1 ∙ first.1)

pub destroys_beside : (old new : SessionState) → HoldsNamed old new → HoldsButDestroys old new
destroys_beside old new held = (held.0, held.1)

-- a refusal is of no named kind, whatever was asked
refused_is_other : (given : StepBrief) (why : ErrorKind) → kind_in given (replied.Refused why) ≡ Other
refused_is_other (asked.Enqueue hash size) why = refl
refused_is_other (asked.Delete hash) why = refl
refused_is_other (asked.Wait flusher id) why = refl
refused_is_other (asked.MayContains hash) why = refl
refused_is_other (asked.LoadBegin hash throttled) why = refl
refused_is_other (asked.LoadEnd ticket outcome) why = refl
refused_is_other (asked.Receive flusher) why = refl
refused_is_other (asked.FlushBegin flusher) why = refl
refused_is_other (asked.FlushBlock flusher) why = refl
refused_is_other (asked.FlushWrote flusher outcome) why = refl
refused_is_other (asked.LogWrote flusher outcome) why = refl
refused_is_other (asked.FlushEnd flusher) why = refl
refused_is_other asked.ReclaimBegin why = refl
refused_is_other (asked.ReclaimRead block outcome) why = refl
refused_is_other (asked.ReclaimForget block) why = refl
refused_is_other (asked.ReclaimCleaned block outcome) why = refl
refused_is_other asked.ReclaimIdle why = refl
refused_is_other asked.DestroyBegin why = refl
refused_is_other asked.DestroyClear why = refl
refused_is_other (asked.DestroyCleaned block outcome) why = refl
refused_is_other asked.Close why = refl

-- a step that is made again if it was refused, and then isn't refused
counts_step : (old between new : SessionState) (given : StepBrief) (answer : ReplyBrief)
    → HoldsBut given old between → new.shares.amounts ≡ grown (kind_in given answer) between.shares.amounts → CountsEnds between new given → CountsStep old new given answer
counts_step old between new given answer held counted ends = record {
  others = between.shares.amounts.other;
  counted = counted ∙ ap (grown (kind_in given answer)) held.0;
  unclosed = λ is. ends.unclosed is ∙ held.1 is;
  kept = λ is. ends.kept is ∙ held.2 is;
}

pub held_by_refusal : (old between new : SessionState) (given : StepBrief) (why : ErrorKind)
    → HoldsBut given old between → new.shares.amounts ≡ grown (kind_in given (replied.Refused why)) between.shares.amounts → CountsEnds between new given → HoldsBut given old new
held_by_refusal old between new given why held counted ends = (
  tally_on old between new held.0 (tally_by between new (counted ∙ ap (λ kind. grown kind between.shares.amounts) (refused_is_other given why))),
  (λ is. ends.unclosed is ∙ held.1 is),
  λ is. ends.kept is ∙ held.2 is,
)

pub held_but_same : (given : StepBrief) (session : SessionState) → HoldsBut given session session
held_but_same given session = (tally_same session session refl, (λ is. refl), λ is. refl)

tally_by_step : (old new : SessionState) (given : StepBrief) (answer : ReplyBrief) → kind_in given answer ≡ Other → CountsStep old new given answer → HoldsTally old new
tally_by_step old new given answer is steps =
    of_other old.shares.amounts new.shares.amounts (steps.others + 1) (steps.counted ∙ ap (λ kind. grown kind (record old.shares.amounts { other = steps.others })) is)

-- a step of no named kind, which ends nothing
pub held_by_step : (old new : SessionState) (given : StepBrief) (answer : ReplyBrief) → kind_in given answer ≡ Other → is_close given ≡ false → is_destroy given ≡ false → CountsStep old new given answer → HoldsNamed old new
held_by_step old new given answer is unclosed kept steps = (tally_by_step old new given answer is steps, steps.unclosed unclosed, steps.kept kept)

-- one of a destroy
pub destroys_by_step : (old new : SessionState) (given : StepBrief) (answer : ReplyBrief) → kind_in given answer ≡ Other → is_close given ≡ false → CountsStep old new given answer → HoldsButDestroys old new
destroys_by_step old new given answer is unclosed steps = (tally_by_step old new given answer is steps, steps.unclosed unclosed)

module _ {K V P A : Type 0} where
  -- one step, or none if its note found no room
  abbrev AtMostOne : (keeps : Bool) (old new : SessionState) (given : Step K V P A) (answer : Reply K V P A) → Type 0
  AtMostOne keeps old new given answer = IsNotedIn old new given answer ⊎ ((keeps ≡ true) × (answer ≡ reply.Refused kind.Memory given) × (new ≡ old))

  tally_by_made : (keeps : Bool) (old new : SessionState) (given : Step K V P A) (answer : Reply K V P A) → kind_of (brief_of given answer) ≡ Other
      → AtMostOne keeps old new given answer → HoldsTally old new
  tally_by_made keeps old new given answer is (inl noted) = tally_by old new (noted.counted ∙ ap (λ kind. grown kind old.shares.amounts) is)
  tally_by_made keeps old new given answer is (inr none) = tally_same old new none.2

  closes_by_made : (keeps : Bool) (old new : SessionState) (given : Step K V P A) (answer : Reply K V P A) → is_close (step_brief given) ≡ false
      → AtMostOne keeps old new given answer → new.closes ≡ old.closes
  closes_by_made keeps old new given answer is (inl noted) = noted.ends.unclosed is
  closes_by_made keeps old new given answer is (inr none) = ap (λ (s : SessionState). s.closes) none.2

  destroys_by_made : (keeps : Bool) (old new : SessionState) (given : Step K V P A) (answer : Reply K V P A) → is_destroy (step_brief given) ≡ false
      → AtMostOne keeps old new given answer → new.destroys ≡ old.destroys
  destroys_by_made keeps old new given answer is (inl noted) = noted.ends.kept is
  destroys_by_made keeps old new given answer is (inr none) = ap (λ (s : SessionState). s.destroys) none.2

  -- a step that is made again if it was refused for memory, and then isn't refused for it
  pub counts_made : (keeps : Bool) (old between new : SessionState) (given : Step K V P A) (answer : Reply K V P A) → HoldsBut (step_brief given) old between
      → (IsNotedIn between new given answer ⊎ ((keeps ≡ true) × (answer ≡ reply.Refused kind.Memory given) × (new ≡ between)))
      → ((back : Step K V P A) → answer ≡ reply.Refused kind.Memory back → ⊥) → CountsStep old new (step_brief given) (reply_brief answer)
  counts_made keeps old between new given answer held (inl noted) isnt = counts_step old between new (step_brief given) (reply_brief answer) held noted.counted noted.ends
  counts_made keeps old between new given answer held (inr none) isnt = absurd (isnt given none.1)

  -- one that was made once, or found no room for its note
  pub held_by_made : (keeps : Bool) (old new : SessionState) (given : Step K V P A) (answer : Reply K V P A) → kind_of (brief_of given answer) ≡ Other
      → is_close (step_brief given) ≡ false → is_destroy (step_brief given) ≡ false
      → (IsNotedIn old new given answer ⊎ ((keeps ≡ true) × (answer ≡ reply.Refused kind.Memory given) × (new ≡ old))) → HoldsNamed old new
  held_by_made keeps old new given answer is unclosed kept made =
      (tally_by_made keeps old new given answer is made, closes_by_made keeps old new given answer unclosed made, destroys_by_made keeps old new given answer kept made)

  -- a close
  pub closed_by_made : (keeps : Bool) (old new : SessionState) (given : Step K V P A) (answer : Reply K V P A) → kind_of (brief_of given answer) ≡ Other
      → is_destroy (step_brief given) ≡ false
      → (IsNotedIn old new given answer ⊎ ((keeps ≡ true) × (answer ≡ reply.Refused kind.Memory given) × (new ≡ old))) → HoldsButCloses old new
  closed_by_made keeps old new given answer is kept made = (tally_by_made keeps old new given answer is made, destroys_by_made keeps old new given answer kept made)

  -- what a close counts as, and what follows it
  pub closes_by_close : (keeps : Bool) (old between new : SessionState) (answer : Reply K V P A)
      → (IsNotedIn {K = K} {V = V} {P = P} {A = A} old between step.Close answer ⊎ ((keeps ≡ true) × (answer ≡ reply.Refused kind.Memory step.Close) × (between ≡ old)))
      → ((why : ErrorKind) (back : Step K V P A) → answer ≡ reply.Refused why back → ⊥) → HoldsNamed between new → new.closes ≡ saturated (old.closes + 1)
  closes_by_close keeps old between new answer (inl noted) isnt held = held.1 ∙ noted.ends.closed refl
  closes_by_close keeps old between new answer (inr none) isnt held = absurd (isnt kind.Memory step.Close none.1)

  -- a destroy's beginning
  pub destroyed_by_made : (keeps : Bool) (old new : SessionState) (given : Step K V P A) (answer : Reply K V P A) → kind_of (brief_of given answer) ≡ Other
      → is_close (step_brief given) ≡ false
      → (IsNotedIn old new given answer ⊎ ((keeps ≡ true) × (answer ≡ reply.Refused kind.Memory given) × (new ≡ old))) → HoldsButDestroys old new
  destroyed_by_made keeps old new given answer is unclosed made = (tally_by_made keeps old new given answer is made, closes_by_made keeps old new given answer unclosed made)

  -- and one that isn't refused was made
  pub made_one : (keeps : Bool) (old between new : SessionState) (given : Step K V P A) (answer : Reply K V P A) (steps : ℕ) → kind_of (brief_of given answer) ≡ Other
      → (IsNotedIn between new given answer ⊎ ((keeps ≡ true) × (answer ≡ reply.Refused kind.Memory given) × (new ≡ between)))
      → ((why : ErrorKind) (back : Step K V P A) → answer ≡ reply.Refused why back → ⊥) → HasMade steps old between → HasMade (steps + 1) old new
  made_one keeps old between new given answer steps is (inl noted) isnt made =
      let one : new.shares.amounts.other ≡ between.shares.amounts.other + 1 = ap (λ (c : Counts). c.other) (noted.counted ∙ ap (λ kind. grown kind between.shares.amounts) is) in
      omega (arith, one, made)
  made_one keeps old between new given answer steps is (inr none) isnt made = absurd (isnt kind.Memory given none.1)

  -- so was one that is answered
  pub made_answer : (keeps : Bool) (old between new : SessionState) (given : Step K V P A) (is : Bool) (answer : Reply K V P A) (steps : ℕ) → answer ≡ reply.Answer is
      → kind_of (brief_of given answer) ≡ Other → (IsNotedIn between new given answer ⊎ ((keeps ≡ true) × (answer ≡ reply.Refused kind.Memory given) × (new ≡ between)))
      → HasMade steps old between → HasMade (steps + 1) old new
  made_answer keeps old between new given is answer steps answered other noted made =
      made_one keeps old between new given answer steps other noted
      (λ why back refused. let clash : ◌≡◌ {A = Reply K V P A} (reply.Answer is) (reply.Refused why back) = sym answered ∙ refused in absurd cc) made

  -- no step takes one back
  pub made_still : (keeps : Bool) (old between new : SessionState) (given : Step K V P A) (answer : Reply K V P A) (steps : ℕ) → kind_of (brief_of given answer) ≡ Other
      → (IsNotedIn between new given answer ⊎ ((keeps ≡ true) × (answer ≡ reply.Refused kind.Memory given) × (new ≡ between))) → HasMade steps old between → HasMade steps old new
  made_still keeps old between new given answer steps is (inl noted) made =
      let one : new.shares.amounts.other ≡ between.shares.amounts.other + 1 = ap (λ (c : Counts). c.other) (noted.counted ∙ ap (λ kind. grown kind between.shares.amounts) is) in
      omega (arith, one, made)
  made_still keeps old between new given answer steps is (inr none) made = subst (HasMade steps old) (sym none.2) made

-- what counted no named step before counts none after
pub unnamed_still : (old new : SessionState) → CountsUnnamed old → HoldsNamed old new → CountsUnnamed new
unnamed_still old new before held = (held.0 ∙ ap (λ (x : Counts). record x { other = new.shares.amounts.other }) before.0, held.1 ∙ before.1, held.2 ∙ before.2)

-- a session takes in another's steps, all of no named kind
pub held_by_unnamed : (old new other : SessionState) → new.shares.amounts ≡ both old.shares.amounts other.shares.amounts
    → (other.closes ≡ 0 → new.closes ≡ old.closes) × (other.destroys ≡ 0 → new.destroys ≡ old.destroys) → CountsUnnamed other → HoldsNamed old new
held_by_unnamed old new other joined ends unnamed =
    let sum : new.shares.amounts ≡ both old.shares.amounts (record none { other = other.shares.amounts.other }) = joined ∙ ap (both old.shares.amounts) unnamed.0 in
    (of_other old.shares.amounts new.shares.amounts (old.shares.amounts.other + other.shares.amounts.other) (simp unary_clauses at sum), ends.0 unnamed.1, ends.1 unnamed.2)

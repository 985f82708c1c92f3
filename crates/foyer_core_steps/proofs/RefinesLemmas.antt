-- A step that is met except for its count is met.
use Rattle.std.proofs.Common.{◌≡◌, ℕ, ◌+◌, ◌-◌, ◌^◌, ◌<◌, ◌≤◌, inl, refl, sym, subst, arith}
use Rattle.foyer_device_page.specs.declared.error.ErrorKind.{ErrorKind}
use Rattle.foyer_device_page.specs.declared.error.ErrorKind.TheVariants as kind
use Rattle.foyer_core_model.specs.Numbers.{last_number}
use Rattle.foyer_core_model.specs.Reply as model_reply
use Rattle.foyer_core_model.specs.Rules.{Rules, Splitting}
use Rattle.foyer_core_model.specs.State.{State}
use Rattle.foyer_core_model.specs.Step as model_step
use Rattle.foyer_core_model.specs.Follows.{Follows}
use Rattle.foyer_core_steps.specs.Asked.{step_of}
use Rattle.foyer_core_flusher.specs.Content.{Content, Meaning}
use Rattle.foyer_core_flusher.specs.CoreRules.{layout}
use Rattle.foyer_core_steps.specs.Refines.{FollowsUncounted, IsHandedBack, IsRefinedUncounted, IsRefined}
use Rattle.foyer_core_flusher.specs.CoreRules.{machine}
use Rattle.foyer_core_steps.specs.Replied.{IsReply}
use Rattle.foyer_core_flusher.specs.Sizes.{AreValid}
use Rattle.foyer_core_steps.specs.StateOf.{IsStateOf}
use Rattle.foyer_core_steps.specs.Unchanged.{IsUnchanged}
use Rattle.foyer_core_steps.specs.declared.reply.Reply.{Reply}
use Rattle.foyer_core_steps.specs.declared.reply.Reply.TheVariants as reply
use Rattle.foyer_core_flusher.specs.Settings.{Settings}
use Rattle.foyer_core_steps.specs.declared.state.Core.{Core}
use Rattle.foyer_core_steps.specs.declared.step.Step.{Step}
use Rattle.foyer_core_steps.proofs.StateLemmas.{unchanged_stands}

-- a reply that counts
abbrev pub IsOrdinary : {C : Type 0} → model_reply.Reply C → Type 0
IsOrdinary (model_reply.NotNow back) = ⊥
IsOrdinary (model_reply.Refused why back) = ⊥
IsOrdinary it = Unit {0}

counted : {C : Type 0} (rules : Rules C) (Splits : Splitting C) (old : State C) (given : model_step.Step C) (it : model_reply.Reply C) (new : State C)
    → IsOrdinary it → old.steps < last_number → FollowsUncounted rules Splits old given it new → Follows rules Splits old given it (record new { steps = old.steps + 1 })
counted rules Splits old given (model_reply.NotNow x0) new ordinary few turns = absurd ordinary
counted rules Splits old given (model_reply.Refused x0 x1) new ordinary few turns = absurd ordinary
counted rules Splits old given (model_reply.Ignored x0) new ordinary few turns = (few, turns.0, (new, turns.1, refl))
counted rules Splits old given (model_reply.Queued x0) new ordinary few turns = (few, turns.0, (new, turns.1, refl))
counted rules Splits old given (model_reply.Dropped x0 x1) new ordinary few turns = (few, turns.0, (new, turns.1, refl))
counted rules Splits old given (model_reply.Deleted x0) new ordinary few turns = (few, turns.0, (new, turns.1, refl))
counted rules Splits old given model_reply.Done new ordinary few turns = (few, turns.0, (new, turns.1, refl))
counted rules Splits old given (model_reply.Answer x0) new ordinary few turns = (few, turns.0, (new, turns.1, refl))
counted rules Splits old given model_reply.Miss new ordinary few turns = (few, turns.0, (new, turns.1, refl))
counted rules Splits old given model_reply.Throttled new ordinary few turns = (few, turns.0, (new, turns.1, refl))
counted rules Splits old given (model_reply.Read x0) new ordinary few turns = (few, turns.0, (new, turns.1, refl))
counted rules Splits old given (model_reply.Entry x0 x1) new ordinary few turns = (few, turns.0, (new, turns.1, refl))
counted rules Splits old given model_reply.Empty new ordinary few turns = (few, turns.0, (new, turns.1, refl))
counted rules Splits old given (model_reply.Received x0) new ordinary few turns = (few, turns.0, (new, turns.1, refl))
counted rules Splits old given (model_reply.Began x0 x1) new ordinary few turns = (few, turns.0, (new, turns.1, refl))
counted rules Splits old given (model_reply.Written x0 x1) new ordinary few turns = (few, turns.0, (new, turns.1, refl))
counted rules Splits old given model_reply.NoBlock new ordinary few turns = (few, turns.0, (new, turns.1, refl))
counted rules Splits old given model_reply.Next new ordinary few turns = (few, turns.0, (new, turns.1, refl))
counted rules Splits old given (model_reply.Committed x0) new ordinary few turns = (few, turns.0, (new, turns.1, refl))
counted rules Splits old given model_reply.Failed new ordinary few turns = (few, turns.0, (new, turns.1, refl))
counted rules Splits old given (model_reply.Ended x0 x1) new ordinary few turns = (few, turns.0, (new, turns.1, refl))
counted rules Splits old given (model_reply.Picked x0 x1 x2) new ordinary few turns = (few, turns.0, (new, turns.1, refl))
counted rules Splits old given (model_reply.Scans x0 x1 x2 x3) new ordinary few turns = (few, turns.0, (new, turns.1, refl))
counted rules Splits old given (model_reply.Listed x0) new ordinary few turns = (few, turns.0, (new, turns.1, refl))
counted rules Splits old given (model_reply.Cleans x0) new ordinary few turns = (few, turns.0, (new, turns.1, refl))
counted rules Splits old given (model_reply.Destroying x0) new ordinary few turns = (few, turns.0, (new, turns.1, refl))
counted rules Splits old given (model_reply.Cleared x0) new ordinary few turns = (few, turns.0, (new, turns.1, refl))
counted rules Splits old given (model_reply.Destroyed x0) new ordinary few turns = (few, turns.0, (new, turns.1, refl))

module _ {K V P A : Type 0} (m : Meaning K V P) where
  ordinary : (answer : Reply K V P A) (it : model_reply.Reply Content) → (IsHandedBack answer → ⊥) → IsReply m answer it → IsOrdinary it
  ordinary (reply.NotNow back) it not is = absurd (not tt)
  ordinary (reply.Refused why back) it not is = absurd (not tt)
  ordinary (reply.Ignored piece) it not is = subst IsOrdinary (sym is) tt
  ordinary (reply.Queued q) it not is = subst IsOrdinary (sym is) tt
  ordinary (reply.Dropped piece q) it not is = subst IsOrdinary (sym is) tt
  ordinary (reply.Deleted q) it not is = subst IsOrdinary (sym is) tt
  ordinary reply.Done it not is = subst IsOrdinary (sym is) tt
  ordinary (reply.Answer b) it not is = subst IsOrdinary (sym is) tt
  ordinary reply.Miss it not is = subst IsOrdinary (sym is) tt
  ordinary reply.Throttled it not is = subst IsOrdinary (sym is) tt
  ordinary (reply.Read t) it not is = subst IsOrdinary (sym is) tt
  ordinary (reply.Entry key value age) it not is = subst IsOrdinary (sym is) tt
  ordinary reply.Empty it not is = subst IsOrdinary (sym is) tt
  ordinary (reply.Received back) it not is = subst IsOrdinary (sym is) tt
  ordinary (reply.Began blocks marks) it not is = subst IsOrdinary (sym is.2) tt
  ordinary (reply.Write block writes) it not is = subst IsOrdinary (sym is) tt
  ordinary reply.NoBlock it not is = subst IsOrdinary (sym is) tt
  ordinary reply.Next it not is = subst IsOrdinary (sym is) tt
  ordinary (reply.Committed n) it not is = subst IsOrdinary (sym is) tt
  ordinary reply.Failed it not is = subst IsOrdinary (sym is) tt
  ordinary (reply.Ended pieces waits) it not is = subst IsOrdinary (sym is.2) tt
  ordinary (reply.Picked block answers probation) it not is = subst IsOrdinary (sym is) tt
  ordinary (reply.Scan block offset len verdicts) it not is = subst IsOrdinary (sym is) tt
  ordinary (reply.Listed verdicts) it not is = subst IsOrdinary (sym is) tt
  ordinary (reply.Clean block) it not is = subst IsOrdinary (sym is) tt
  ordinary (reply.Destroying q) it not is = subst IsOrdinary (sym is) tt
  ordinary reply.Cleared it not is = subst IsOrdinary (sym is.1) tt
  ordinary (reply.Destroyed first) it not is = subst IsOrdinary (sym is.2) tt

module _ {K V P A : Type 0} (m : Meaning K V P) (s : Settings) (sound : AreValid s) (given : Step K V P A) (old new : Core K V P A) (it : State Content) (stands : IsStateOf m s old it) where
  -- one that counts
  pub met : (answer : Reply K V P A) (n : ℕ) (final : Core K V P A) → IsUnchanged (record new { steps = n }) final → (IsHandedBack answer → ⊥) → old.steps < 2 ^ 64 - 1 → n ≡ old.steps + 1
      → IsRefinedUncounted m s sound given answer new it → IsRefined m s sound given answer final it
  met answer n final same_as not few is turned = record {
    after = record turned.after { steps = it.steps + 1 };
    it = turned.it;
    stands = unchanged_stands m s (record new { steps = n }) final (record turned.after { steps = it.steps + 1 }) same_as (record {
      sizes = (turned.stands).sizes;
      index = (turned.stands).index;
      next = (turned.stands).next;
      steps = let same : it.steps ≡ old.steps = stands.steps in omega arith;
      closed = (turned.stands).closed;
      flushers = (turned.stands).flushers;
      queued = (turned.stands).queued;
      manager = (turned.stands).manager;
      has = (turned.stands).has;
      reclaims = (turned.stands).reclaims;
      destroy = (turned.stands).destroy;
    });
    reply = turned.reply;
    follows = counted (machine m s sound) (layout s) it (step_of m given) turned.it turned.after (ordinary m answer turned.it not turned.reply)
        (let same : it.steps ≡ old.steps = stands.steps in omega arith) turned.turns;
  }

  -- one that is out of turn
  pub met_late : (back : Step K V P A) → IsRefinedUncounted m s sound given (reply.NotNow back) new it → IsRefined m s sound given (reply.NotNow back) new it
  met_late back turned = record {
    after = turned.after;
    it = model_reply.NotNow (step_of m back);
    stands = turned.stands;
    reply = refl;
    follows = subst (λ r. FollowsUncounted (machine m s sound) (layout s) it (step_of m given) r turned.after) turned.reply turned.turns;
  }

  -- one that is refused
  pub met_refused : (why : ErrorKind) (back : Step K V P A) → IsRefinedUncounted m s sound given (reply.Refused why back) new it → IsRefined m s sound given (reply.Refused why back) new it
  met_refused why back turned = record {
    after = turned.after;
    it = model_reply.Refused (turned.reply).0 (step_of m back);
    stands = turned.stands;
    reply = ((turned.reply).0, (turned.reply).1, refl);
    follows = subst (λ r. FollowsUncounted (machine m s sound) (layout s) it (step_of m given) r turned.after) (turned.reply).2 turned.turns;
  }

  -- one that comes back
  pub met_back : (answer : Reply K V P A) → IsHandedBack answer → IsRefinedUncounted m s sound given answer new it → IsRefined m s sound given answer new it
  met_back (reply.NotNow back) handed turned = met_late back turned
  met_back (reply.Refused why back) handed turned = met_refused why back turned
  met_back answer handed turned = absurd handed

  -- at the limit of steps each one is refused
  pub met_at_end : 2 ^ 64 - 1 ≤ old.steps → IsRefined m s sound given (reply.Refused kind.SequenceEnd given) old it
  met_at_end full = record {
    after = it;
    it = model_reply.Refused model_reply.SequenceEnd (step_of m given);
    stands = stands;
    reply = (model_reply.SequenceEnd, refl, refl);
    follows = (refl, inl (let same : it.steps ≡ old.steps = stands.steps in omega arith), refl);
  }

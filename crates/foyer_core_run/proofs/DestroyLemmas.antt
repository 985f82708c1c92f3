-- What a destroy does, one after the other.
use Rattle.std.proofs.Common.{◌≡◌, ℕ, zero, suc, List, [], ◌∷◌, ◌++◌, None, sym, ap, subst, ◌∙◌}
use Rattle.foyer_core_model.specs.Reply as model_reply
use Rattle.foyer_core_model.specs.Step as model_step
use Rattle.foyer_core_model.specs.World.{WorldEvent, Applies, CleanBegins, CleanEnds}
use Rattle.foyer_core_laws.specs.Content.{Content, Meaning}
use Rattle.foyer_core_laws.specs.CoreRules.{machine}
use Rattle.foyer_core_steps.specs.Refines.{Refines}
use Rattle.foyer_core_steps.specs.Replied.{IsReply}
use Rattle.foyer_core_steps.specs.declared.reply.Reply.{Reply}
use Rattle.foyer_core_steps.specs.declared.reply.Reply.TheVariants as reply
use Rattle.foyer_core_steps.specs.declared.state.Core.{Core}
use Rattle.foyer_core_steps.specs.declared.step.Step.TheVariants as step
use Rattle.foyer_core_run.specs.Causes.{AreForCause, DrivesForCause}
use Rattle.foyer_core_run.specs.Destroys.{AreCleansUpTo, DestroysForCause, HasCleared, HasDestroyed, IsClearing, IsDestroying, IsUncleared}
use Rattle.foyer_core_run.specs.Waiting.{AllSteps, DrivesBy, IsWaiting}
use Rattle.foyer_core_run.proofs.CauseLemmas.{cause_more, cause_stepped}
use Rattle.foyer_core_run.proofs.ListLemmas.{append_twice}
use Rattle.foyer_core_run.proofs.WaitingLemmas.{all_join}

-- a wait's step is one of a destroy
waits_destroy : {C : Type 0} (given : model_step.Step C) → IsWaiting given → IsDestroying given
waits_destroy model_step.DestroyBegin is = tt
waits_destroy model_step.DestroyClear is = tt
waits_destroy (model_step.DestroyCleaned b fault) is = tt
waits_destroy given is = is

all_destroy : {C : Type 0} (events : List (WorldEvent C)) → AllSteps IsWaiting events → AllSteps IsDestroying events
all_destroy [] all = tt
all_destroy (Applies given it after ∷ events) all = (waits_destroy given all.0, all_destroy events all.1)
all_destroy (event ∷ events) all = all_destroy events all

cleans_destroy : {C : Type 0} (n : ℕ) (events : List (WorldEvent C)) → AreCleansUpTo n events → AllSteps IsDestroying events
cleans_destroy zero events none = subst (AllSteps IsDestroying) (sym none) tt
cleans_destroy (suc n) events are =
    subst (AllSteps IsDestroying) (sym are.is)
    (all_join IsDestroying are.before (CleanBegins n ∷ CleanEnds n are.is_ok are.torn ∷ Applies (model_step.DestroyCleaned n are.fault) are.it are.after ∷ [])
    (cleans_destroy n are.before are.all) (tt, tt))

cleared_behind : {C : Type 0} (one two : List (WorldEvent C)) → HasCleared two → HasCleared (one ++ two)
cleared_behind one two has = record {
  before = one ++ has.before;
  blocks = has.blocks;
  after = has.after;
  rest = has.rest;
  is = ap (λ es. one ++ es) has.is ∙ sym (append_twice one has.before _);
}

destroyed_behind : {C : Type 0} (one two : List (WorldEvent C)) → HasDestroyed two → HasDestroyed (one ++ two)
destroyed_behind one two has = record {
  cleared = cleared_behind one two has.cleared;
  before = one ++ has.before;
  given = has.given;
  after = has.after;
  is = ap (λ es. one ++ es) has.is ∙ sym (append_twice one has.before _);
}

module _ {K V P A : Type 0} (m : Meaning K V P) where
  -- a destroy that ended without a failed clean, as the model's reply
  ended_well : (last : Reply K V P A) (it : model_reply.Reply Content) → last ≡ reply.Destroyed None → IsReply m last it → it ≡ model_reply.Destroyed None
  ended_well last it is replied =
      let r = subst (λ (l : Reply K V P A). IsReply m l it) is replied in r.2 ∙ ap model_reply.Destroyed r.1

  pub destroys_none : (came : ℕ → ℕ → ℕ → Type 0) (core : Core K V P A) (bytes : ℕ → ℕ → ℕ) → DestroysForCause came ⊥ m core core bytes bytes
  destroys_none came core bytes s sound w stands same = (record { events = []; happened = tt; stands = stands; same = same }, (tt, λ c. absurd c), tt)

  pub destroys_waiting : (came : ℕ → ℕ → ℕ → Type 0) (a b : Core K V P A) (x y : ℕ → ℕ → ℕ) → DrivesForCause came (AllSteps IsWaiting) m a b x y → DestroysForCause came ⊥ m a b x y
  destroys_waiting came a b x y waits s sound w stands same =
      let one = waits s sound w stands same in (one.0, (all_destroy (one.0).events one.1, λ c. absurd c), one.2)

  pub destroys_begun : (came : ℕ → ℕ → ℕ → Type 0) (last : Reply K V P A) (a b : Core K V P A) (bytes : ℕ → ℕ → ℕ) → Refines m step.DestroyBegin last a b → DestroysForCause came ⊥ m a b bytes bytes
  destroys_begun came last a b bytes meets =
      cause_stepped m came (λ events. AllSteps IsDestroying events × (⊥ → HasDestroyed events)) step.DestroyBegin last a b bytes (λ s sound w. tt) (λ it st. ((tt, tt), λ c. absurd c)) meets

  pub destroys_cleared : (came : ℕ → ℕ → ℕ → Type 0) (Was : Type 0) (n : ℕ) (last : Reply K V P A) (a b : Core K V P A) (x y : ℕ → ℕ → ℕ) → (Was → last ≡ reply.Destroyed None)
      → DrivesForCause came (IsClearing m n last) m a b x y → DestroysForCause came Was m a b x y
  destroys_cleared came Was n last a b x y ended clears s sound w stands same =
      let one = clears s sound w stands same in
      let done = one.1 in (
        one.0,
        (
          subst (AllSteps IsDestroying) (sym done.is) (tt, cleans_destroy n done.rest done.cleans),
          λ was. record {
            cleared = record { before = []; blocks = done.blocks; after = done.after; rest = done.rest; is = done.is };
            before = (done.ends).before;
            given = (done.ends).given;
            after = (done.ends).after;
            is = (done.ends).is
                ∙ ap (λ i. (done.ends).before ++ Applies (done.ends).given i (done.ends).after ∷ []) (ended_well last (done.ends).it (ended was) (done.ends).reply);
          },
        ),
        one.2,
      )

  pub destroys_kept : (came : ℕ → ℕ → ℕ → Type 0) (back : Reply K V P A) (a b : Core K V P A) (x y : ℕ → ℕ → ℕ) → DrivesBy (IsUncleared m back) m a b x y → DestroysForCause came ⊥ m a b x y
  destroys_kept came back a b x y keeps s sound w stands same =
      let one = keeps s sound w stands same in (
        one.0,
        (subst (AllSteps IsDestroying) (sym (one.1).is) (tt, tt), λ c. absurd c),
        subst (AreForCause came (machine m s sound) w) (sym (one.1).is) (tt, tt),
      )

  pub destroys_if : (came : ℕ → ℕ → ℕ → Type 0) (Was Is : Type 0) (a b : Core K V P A) (x y : ℕ → ℕ → ℕ) → (Is → Was) → DestroysForCause came Was m a b x y → DestroysForCause came Is m a b x y
  destroys_if came Was Is a b x y only destroys s sound w stands same =
      let one = destroys s sound w stands same in (one.0, ((one.1).0, λ is. (one.1).1 (only is)), one.2)

  pub destroys_more : (came before behind : ℕ → ℕ → ℕ → Type 0) → ((b o n : ℕ) → came b o n → before b o n) → ((b o n : ℕ) → came b o n → behind b o n) → (Was Is : Type 0) (a b c : Core K V P A) (x y z : ℕ → ℕ → ℕ)
      → DestroysForCause before Was m a b x y → DestroysForCause behind Is m b c y z → DestroysForCause came Is m a c x z
  destroys_more came before behind within more Was Is a b c x y z first next =
      cause_more m came before behind within more (λ events. AllSteps IsDestroying events × (Was → HasDestroyed events)) (λ events. AllSteps IsDestroying events × (Is → HasDestroyed events))
      (λ events. AllSteps IsDestroying events × (Is → HasDestroyed events))
      (λ one two are others. (all_join IsDestroying one two are.0 others.0, λ is. destroyed_behind one two (others.1 is))) a b c x y z first next

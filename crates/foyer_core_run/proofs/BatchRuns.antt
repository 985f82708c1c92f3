-- A batch that begins, as events of the world.
use Rattle.std.proofs.Common.{◌≡◌, ℕ, List, [], ◌∷◌, Result, refl, sym, subst}
use Rattle.std.specs.declared.vec.Vec.{Vec}
use Rattle.foyer_block_index.specs.declared.tombstone.Tombstone.{Tombstone}
use Rattle.foyer_device_page.specs.declared.error.Error.{Error}
use Rattle.foyer_core_model.specs.Rules.{Rules}
use Rattle.foyer_core_model.specs.Step as model_step
use Rattle.foyer_core_model.specs.World.{World, WorldEvent, Applies}
use Rattle.foyer_core_laws.specs.Content.{Content, Meaning}
use Rattle.foyer_core_laws.specs.CoreRules.{layout, machine}
use Rattle.foyer_core_laws.specs.Sizes.{AreValid}
use Rattle.foyer_core_laws.specs.Settings.{Settings}
use Rattle.foyer_core_steps.specs.Asked.{went_well}
use Rattle.foyer_core_steps.specs.Refines.{Refines}
use Rattle.foyer_core_steps.specs.StateOf.{IsStateOf}
use Rattle.foyer_core_steps.specs.declared.reply.Reply.{Reply}
use Rattle.foyer_core_steps.specs.declared.reply.Reply.TheVariants as reply
use Rattle.foyer_core_steps.specs.declared.state.Core.{Core}
use Rattle.foyer_core_steps.specs.declared.step.Step.TheVariants as step
use Rattle.foyer_core_run.specs.AtRest.{KeepsOthers, Leads}
use Rattle.foyer_core_run.specs.Batches.{Appending, BeginsNoBatch, IsBatchBegun, IsUnbegun}
use Rattle.foyer_core_run.specs.Causes.{AreForCause, DrivesForCause}
use Rattle.foyer_core_run.specs.Waiting.{AllSteps, DrivesBy, IsWaiting}
use Rattle.foyer_core_run.proofs.FlusherSteps.{follows_keep, keeps_more}
use Rattle.foyer_core_run.proofs.RestLemmas.{SaysNothing, begin_keeps, leads_more}

-- an answer other than Began
pub no_batch : {K V P A : Type 0} (answer : Reply K V P A) → ((blocks : ℕ) (marks : Vec Tombstone A) → answer ≡ reply.Began blocks marks → ⊥) → BeginsNoBatch answer
no_batch (reply.Began blocks marks) not = absurd (not blocks marks refl)
no_batch answer not = tt

-- and one that says that there was nothing to do
pub nothing_begins : {K V P A : Type 0} (answer : Reply K V P A) → SaysNothing answer → BeginsNoBatch answer
nothing_begins (reply.Began blocks marks) nothing = absurd nothing
nothing_begins answer nothing = tt

module _ {K V P A : Type 0} (m : Meaning K V P) (f : ℕ) where
  module _ {L : Type 0} (Appends : Appending L) (from : L) where
    begun_not : (answer : Reply K V P A) → BeginsNoBatch answer → (events : List (WorldEvent Content)) → IsUnbegun m f answer events → IsBatchBegun m f Appends from from answer events
    begun_not (reply.Began blocks marks) not events is = absurd not
    begun_not answer not events is = (refl, is)

    -- no batch begins
    pub begins_none : (answer : Reply K V P A) → BeginsNoBatch answer → (old new : Core K V P A) (bytes : ℕ → ℕ → ℕ) → Refines m (step.FlushBegin f) answer old new
        → DrivesBy (IsBatchBegun m f Appends from from answer) m old new bytes bytes
    begins_none answer not old new bytes meets s sound w stands same =
        let met = meets s sound w.core stands in (
          record {
            events = Applies (model_step.FlushBegin f) met.it met.after ∷ [];
            happened = ((tt, met.follows), tt);
            stands = met.stands;
            same = same;
          },
          begun_not answer not _ (record { it = met.it; after = met.after; is = refl; reply = met.reply }),
        )

    -- a batch begins, and the log's outcome is brought
    pub begins_logged : (to : L) (blocks : ℕ) (marks : Vec Tombstone A) (outcome : Result Unit Error) (answer : Reply K V P A) (a b c : Core K V P A) (bytes : ℕ → ℕ → ℕ)
        → Refines m (step.FlushBegin f) (reply.Began blocks marks) a b → Appends from marks.items to outcome → Refines m (step.LogWrote f outcome) answer b c
        → DrivesBy (IsBatchBegun m f Appends from to (reply.Began blocks marks)) m a c bytes bytes
    begins_logged to blocks marks outcome answer a b c bytes begins appended logs s sound w stands same =
        let met = begins s sound w.core stands in
        let noted = logs s sound met.after met.stands in (
          record {
            events = Applies (model_step.FlushBegin f) met.it met.after ∷ Applies (model_step.LogWrote f (went_well outcome)) noted.it noted.after ∷ [];
            happened = ((tt, met.follows), ((tt, noted.follows), tt));
            stands = noted.stands;
            same = same;
          },
          record { begun = met.it; after = met.after; outcome = outcome; it = noted.it; last = noted.after; is = refl; reply = met.reply; appended = appended },
        )

    waiting_in : (to : L) (answer : Reply K V P A) (events : List (WorldEvent Content)) → IsBatchBegun m f Appends from to answer events → AllSteps IsWaiting events
    waiting_in to (reply.Began blocks marks) events is = subst (AllSteps IsWaiting) (sym is.is) (tt, (tt, tt))
    waiting_in to answer events is = subst (AllSteps IsWaiting) (sym (is.1).is) (tt, tt)

    causes_in : (came : ℕ → ℕ → ℕ → Type 0) (rules : Rules Content) (w : World Content) (to : L) (answer : Reply K V P A) (events : List (WorldEvent Content)) → IsBatchBegun m f Appends from to answer events
        → AreForCause came rules w events
    causes_in came rules w to (reply.Began blocks marks) events is = subst (AreForCause came rules w) (sym is.is) (tt, (tt, tt))
    causes_in came rules w to answer events is = subst (AreForCause came rules w) (sym (is.1).is) (tt, tt)

    -- these are steps of a wait, and no access
    pub begun_for_cause : (came : ℕ → ℕ → ℕ → Type 0) (to : L) (answer : Reply K V P A) (a b : Core K V P A) (bytes : ℕ → ℕ → ℕ) → DrivesBy (IsBatchBegun m f Appends from to answer) m a b bytes bytes
        → DrivesForCause came (AllSteps IsWaiting) m a b bytes bytes
    begun_for_cause came to answer a b bytes begins s sound w stands same =
        let driven = begins s sound w stands same in
        (driven.0, waiting_in to answer (driven.0).events driven.1, causes_in came (machine m s sound) w to answer (driven.0).events driven.1)

  -- the log's outcome leaves the other flushers alone
  pub logged_keeps : (answer noted : Reply K V P A) (outcome : Result Unit Error) (a b c : Core K V P A) → Refines m (step.FlushBegin f) answer a b → Refines m (step.LogWrote f outcome) noted b c
      → Leads m (KeepsOthers f) a c
  logged_keeps answer noted outcome a b c begins logs =
      leads_more m (KeepsOthers f) (KeepsOthers f) (KeepsOthers f) a b c (keeps_more f) (begin_keeps m f answer a b begins) (λ s sound it at.
      let met = logs s sound it at in
      (met.after, met.stands, follows_keep (machine m s sound) (layout s) it met.after f (model_step.LogWrote f (went_well outcome)) met.it refl met.follows))

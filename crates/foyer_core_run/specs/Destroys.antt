-- A destroy's clear, with the cleans of all blocks in their place.
use Rattle.std.specs.Prelude.{◌≡◌, ◌≢◌, ℕ, zero, suc, ◌<◌, ◌≤◌, Bool, List, [], ◌∷◌, ◌++◌, Option, None}
use Rattle.foyer_core_model.specs.Access.{CleanIssued}
use Rattle.foyer_core_model.specs.Kind.{Kind}
use Rattle.foyer_core_model.specs.Reply as model_reply
use Rattle.foyer_core_model.specs.State.{State}
use Rattle.foyer_core_model.specs.Step as model_step
use Rattle.foyer_core_model.specs.World.{World, WorldEvent, Applies, CleanBegins, CleanEnds, after_all}
use Rattle.foyer_core_laws.specs.Content.{Content, Meaning}
use Rattle.foyer_core_laws.specs.CoreRules.{machine}
use Rattle.foyer_core_laws.specs.Sizes.{AreValid}
use Rattle.foyer_core_laws.specs.Settings.{Settings}
use Rattle.foyer_core_steps.specs.Replied.{IsReply}
use Rattle.foyer_core_steps.specs.StateOf.{IsStateOf}
use Rattle.foyer_core_steps.specs.declared.reply.Reply.{Reply}
use Rattle.foyer_core_steps.specs.declared.state.Core.{Core}
use Rattle.foyer_core_run.specs.Causes.{AreForCause, DrivesForCause}
use Rattle.foyer_core_run.specs.Driven.{IsDriven}
use Rattle.foyer_core_run.specs.Reclaims.{EndsBy}
use Rattle.foyer_core_run.specs.Waiting.{AllSteps, DrivesBy, IsWaiting}

-- behind these events the clean of a block, and the step that brings its result
pub record IsCleanBehind {C : Type 0} (b : ℕ) (Before : List (WorldEvent C) → Type 0) (events : List (WorldEvent C)) : Type 0 where
  pub before : List (WorldEvent C)
  pub is_ok : Bool
  pub torn : ℕ → ℕ
  pub fault : Option Kind
  pub it : model_reply.Reply C
  pub after : State C
  pub is : events ≡ before ++ CleanBegins b ∷ CleanEnds b is_ok torn ∷ Applies (model_step.DestroyCleaned b fault) it after ∷ []
  pub all : Before before

-- the cleans of the first n blocks, each once and in order, and nothing else
abbrev pub AreCleansUpTo : {C : Type 0} → (n : ℕ) → List (WorldEvent C) → Type 0
AreCleansUpTo zero events = events ≡ []
AreCleansUpTo (suc n) events = IsCleanBehind n (AreCleansUpTo n) events

-- a step that a destroy makes: it neither puts, deletes nor loads, and doesn't close
abbrev pub IsDestroying : {C : Type 0} → model_step.Step C → Type 0
IsDestroying model_step.DestroyBegin = Unit {0}
IsDestroying model_step.DestroyClear = Unit {0}
IsDestroying (model_step.DestroyCleaned b fault) = Unit {0}
IsDestroying step = IsWaiting step

-- the index is cleared by one of these events
pub record HasCleared {C : Type 0} (events : List (WorldEvent C)) : Type 0 where
  pub before : List (WorldEvent C)
  pub blocks : List ℕ
  pub after : State C
  pub rest : List (WorldEvent C)
  pub is : events ≡ before ++ Applies model_step.DestroyClear (model_reply.Cleared blocks) after ∷ rest

-- one of these events cleared the index, and the last one is a step that ended the destroy, of whose cleans none failed
pub record HasDestroyed {C : Type 0} (events : List (WorldEvent C)) : Type 0 where
  pub cleared : HasCleared events
  pub before : List (WorldEvent C)
  pub given : model_step.Step C
  pub after : State C
  pub is : events ≡ before ++ Applies given (model_reply.Destroyed None) after ∷ []

-- in this world the cleans of the blocks from i on, up to n, are issued and haven't begun
abbrev pub AwaitCleans : {C : Type 0} → (i n : ℕ) → World C → Type 0
AwaitCleans i n w = (b : ℕ) → i ≤ b → b < n → w.clean_states b ≡ CleanIssued

-- From each world whose core and bytes are those before, such steps lead to those after. If `IsDone` holds, the steps destroyed all.
abbrev pub Destroys : {K V P A : Type 0} → (IsDone : Type 0) → Meaning K V P → Core K V P A → Core K V P A → (old_bytes new_bytes : ℕ → ℕ → ℕ) → Type 0
Destroys IsDone m old new old_bytes new_bytes = DrivesBy (λ events. AllSteps IsDestroying events × (IsDone → HasDestroyed events)) m old new old_bytes new_bytes

-- And each access that failed has a cause.
abbrev pub DestroysForCause : {K V P A : Type 0} → (came : ℕ → ℕ → ℕ → Type 0) → (IsDone : Type 0) → Meaning K V P → Core K V P A → Core K V P A → (old_bytes new_bytes : ℕ → ℕ → ℕ) → Type 0
DestroysForCause came IsDone m old new old_bytes new_bytes = DrivesForCause came (λ events. AllSteps IsDestroying events × (IsDone → HasDestroyed events)) m old new old_bytes new_bytes

module _ {K V P A : Type 0} (m : Meaning K V P) where
  -- the index was cleared, then come the cleans of so many blocks, and the last step was answered so
  pub record IsClearing (n : ℕ) (last : Reply K V P A) (events : List (WorldEvent Content)) : Type 0 where
    pub blocks : List ℕ
    pub after : State Content
    pub rest : List (WorldEvent Content)
    pub is : events ≡ Applies model_step.DestroyClear (model_reply.Cleared blocks) after ∷ rest
    pub cleans : AreCleansUpTo n rest
    pub ends : EndsBy m last events

  -- the index wasn't cleared, since the step was answered so
  pub record IsUncleared (last : Reply K V P A) (events : List (WorldEvent Content)) : Type 0 where
    pub it : model_reply.Reply Content
    pub after : State Content
    pub is : events ≡ Applies model_step.DestroyClear it after ∷ []
    pub reply : IsReply m last it

  -- from each world whose core and bytes are those before, steps lead to one in which the cleans from i on await their turn; if a clean
  -- failed, it isn't sure that the clean came
  abbrev pub ClearsUpTo : (came : ℕ → ℕ → ℕ → Type 0) → (i : ℕ) → Reply K V P A → (old new : Core K V P A) → (old_bytes new_bytes : ℕ → ℕ → ℕ) → Type 0
  ClearsUpTo came i last old new old_bytes new_bytes =
      (s : Settings) (sound : AreValid s) (w : World Content) → IsStateOf m s old w.core → ((b o : ℕ) → w.bytes b o ≡ old_bytes b o)
      → (driven : IsDriven m s sound w new new_bytes) × IsClearing i last driven.events × AwaitCleans i s.blocks (after_all (machine m s sound) w driven.events)
      × AreForCause came (machine m s sound) w driven.events

  -- The clean of a block, and then the step that brings the clean's result and is answered so. The cleans of the other blocks are as they
  -- were.
  pub record IsCleanedOnce (s : Settings) (sound : AreValid s) (b : ℕ) (last : Reply K V P A) (w : World Content) (events : List (WorldEvent Content)) : Type 0 where
    pub is_ok : Bool
    pub torn : ℕ → ℕ
    pub fault : Option Kind
    pub it : model_reply.Reply Content
    pub after : State Content
    pub is : events ≡ CleanBegins b ∷ CleanEnds b is_ok torn ∷ Applies (model_step.DestroyCleaned b fault) it after ∷ []
    pub reply : IsReply m last it
    pub others : (q : ℕ) → q ≢ b → (after_all (machine m s sound) w events).clean_states q ≡ w.clean_states q

  -- if it failed, it isn't one of which it is sure that it came
  abbrev pub Cleans : (came : ℕ → ℕ → ℕ → Type 0) → (b : ℕ) → Reply K V P A → (old new : Core K V P A) → (old_bytes new_bytes : ℕ → ℕ → ℕ) → Type 0
  Cleans came b last old new old_bytes new_bytes =
      (s : Settings) (sound : AreValid s) (w : World Content) → IsStateOf m s old w.core → ((c o : ℕ) → w.bytes c o ≡ old_bytes c o) → w.clean_states b ≡ CleanIssued
      → (driven : IsDriven m s sound w new new_bytes) × IsCleanedOnce s sound b last w driven.events × AreForCause came (machine m s sound) w driven.events

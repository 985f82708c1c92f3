-- A reclaim of a block, with its accesses in their place.
use Rattle.std.specs.Prelude.{◌≡◌, ◌⊎◌, ℕ, List, [], ◌∷◌, ◌++◌, Option, Some, None}
use Rattle.foyer_core_run.specs.AtRest.{KeepsIdle}
use Rattle.foyer_core_model.specs.Access.{ReadIssued}
use Rattle.foyer_core_model.specs.Reply as model_reply
use Rattle.foyer_core_model.specs.State.{AtRecord, Reclaim, Stage, State}
use Rattle.foyer_core_model.specs.Step as model_step
use Rattle.foyer_core_model.specs.World.{World, WorldEvent, Applies, ScanBegins, ScanEnds, CleanBegins, CleanEnds, after_all}
use Rattle.foyer_core_laws.specs.Content.{Content, Meaning}
use Rattle.foyer_core_laws.specs.CoreRules.{machine}
use Rattle.foyer_core_laws.specs.Sizes.{AreValid}
use Rattle.foyer_core_laws.specs.Settings.{Settings}
use Rattle.foyer_core_steps.specs.Refines.{IsHandedBack}
use Rattle.foyer_core_steps.specs.Replied.{IsReply}
use Rattle.foyer_core_steps.specs.StateOf.{IsStateOf}
use Rattle.foyer_core_steps.specs.declared.reply.Reply.{Reply}
use Rattle.foyer_core_steps.specs.declared.reply.Reply.TheVariants as reply
use Rattle.foyer_core_steps.specs.declared.state.Core.{Core}
use Rattle.foyer_core_run.specs.Driven.{IsDriven}
use Rattle.foyer_core_run.specs.Waiting.{DrivesBy}
use Rattle.foyer_core_access.specs.declared.reclaims.Part.{Part}

-- a step or an access of the reclaim of this block, behind its beginning
abbrev pub IsReclaiming : {C : Type 0} → (block : ℕ) → WorldEvent C → Type 0
IsReclaiming b (Applies (model_step.ReclaimRead c came) it after) = c ≡ b
IsReclaiming b (Applies (model_step.ReclaimForget c) it after) = c ≡ b
IsReclaiming b (Applies (model_step.ReclaimCleaned c is_ok) it after) = c ≡ b
IsReclaiming b (ScanBegins c) = c ≡ b
IsReclaiming b (ScanEnds c came) = c ≡ b
IsReclaiming b (CleanBegins c) = c ≡ b
IsReclaiming b (CleanEnds c is_ok torn) = c ≡ b
IsReclaiming b event = ⊥

-- each of these events is one
abbrev pub AreReclaiming : {C : Type 0} → (block : ℕ) → List (WorldEvent C) → Type 0
AreReclaiming b [] = Unit {0}
AreReclaiming b (event ∷ events) = IsReclaiming b event × AreReclaiming b events

-- a read of this reclaim, or a step that brings what came
abbrev pub IsReading : {C : Type 0} → (block : ℕ) → WorldEvent C → Type 0
IsReading b (Applies (model_step.ReclaimRead c came) it after) = c ≡ b
IsReading b (ScanBegins c) = c ≡ b
IsReading b (ScanEnds c came) = c ≡ b
IsReading b event = ⊥

-- each of these events is one
abbrev pub AreReading : {C : Type 0} → (block : ℕ) → List (WorldEvent C) → Type 0
AreReading b [] = Unit {0}
AreReading b (event ∷ events) = IsReading b event × AreReading b events

-- behind a beginning that was answered so: of a picked block its reclaim, else nothing
abbrev pub GoesOn : {C : Type 0} → model_reply.Reply C → List (WorldEvent C) → Type 0
GoesOn (model_reply.Picked b answers probation) events = AreReclaiming b events
GoesOn it events = events ≡ []

module _ {K V P A : Type 0} (m : Meaning K V P) where
  -- the last of these events is a step that was answered so
  pub record EndsBy (last : Reply K V P A) (events : List (WorldEvent Content)) : Type 0 where
    pub before : List (WorldEvent Content)
    pub given : model_step.Step Content
    pub it : model_reply.Reply Content
    pub after : State Content
    pub is : events ≡ before ++ Applies given it after ∷ []
    pub reply : IsReply m last it

  -- The first of these events is a ReclaimBegin. If it picked a block, steps and accesses of the reclaim of this block
  -- follow. The last step was answered so.
  pub record IsReclaim (last : Reply K V P A) (events : List (WorldEvent Content)) : Type 0 where
    pub it : model_reply.Reply Content
    pub after : State Content
    pub rest : List (WorldEvent Content)
    pub is : events ≡ Applies model_step.ReclaimBegin it after ∷ rest
    pub goes_on : GoesOn it rest
    pub ends : EndsBy last events

  -- from each world whose core and bytes are those before
  abbrev pub Reclaims : Reply K V P A → (old new : Core K V P A) → (old_bytes new_bytes : ℕ → ℕ → ℕ) → Type 0
  Reclaims last old new old_bytes new_bytes = DrivesBy (IsReclaim last) m old new old_bytes new_bytes

  -- from each state of the model that the core stood for, a reclaim is done, or its last step was returned
  abbrev pub IsOver : Core K V P A → Reply K V P A → Type 0
  IsOver old last = (s : Settings) → AreValid s → (it : State Content) → IsStateOf m s old it → (last ≡ reply.Done) ⊎ IsHandedBack last

-- in this world the reclaim of a block awaits this part, if any
abbrev pub IsAwaited : {C : Type 0} → (block : ℕ) → Option Part → World C → Type 0
IsAwaited b None w = Unit {0}
IsAwaited b (Some part) w = w.scans b ≡ Some (record { offset = part.offset; len = part.len; read_state = ReadIssued })

-- This holds for each world that has the old core and bytes, and in which the reclaim of the block awaits one part. The
-- reclaim's reads, and the steps that bring them, lead from this world to a world in which the reclaim awaits the next
-- part.
abbrev pub Reads : {K V P A : Type 0} → Meaning K V P → (block : ℕ) → (part next : Option Part) → (old new : Core K V P A) → (bytes : ℕ → ℕ → ℕ) → Type 0
Reads m b part next old new bytes =
    (s : Settings) (sound : AreValid s) (w : World Content) → IsStateOf m s old w.core → ((b o : ℕ) → w.bytes b o ≡ bytes b o) → IsAwaited b part w
    → (driven : IsDriven m s sound w new bytes) × AreReading b driven.events × IsAwaited b next (after_all (machine m s sound) w driven.events)

-- no record is read
abbrev pub IsUnread : Stage → Type 0
IsUnread (AtRecord h a rest place) = ⊥
IsUnread stage = Unit {0}

-- nor by the reclaim of this block, if one runs
abbrev pub IsUnreadIn : Option Reclaim → Type 0
IsUnreadIn None = Unit {0}
IsUnreadIn (Some r) = IsUnread r.stage

-- if the reclaim of this block reads no record before, it reads none afterwards, and flushers that were idle stay idle
abbrev pub KeepsUnread : {C : Type 0} → (block : ℕ) → State C → State C → Type 0
KeepsUnread b old new = IsUnreadIn (old.reclaims b) → KeepsIdle old new × IsUnreadIn (new.reclaims b)

-- A batch that begins, with its marks in the log of deletes.
use Rattle.std.specs.Prelude.{◌≡◌, ℕ, Bool, List, [], ◌∷◌, Result}
use Rattle.std.specs.declared.vec.Vec.{Vec}
use Rattle.foyer_block_index.specs.declared.tombstone.Tombstone.{Tombstone}
use Rattle.foyer_device_page.specs.declared.error.Error.{Error}
use Rattle.foyer_core_model.specs.Reply as model_reply
use Rattle.foyer_core_model.specs.State.{State}
use Rattle.foyer_core_model.specs.Step as model_step
use Rattle.foyer_core_model.specs.World.{WorldEvent, Applies}
use Rattle.foyer_core_laws.specs.Content.{Content, Meaning}
use Rattle.foyer_core_steps.specs.Asked.{went_well}
use Rattle.foyer_core_steps.specs.Replied.{IsReply}
use Rattle.foyer_core_steps.specs.declared.reply.Reply.{Reply}
use Rattle.foyer_core_steps.specs.declared.reply.Reply.TheVariants as reply

-- what a log of this kind makes of itself as it appends marks, with the outcome
abbrev pub Appending : Type 0 → Type 1
Appending L = L → List Tombstone → L → Result Unit Error → Type 0

-- this answer says that no batch began
abbrev pub BeginsNoBatch : {K V P A : Type 0} → Reply K V P A → Type 0
BeginsNoBatch (reply.Began blocks marks) = ⊥
BeginsNoBatch answer = Unit {0}

module _ {K V P A : Type 0} (m : Meaning K V P) (f : ℕ) where
  -- a flusher's batch began with these marks, the log was given exactly them, and its outcome was brought
  pub record IsLogged (blocks : ℕ) (marks : List Tombstone) (Appends : Result Unit Error → Type 0) (said : Reply K V P A) (events : List (WorldEvent Content)) : Type 0 where
    pub begun : model_reply.Reply Content
    pub after : State Content
    pub outcome : Result Unit Error
    pub it : model_reply.Reply Content
    pub last : State Content
    pub is : events ≡ Applies (model_step.FlushBegin f) begun after ∷ Applies (model_step.LogWrote f (went_well outcome)) it last ∷ []
    pub reply : IsReply m said begun
    pub appended : Appends outcome

  -- no batch began, since the step was answered so
  pub record IsUnbegun (said : Reply K V P A) (events : List (WorldEvent Content)) : Type 0 where
    pub it : model_reply.Reply Content
    pub after : State Content
    pub is : events ≡ Applies (model_step.FlushBegin f) it after ∷ []
    pub reply : IsReply m said it

  -- One of the two holds. If no batch began, the log is as it was.
  abbrev pub IsBatchBegun : {L : Type 0} → Appending L → L → L → Reply K V P A → List (WorldEvent Content) → Type 0
  IsBatchBegun Appends old new (reply.Began blocks marks) events = IsLogged blocks marks.items (Appends old marks.items new) (reply.Began blocks marks) events
  IsBatchBegun Appends old new said events = (new ≡ old) × IsUnbegun said events

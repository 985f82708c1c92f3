-- Drives whose accesses fail for cause alone, one after the other.
use Rattle.std.proofs.Common.{◌≡◌, ◌≤◌, ℕ, List, [], ◌∷◌, ◌++◌, sym, ap, subst, ◌∙◌}
use Rattle.foyer_io_disk.proofs.FaultLemmas.{none_before, none_behind}
use Rattle.foyer_core_model.specs.Reply as model_reply
use Rattle.foyer_core_model.specs.State.{State}
use Rattle.foyer_core_model.specs.World.{World, WorldEvent, Applies, IsFed, after_all}
use Rattle.foyer_core_laws.specs.Content.{Content, Meaning}
use Rattle.foyer_core_laws.specs.CoreRules.{layout, machine, IsEncoded}
use Rattle.foyer_core_laws.specs.Sizes.{AreValid}
use Rattle.foyer_core_laws.specs.Settings.{Settings}
use Rattle.foyer_core_steps.specs.Asked.{step_of}
use Rattle.foyer_core_steps.specs.Refines.{Refines}
use Rattle.foyer_core_steps.specs.StateOf.{IsStateOf}
use Rattle.foyer_core_steps.specs.declared.reply.Reply.{Reply}
use Rattle.foyer_core_steps.specs.declared.state.Core.{Core}
use Rattle.foyer_core_steps.specs.declared.step.Step.{Step}
use Rattle.foyer_core_run.specs.Causes.{DrivesForCause, HasCome}
use Rattle.foyer_core_run.specs.Waiting.{DrivesBy}
use Rattle.foyer_core_run.proofs.FaultLists.{causes_join, causes_within}
use Rattle.foyer_core_run.proofs.RunLemmas.{after_more, happen_more}

-- what has come from one disk to the last has come to one on the way
module _ {D : Type 0} (lies : D → ℕ → ℕ → ℕ → Type 0) (faults : D → ℕ) (a b c : D) (up : faults a ≤ faults b) (on : faults b ≤ faults c) where
  pub come_before : (x o n : ℕ) → HasCome lies faults a c x o n → HasCome lies faults a b x o n
  come_before x o n is = (none_before (faults a) (faults b) (faults c) up on is.0, is.1)

  -- and from there on, if its range still lies there
  pub come_behind : ((x o n : ℕ) → lies a x o n → lies b x o n) → (x o n : ℕ) → HasCome lies faults a c x o n → HasCome lies faults b c x o n
  come_behind lying x o n is = (none_behind (faults a) (faults b) (faults c) up on is.0, lying x o n is.1)

module _ {K V P A : Type 0} (m : Meaning K V P) where
  -- nothing happens
  pub cause_none : (came : ℕ → ℕ → ℕ → Type 0) (Are : List (WorldEvent Content) → Type 0) → Are [] → (core : Core K V P A) (bytes : ℕ → ℕ → ℕ) → DrivesForCause came Are m core core bytes bytes
  cause_none came Are are core bytes s sound w stands same = (record { events = []; happened = tt; stands = stands; same = same }, are, tt)

  -- a step that brings no result
  pub cause_stepped : (came : ℕ → ℕ → ℕ → Type 0) (Are : List (WorldEvent Content) → Type 0) (given : Step K V P A) (answer : Reply K V P A) (old new : Core K V P A) (bytes : ℕ → ℕ → ℕ)
      → ((s : Settings) (sound : AreValid s) (w : World Content) → IsFed (machine m s sound) (layout s) (IsEncoded m.is_key m.is_value) w (step_of m given))
      → ((it : model_reply.Reply Content) (st : State Content) → Are (Applies (step_of m given) it st ∷ []))
      → Refines m given answer old new → DrivesForCause came Are m old new bytes bytes
  cause_stepped came Are given answer old new bytes fed are meets s sound w stands same =
      let met = meets s sound w.core stands in (
        record {
          events = Applies (step_of m given) met.it met.after ∷ [];
          happened = ((fed s sound w, met.follows), tt);
          stands = met.stands;
          same = same;
        },
        are met.it met.after,
        (tt, tt),
      )

  -- one after the other
  module _ (came before behind : ℕ → ℕ → ℕ → Type 0) (within : (b o n : ℕ) → came b o n → before b o n) (more : (b o n : ℕ) → came b o n → behind b o n)
      (One Two All : List (WorldEvent Content) → Type 0) (join : (one two : List (WorldEvent Content)) → One one → Two two → All (one ++ two)) where
    pub cause_more : (a b c : Core K V P A) (x y z : ℕ → ℕ → ℕ) → DrivesForCause before One m a b x y → DrivesForCause behind Two m b c y z → DrivesForCause came All m a c x z
    cause_more a b c x y z first then s sound w stands same =
        let one = first s sound w stands same in
        let rules = machine m s sound in
        let v = after_all rules w (one.0).events in
        let two = then s sound v (one.0).stands (one.0).same in (
          record {
            events = (one.0).events ++ (two.0).events;
            happened = happen_more rules (layout s) (IsEncoded m.is_key m.is_value) w (one.0).events (two.0).events (one.0).happened (two.0).happened;
            stands = subst (λ u. IsStateOf m s c u.core) (sym (after_more rules w (one.0).events (two.0).events)) (two.0).stands;
            same = λ b o. ap (λ u. u.bytes b o) (after_more rules w (one.0).events (two.0).events) ∙ (two.0).same b o;
          },
          join (one.0).events (two.0).events one.1 two.1,
          causes_join came rules w (one.0).events (two.0).events
              (causes_within within rules w (one.0).events one.2)
              (causes_within more rules v (two.0).events two.2),
        )

  -- by events of this kind, whatever failed
  pub cause_drives : (came : ℕ → ℕ → ℕ → Type 0) (Are : List (WorldEvent Content) → Type 0) (a b : Core K V P A) (x y : ℕ → ℕ → ℕ) → DrivesForCause came Are m a b x y → DrivesBy Are m a b x y
  cause_drives came Are a b x y drives s sound w stands same = let driven = drives s sound w stands same in (driven.0, driven.1)

  -- if fewer accesses are sure
  pub cause_fewer : (fewer more : ℕ → ℕ → ℕ → Type 0) → ((b o n : ℕ) → fewer b o n → more b o n) → (Are : List (WorldEvent Content) → Type 0) (a b : Core K V P A) (x y : ℕ → ℕ → ℕ)
      → DrivesForCause more Are m a b x y → DrivesForCause fewer Are m a b x y
  cause_fewer fewer more within Are a b x y drives s sound w stands same =
      let driven = drives s sound w stands same in (driven.0, driven.1, causes_within within (machine m s sound) w (driven.0).events driven.2)

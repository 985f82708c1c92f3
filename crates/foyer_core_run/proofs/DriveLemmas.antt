-- What drives a core: runs, fronts of runs, single steps, and one after the other.
use Rattle.std.proofs.Common.{◌≡◌, ℕ, false, List, [], ◌∷◌, ◌++◌, length, replicate, Option, Some, None, refl, sym, ap, subst, ◌∙◌}
use Rattle.foyer_core_model.specs.World.{World, WorldEvent, after_all}
use Rattle.foyer_core_steps.specs.Answered.{HandsBack}
use Rattle.foyer_core_laws.specs.Content.{Content, Meaning}
use Rattle.foyer_core_laws.specs.CoreRules.{layout}
use Rattle.foyer_core_steps.specs.Refines.{IsRefined}
use Rattle.foyer_core_laws.specs.CoreRules.{machine}
use Rattle.foyer_core_laws.specs.CoreRules.{IsEncoded}
use Rattle.foyer_core_laws.specs.Sizes.{AreValid}
use Rattle.foyer_core_steps.specs.StateOf.{IsStateOf}
use Rattle.foyer_core_steps.specs.declared.reply.Reply.{Reply}
use Rattle.foyer_core_steps.specs.declared.reply.Reply.TheVariants as reply
use Rattle.foyer_core_laws.specs.Settings.{Settings}
use Rattle.foyer_core_steps.specs.declared.state.Core.{Core}
use Rattle.foyer_core_steps.specs.declared.step.Step.{Step}
use Rattle.foyer_core_run.specs.Accesses.{Says, Writes, writes_of}
use Rattle.foyer_core_run.specs.Driven.{Drives}
use Rattle.foyer_core_run.specs.Moves.{asked}
use Rattle.foyer_core_run.specs.Newest.{IsHistory}
use Rattle.foyer_core_run.specs.Running.{IsFree, cleans_noted, issuing_in, scans_noted, ticket_in, with_ticket}
use Rattle.foyer_core_run.specs.Runs.{IsFront, Runs}
use Rattle.foyer_core_run.specs.declared.moves.Asked.TheVariants as asks
use Rattle.foyer_core_run.specs.declared.moves.Move.{Move}
use Rattle.foyer_core_run.proofs.AccessLemmas.{nowhere, says_last, step_alone, uncleaned, unnoted, unscanned}
use Rattle.foyer_core_run.proofs.RunLemmas.{after_more, going_first, happen_more}
use Rattle.foyer_core_run.proofs.StepLemmas.{Encodes, step_moves}

module _ {K V P A : Type 0} (m : Meaning K V P) where
  -- nothing happens
  pub drives_none : (core : Core K V P A) (bytes : ℕ → ℕ → ℕ) → Drives m core core bytes bytes
  drives_none core bytes s sound w stands same = record { events = []; happened = tt; stands = stands; same = same }

  -- one after the other
  pub drives_more : (a b c : Core K V P A) (x y z : ℕ → ℕ → ℕ) → Drives m a b x y → Drives m b c y z → Drives m a c x z
  drives_more a b c x y z first then s sound w stands same =
      let one = first s sound w stands same in
      let rules = machine m s sound in
      let v = after_all rules w one.events in
      let two = then s sound v one.stands one.same in record {
        events = one.events ++ two.events;
        happened = happen_more rules (layout s) (IsEncoded m.is_key m.is_value) w one.events two.events one.happened two.happened;
        stands = subst (λ u. IsStateOf m s c u.core) (sym (after_more rules w one.events two.events)) two.stands;
        same = λ b o. ap (λ u. u.bytes b o) (after_more rules w one.events two.events) ∙ two.same b o;
      }

  pub runs_drive : (moves : List (Move K V P A)) (said : List (Reply K V P A)) (a b : Core K V P A) (x y : ℕ → ℕ → ℕ) → Runs m moves said a b x y → Drives m a b x y
  runs_drive moves said a b x y runs s sound w stands same =
      let run = runs s sound w stands same in record { events = run.events; happened = run.happened; stands = run.stands; same = run.same }

  pub front_drives : (moves : List (Move K V P A)) (a b : Core K V P A) (x y : ℕ → ℕ → ℕ) → IsFront m moves a b x y → Drives m a b x y
  front_drives moves a b x y is = runs_drive is.front is.said a b x y is.runs

  pub says_drive : (moves : List (Move K V P A)) (last : Reply K V P A) (a b : Core K V P A) (x y : ℕ → ℕ → ℕ) → Says m moves last a b x y → Drives m a b x y
  says_drive moves last a b x y says = runs_drive moves (says.before ++ last ∷ []) a b x y says.runs

  pub writes_drive : (f : ℕ) (last : Option (Reply K V P A)) (a b : Core K V P A) (x y : ℕ → ℕ → ℕ) → Writes m f last a b x y → Drives m a b x y
  writes_drive f None a b x y all = runs_drive (writes_of f (length all.writes.items)) (reply.Write all.block all.writes ∷ replicate (length all.writes.items) reply.Next) a b x y all.runs
  writes_drive f (Some last) a b x y until = says_drive (writes_of f until.count) last a b x y until.says

  -- a step that brings no result and issues no write
  pub step_drives : (encodes : Encodes m) (given : Step K V P A) (answer : Reply K V P A) (old new : Core K V P A) (bytes : ℕ → ℕ → ℕ)
      → IsFree given → HandsBack given answer old new
      → ((s : Settings) (sound : AreValid s) (v : World Content) → IsStateOf m s old v.core → IsRefined m s sound given answer new v.core)
      → Drives m old new bytes bytes
  step_drives encodes given answer old new bytes free back meets s sound w stands same =
      let going = going_first m s sound nowhere w (unnoted s) (unscanned s) (uncleaned s) old bytes stands same refl refl refl in
      let rules = machine m s sound in
      let v = after_all rules w going.events in
      let moved = step_moves m s sound encodes nowhere w given answer [] (with_ticket (ticket_in answer) []) (unnoted s) (unscanned s) (scans_noted (issuing_in given) s.blob_index_size answer (unscanned s))
      (uncleaned s) (cleans_noted (issuing_in given) answer (uncleaned s)) [] (answer ∷ []) old new bytes v going.running free back (meets s sound v (going.running).stands) refl refl refl refl in record {
        events = going.events ++ moved.events;
        happened = happen_more rules (layout s) (IsEncoded m.is_key m.is_value) w going.events moved.events going.happened moved.happened;
        stands = subst (λ u. IsStateOf m s new u.core) (sym (after_more rules w going.events moved.events)) (moved.running).stands;
        same = λ b o. ap (λ u. u.bytes b o) (after_more rules w going.events moved.events) ∙ (moved.running).same b o;
      }

  -- the same, as a run of the move that is this step
  pub step_says : (encodes : Encodes m) (x : Move K V P A) (given : Step K V P A) (answer : Reply K V P A) (old new : Core K V P A) (bytes : ℕ → ℕ → ℕ)
      → asked x ≡ asks.Step given → IsFree given → HandsBack given answer old new
      → ((s : Settings) (sound : AreValid s) (v : World Content) → IsStateOf m s old v.core → IsRefined m s sound given answer new v.core)
      → Says m (x ∷ []) answer old new bytes bytes
  step_says encodes x given answer old new bytes is free back meets =
      says_last m false (x ∷ []) (with_ticket (ticket_in answer) []) (λ s. scans_noted (issuing_in given) s.blob_index_size answer (unscanned s)) (λ s. cleans_noted (issuing_in given) answer (uncleaned s)) [] answer old new bytes bytes
      (λ s sound w stands same. step_alone m s sound encodes w x given answer old new bytes stands same is free back (meets s sound))

  -- a history goes on
  pub history_more : (s : Settings) (sound : AreValid s) (first : World Content) (events : List (WorldEvent Content)) (old new : Core K V P A) (bytes bytes' : ℕ → ℕ → ℕ)
      → IsHistory m s sound first events old bytes → Drives m old new bytes bytes' → (more : List (WorldEvent Content)) × IsHistory m s sound first (events ++ more) new bytes'
  history_more s sound first events old new bytes bytes' history drives =
      let rules = machine m s sound in
      let begun = first in
      let w = after_all rules begun events in
      let driven = drives s sound w history.stands history.same in (
        driven.events,
        record {
          opened = history.opened;
          happened = happen_more rules (layout s) (IsEncoded m.is_key m.is_value) begun events driven.events history.happened driven.happened;
          stands = subst (λ u. IsStateOf m s new u.core) (sym (after_more rules begun events driven.events)) driven.stands;
          same = λ b o. ap (λ u. u.bytes b o) (after_more rules begun events driven.events) ∙ driven.same b o;
        },
      )

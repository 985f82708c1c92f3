-- A load and a block's writes, each with its accesses in their place: as runs of moves.
use Rattle.std.specs.Prelude.{◌≢◌, ℕ, Bool, List, [], ◌∷◌, ◌++◌, length, replicate, Option, Some, None}
use Rattle.std.specs.declared.vec.Vec.{Vec}
use Rattle.foyer_core_model.specs.State.{State}
use Rattle.foyer_core_laws.specs.Content.{Content, Meaning}
use Rattle.foyer_core_laws.specs.Sizes.{AreValid}
use Rattle.foyer_core_laws.specs.Settings.{Settings}
use Rattle.foyer_core_steps.specs.StateOf.{IsStateOf}
use Rattle.foyer_core_steps.specs.declared.reply.Reply.{Reply}
use Rattle.foyer_core_steps.specs.declared.reply.Reply.TheVariants as reply
use Rattle.foyer_core_steps.specs.Write.{Write}
use Rattle.foyer_core_steps.specs.declared.state.Core.{Core}
use Rattle.foyer_core_run.specs.Runs.{Runs}
use Rattle.foyer_core_run.specs.declared.moves.Move.{Move}
use Rattle.foyer_core_run.specs.declared.moves.Move.TheVariants as move

-- a look-up, and the end of its load: the run's first ticket is the look-up's
abbrev pub load_of : {K V P A : Type 0} → ℕ → Bool → List (Move K V P A)
load_of hash throttled = move.LoadBegin hash throttled ∷ move.LoadEnd 0 ∷ []

-- a block of a flusher, and so many of its writes
abbrev pub writes_of : {K V P A : Type 0} → ℕ → ℕ → List (Move K V P A)
writes_of flusher n = move.FlushBlock flusher ∷ replicate n (move.FlushWrote flusher)

-- these moves were run, and this was said last
pub record Says {K V P A : Type 0} (m : Meaning K V P) (moves : List (Move K V P A)) (last : Reply K V P A) (old new : Core K V P A) (old_bytes new_bytes : ℕ → ℕ → ℕ) : Type 0 where
  pub before : List (Reply K V P A)
  pub runs : Runs m moves (before ++ last ∷ []) old new old_bytes new_bytes

-- a block of the flusher was asked for, and so many of its writes were done and reported, of which the last was answered so
pub record WritesUntil {K V P A : Type 0} (m : Meaning K V P) (flusher : ℕ) (last : Reply K V P A) (old new : Core K V P A) (old_bytes new_bytes : ℕ → ℕ → ℕ) : Type 0 where
  pub count : ℕ
  pub says : Says m (writes_of flusher count) last old new old_bytes new_bytes

-- a block was asked for, and all of its writes were done and reported, each of them asking for the next
pub record WritesAll {K V P A : Type 0} (m : Meaning K V P) (flusher : ℕ) (old new : Core K V P A) (old_bytes new_bytes : ℕ → ℕ → ℕ) : Type 0 where
  pub block : ℕ
  pub writes : Vec (Write A) A
  pub runs : Runs m (writes_of flusher (length writes.items)) (reply.Write block writes ∷ replicate (length writes.items) reply.Next) old new old_bytes new_bytes

abbrev pub Writes : {K V P A : Type 0} → Meaning K V P → ℕ → Option (Reply K V P A) → (old new : Core K V P A) → (old_bytes new_bytes : ℕ → ℕ → ℕ) → Type 0
Writes m flusher None old new old_bytes new_bytes = WritesAll m flusher old new old_bytes new_bytes
Writes m flusher (Some last) old new old_bytes new_bytes = WritesUntil m flusher last old new old_bytes new_bytes

-- from each state of the model that the core stood for, the last answer asks for no other write
abbrev pub AsksNoMore : {K V P A : Type 0} → Meaning K V P → Core K V P A → Reply K V P A → Type 0
AsksNoMore m old last = (s : Settings) → AreValid s → (it : State Content) → IsStateOf m s old it → last ≢ reply.Next

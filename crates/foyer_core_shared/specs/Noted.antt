-- What lies behind the lock, and what a session has.
use Rattle.std.specs.Prelude.{◌≡◌, Bool, true, false, List, [], ◌∷◌, ◌++◌, map, Option, Some, None, is_some}
use Rattle.std.specs.Option.{option_map}
use Rattle.foyer_core_steps.specs.declared.state.Core.{Core}
use Rattle.foyer_core_steps.specs.Content.{Meaning}
use Rattle.foyer_core_shared.specs.Briefs.{brief_of}
use Rattle.foyer_core_shared.specs.History.{IsLegal, Made}
use Rattle.foyer_core_shared.specs.Kinds.{tallied}
use Rattle.foyer_core_shared.specs.declared.brief.Brief.{Brief}
use Rattle.foyer_core_tally.specs.declared.kinds.Counts.{Counts}

abbrev pub noted : {K V P A : Type 0} → Made K V P A → Brief
noted x = brief_of x.step x.reply

-- notes that are kept are those of the history
abbrev pub AreNotesOf : {K V P A : Type 0} → List (Made K V P A) → Option (List Brief) → Type 0
AreNotesOf run None = Unit {0}
AreNotesOf run (Some notes) = notes ≡ map noted run

-- Some history leads from an opening to the core, has of each kind as many steps as were counted, and is the one of the notes.
pub record IsNoted {K V P A : Type 0} (m : Meaning K V P) (core : Core K V P A) (notes : Option (List Brief)) (calls : Counts) : Type 0 where
  pub run : List (Made K V P A)
  pub legal : IsLegal m run core
  pub count : calls ≡ tallied (map noted run)
  pub kept : AreNotesOf run notes

-- the notes with one more, if notes are kept
abbrev pub and_note : Brief → Option (List Brief) → Option (List Brief)
and_note x notes = option_map (λ xs. xs ++ x ∷ []) notes

-- before the first step
abbrev pub notes_at_first : Bool → Option (List Brief)
notes_at_first false = None
notes_at_first true = Some []

-- what contracts see of a core with its book and its notes
pub record NotedState (K V P A : Type 0) : Type 0 where
  pub core : Core K V P A
  pub notes : Option (List Brief)
  pub calls : Counts

-- This holds of a core and its notes whenever nobody is at a step. There is such a history, and notes are kept exactly if they
-- are to be.
abbrev pub IsNotedCore : {K V P A : Type 0} → Bool → Meaning K V P → Core K V P A → Option (List Brief) → Counts → Type 0
IsNotedCore keeps m core notes calls = ∥ IsNoted m core notes calls ∥₁ × (is_some notes ≡ keeps)

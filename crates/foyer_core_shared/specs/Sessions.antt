-- A session.
use Rattle.std.specs.Prelude.{◌≡◌, ℕ, ◌+◌, Bool, true, false, Option}
use Rattle.foyer_core_shared.specs.declared.brief.Brief.{Brief}
use Rattle.foyer_core_shared.specs.declared.brief.StepBrief.{StepBrief}
use Rattle.foyer_core_shared.specs.declared.brief.StepBrief.TheVariants as asked
use Rattle.foyer_core_tally.specs.Tally.{Held, saturated}

-- what it has of the book, its last two steps with their replies, newest first, and how many steps of a close and of a destroy it made
pub record SessionState : Type 0 where
  pub shares : Held
  pub newest : Option Brief
  pub before : Option Brief
  pub closes : ℕ
  pub destroys : ℕ

abbrev pub is_close : StepBrief → Bool
is_close asked.Close = true
is_close given = false

-- a destroy's beginning, its clear, and the outcome of one of its cleans
abbrev pub is_destroy : StepBrief → Bool
is_destroy asked.DestroyBegin = true
is_destroy asked.DestroyClear = true
is_destroy (asked.DestroyCleaned block outcome) = true
is_destroy given = false

-- A close, and a step of a destroy, are counted by themselves; both numbers stay at the greatest of 64 bits.
pub record CountsEnds (old new : SessionState) (given : StepBrief) : Type 0 where
  pub unclosed : is_close given ≡ false → new.closes ≡ old.closes
  pub closed : is_close given ≡ true → new.closes ≡ saturated (old.closes + 1)
  pub kept : is_destroy given ≡ false → new.destroys ≡ old.destroys
  pub destroyed : is_destroy given ≡ true → new.destroys ≡ saturated (old.destroys + 1)

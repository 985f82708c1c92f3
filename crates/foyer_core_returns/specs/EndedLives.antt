-- That nothing comes back of a life that a reclaim or a destroy has ended.
use Rattle.std.specs.Prelude.{◌≡◌, ℕ, ◌≤◌, ◌^◌, Bool, true, false, List, ◌∷◌, ◌++◌, Some, None}
use Rattle.foyer_core_model.specs.Laws.{Demands}
use Rattle.foyer_core_model.specs.Opened.{IsOpened}
use Rattle.foyer_core_model.specs.Record.{Address, Indexed}
use Rattle.foyer_core_model.specs.Reply.{Done, Destroyed}
use Rattle.foyer_core_model.specs.Rules.{Rules, Splitting, HasRoundTrip, sizes_of}
use Rattle.foyer_core_model.specs.Step.{ReclaimCleaned, DestroyCleaned}
use Rattle.foyer_core_model.specs.World.{World, WorldEvent, Applies, MayAllHappen, after, after_all}
use Rattle.foyer_core_layout.specs.Splits.{IsLaidOut}
use Rattle.foyer_core_restart.specs.Real.{IsFormat, IsReal}
use Rattle.foyer_core_restart.specs.Restart.{IsStopped}
use Rattle.foyer_block_recover.specs.Opening.{Opened, Opens}
use Rattle.foyer_block_recover.specs.declared.block.recover.RecoverMode.{RecoverMode}
use Rattle.foyer_core_returns.specs.Lives.{cleaned_life, life_from, life_of}
use Rattle.foyer_core_returns.specs.Returns.{HasNoOwnStrays, HasNoTornClean, IsOfLife}

-- With this event a reclaim of the block ends, whose clean succeeded, or a destroy does, of which each clean did.
abbrev pub EndsLife : {C : Type 0} → ℕ → WorldEvent C → Type 0
EndsLife b (Applies (ReclaimCleaned c true) Done new) = c ≡ b
EndsLife b (Applies (DestroyCleaned c fault) (Destroyed None) new) = Unit {0}
EndsLife b event = ⊥

-- A run begins with any opening, of any bytes, and is stopped at any moment after such an event. Whatever opens what it left finds
-- of the block only addresses that were written after that event. The law asks that no clean of the block has failed since.
abbrev pub EndedIsGone : {C : Type 0} → Rules C → Splitting C → (C → Type 0) → Type 0
EndedIsGone {C} rules Splits is_value =
    (first : World C) (before later : List (WorldEvent C)) (end : WorldEvent C) (again : RecoverMode) (marks : List (ℕ × ℕ)) (o : Opened)
    (bytes : ℕ → ℕ → ℕ) (failed : ℕ → ℕ → Bool) (h : ℕ) (a : Address)
    → IsOpened rules first → MayAllHappen rules Splits is_value first (before ++ end ∷ later)
    → EndsLife a.block end → (life_from rules (after rules (after_all rules first before) end) later a.block cleaned_life).has_failed ≡ false
    → IsStopped rules (after_all rules first (before ++ end ∷ later)) bytes
    → HasNoOwnStrays rules (life_of rules first (before ++ end ∷ later)) bytes → HasNoTornClean rules (after_all rules first (before ++ end ∷ later)) bytes
    → Opens (sizes_of rules) rules.blocks bytes again failed marks o → o.index h ≡ Some (Indexed a)
    → IsOfLife (life_from rules (after rules (after_all rules first before) end) later a.block cleaned_life) h a

-- It holds of every layout that keeps its records and is the splitter's, over the real format.
abbrev pub EndedLaw : Type 0 → {C : Type 0} → Rules C → Splitting C → (C → Type 0) → Type 0
EndedLaw A rules Splits is_value = Demands rules Splits is_value → IsReal A rules Splits → EndedIsGone rules Splits is_value

-- So it does of cores whose format is the real one, whose offsets have 32 bits, and whose batches are so laid out.
abbrev pub LaidEndedLaw : {C : Type 0} → Rules C → (C → Type 0) → Type 0
LaidEndedLaw rules is_value = IsFormat rules → rules.block_size ≤ 2 ^ 32 → HasRoundTrip rules is_value
    → EndedIsGone rules (IsLaidOut (sizes_of rules)) is_value
